pub mod Place
pub mod Received
pub mod Receiver
pub mod Steps
pub mod Tally
