pub mod Answers
pub mod Lists
pub mod Refusal
pub mod Refusals
