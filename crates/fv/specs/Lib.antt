pub mod Answer
pub mod Called
pub mod DependencyCalls
pub mod JobCalls
pub mod Packed
pub mod SectionCalls
pub mod VolumeCalls
pub mod OrderCalls
