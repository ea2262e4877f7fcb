pub mod SampleA
pub mod SamplePI
