pub mod Reserved
