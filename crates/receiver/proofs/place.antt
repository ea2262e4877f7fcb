-- Laws of src/place.rt. Cases: what comes next, test by test. Padded: padding, one test a byte. Standing: where a receiver stands in the walk of the
-- file, inside which streams. Entering: a section entered there.
pub mod Cases
pub mod Entering
pub mod Padded
pub mod Standing
