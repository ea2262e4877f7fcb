-- Laws of src/receiver.rt. For the code: Cases, test by test; Fed, the bytes of a portion one by one; Whole, a header that is whole; Taken, what is
-- taken at once; Sound, that places stay in the arrays. For the theorems: Heads, what a start in the file needs; Late, no fault before its bytes;
-- OneByte, one byte more in the walk; Finishing, what is answered there; Portions, after any portions; Faults, which are found, and when; Holders,
-- that 204 and 205 are of holders.
pub mod Cases
pub mod Faults
pub mod Fed
pub mod Finishing
pub mod Heads
pub mod Holders
pub mod Late
pub mod OneByte
pub mod Portions
pub mod Sound
pub mod Taken
pub mod Whole
