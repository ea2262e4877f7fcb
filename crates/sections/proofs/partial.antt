-- Laws of a header of which only the first bytes came.
-- Views: what stands at a start, and how many bytes decide it, test by test. Agree: those bytes decide it.
-- Enough: what the bytes that came say so far.
pub mod Agree
pub mod Enough
pub mod Views
