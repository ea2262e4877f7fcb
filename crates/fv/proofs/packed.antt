-- Laws of src/packed.rt. Copies: the front of a list, copied. Packing: the stores, and which bytes unpacking reads. RoundTrip: a state and its bytes come back.
-- Opened: what opening answers fits.
pub mod Copies
pub mod Opened
pub mod Packing
pub mod RoundTrip
