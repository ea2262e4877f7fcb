-- Laws of appending.
-- Refusals: the rows in order, the answer and the buffer by them. Stores: the bytes that are stored. Longer: the walk of a stream with
-- a leaf more. Stream: how the appended stream reads.
pub mod Longer
pub mod Refusals
pub mod Stores
pub mod Stream
