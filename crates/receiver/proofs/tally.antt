-- Laws of src/tally.rt. Counts: the sections that were met are those of the walk, their number and the one wanted.
pub mod Counts
