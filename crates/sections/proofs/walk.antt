-- Laws of the walk.
-- Starts: the walk at each start, without the number that bounds it. Padding: its bytes, and what follows a section. Parts: the bytes of a
-- holder's contents. Inside: every section lies inside its stream. FaultNumbers: which numbers its faults have. Carried: what the code carries along. Turns: the code's loop, turn by turn.
pub mod Carried
pub mod FaultNumbers
pub mod Inside
pub mod Padding
pub mod Parts
pub mod Starts
pub mod Turns
