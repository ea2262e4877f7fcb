-- Laws of searching.
-- Shown: what a search answers, and when. First: what the search for the first answers, beside the search. Stops: it depends on no byte after the
-- header of its match. Order: the order of the sections on the walk. Unread: bytes that change no answer. Modes: streams that read the same in both modes.
pub mod First
pub mod Modes
pub mod Order
pub mod Shown
pub mod Stops
pub mod Unread
