-- Laws of the section header.
-- Sizes: what the size reader meets, test by test. Tests: the header at a start, by what the size reader answers and a holder's fields.
-- Cases: what stands at a start, exactly: the first fault that applies, or which section. Extent: where a section and its contents lie.
-- Decided: which bytes decide a header.
pub mod Cases
pub mod Decided
pub mod Extent
pub mod Sizes
pub mod Tests
