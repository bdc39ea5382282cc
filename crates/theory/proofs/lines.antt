-- The lines of "undamaged": tests and derivations, each way, and one section written.
pub mod Cover
pub mod Packets
pub mod Sections
pub mod Lines
pub mod Distinct
pub mod Tests
pub mod Judged
pub mod Covering
pub mod Sizes
pub mod Passing
