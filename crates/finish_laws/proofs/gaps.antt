-- The sweep.
pub mod Runs
pub mod Granules
pub mod Bits
pub mod Pieces
pub mod Code
pub mod Counted
