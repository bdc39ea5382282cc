-- The objects whose links a finish follows first.
pub mod Bared
pub mod Opening
pub mod Registers
pub mod Listing
