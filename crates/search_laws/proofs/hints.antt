-- Objects that become pending, and the hints at them.
pub mod Visiting
pub mod Registers
pub mod Refill
