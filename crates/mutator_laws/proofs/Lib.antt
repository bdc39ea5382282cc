pub mod Passed
pub mod Objects
pub mod Taking
pub mod New
pub mod Links
pub mod Levels
pub mod Registers
