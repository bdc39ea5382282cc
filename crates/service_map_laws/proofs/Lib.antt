pub mod Pasted
pub mod Signs
pub mod Lines
pub mod Calls
