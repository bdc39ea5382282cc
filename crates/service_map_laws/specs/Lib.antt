pub mod Pasted
pub mod Ends
pub mod Mapped
