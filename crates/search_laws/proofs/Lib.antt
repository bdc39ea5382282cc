pub mod Planes
pub mod hints
pub mod follow
