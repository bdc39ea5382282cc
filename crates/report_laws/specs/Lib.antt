pub mod Stretch
pub mod Plane
pub mod Reported
