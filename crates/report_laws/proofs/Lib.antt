pub mod Stretch
pub mod Plane
pub mod Verdict
pub mod Calls
