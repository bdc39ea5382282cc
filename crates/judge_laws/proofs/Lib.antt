pub mod Objects
pub mod Words
pub mod Links
pub mod Near
pub mod Verdict
