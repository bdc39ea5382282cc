pub mod Follow
pub mod Marking
pub mod Seeds
