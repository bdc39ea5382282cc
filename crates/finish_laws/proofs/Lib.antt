pub mod gaps
pub mod Ending
pub mod Finish
pub mod Step
