pub mod Pool
pub mod Outcome
