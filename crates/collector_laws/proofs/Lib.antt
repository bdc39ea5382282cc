pub mod Pool
pub mod Cards
pub mod Reaching
pub mod Hands
pub mod Scanning
pub mod Tracing
pub mod Cleaning
pub mod Steps
