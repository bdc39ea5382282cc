pub mod Record
pub mod Run
pub mod Walk
pub mod Batch
pub mod Called
pub mod Perform
