pub mod Run
pub mod Called
