pub mod Taking
pub mod Objects
