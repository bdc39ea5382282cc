pub mod Words
pub mod Named
