pub mod Chain
pub mod Granules
