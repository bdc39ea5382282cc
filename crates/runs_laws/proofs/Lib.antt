pub mod Chain
pub mod Granules
pub mod Sound
pub mod Due
