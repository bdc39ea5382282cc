pub mod follow
pub mod seeds
pub mod Fits
pub mod Dues
pub mod Found
