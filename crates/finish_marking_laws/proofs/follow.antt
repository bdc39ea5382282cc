-- Links followed from pending objects on.
pub mod Worklist
pub mod Bits
pub mod Grown
pub mod Measure
pub mod Visits
pub mod Visiting
pub mod Turns
pub mod Settling
pub mod Loops
