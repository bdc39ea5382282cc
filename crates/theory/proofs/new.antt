-- New: the run that is taken, and the object in it.
pub mod NewKept
pub mod Choose
pub mod Room
pub mod Placing
pub mod Carve
pub mod TakeRun
pub mod NewHeap
pub mod Shrink
pub mod NewMade
