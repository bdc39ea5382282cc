-- Steps: by their numbers, and what each keeps.
pub mod Steps
pub mod Fields
pub mod Reaching
pub mod Tracing
pub mod Cleaning
pub mod Beginning
pub mod Written
pub mod Mutating
pub mod Undirty
pub mod EachKind
pub mod Kept
pub mod Numbers
pub mod Due
pub mod Rules
pub mod Runs
