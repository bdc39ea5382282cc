-- The plain store: the same answers.
pub mod PlainLaws
pub mod PlainWrites
pub mod PlainNew
pub mod PlainAlike
pub mod PlainAccepted
pub mod PlainFed
pub mod PlainList
