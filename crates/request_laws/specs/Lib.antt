pub mod Answer
pub mod Passed
pub mod Request
pub mod Kind
