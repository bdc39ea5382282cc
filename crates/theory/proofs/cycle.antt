-- From a begin to the next finish: what is freed.
pub mod Live
pub mod Quiet
pub mod Carries
pub mod LiveSteps
pub mod Linked
