-- Sweep reports: what a good stretch is, and the reports of our own finishes.
pub mod Whole
pub mod Listed
pub mod Own
