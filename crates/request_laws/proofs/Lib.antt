pub mod Numbers
pub mod Tables
pub mod Fields
