pub mod Copy
pub mod Writes
pub mod Packet
pub mod Tracer
pub mod Words
pub mod Marks
