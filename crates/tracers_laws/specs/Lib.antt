pub mod Packet
pub mod Tracer
pub mod Marks
