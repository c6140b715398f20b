-- What is read as a value, and what is written for one.
pub mod Heads
pub mod Sequences
pub mod Encoding
pub mod InRange
