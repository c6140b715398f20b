-- The calls of skipping.
pub mod Doing
pub mod Heads
pub mod Prefixes
pub mod Parts
pub mod Bytes
pub mod Deeper
pub mod Leaves
