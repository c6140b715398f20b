-- What reading a value and skipping an item have in common.
pub mod Sound
pub mod Widen
pub mod Answer
