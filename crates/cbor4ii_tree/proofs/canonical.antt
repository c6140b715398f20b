-- Reading a value that is encoded in one way.
pub mod Once
