-- What values that hold values of their own kind are written as.
pub mod Levels
pub mod Short
