-- What the program makes of its input.
pub mod Integer
pub mod Fault
pub mod Reading
pub mod Item
pub mod Run
pub mod Steps
pub mod Program
