-- Lemmas.
pub mod Integers
pub mod Decoded
pub mod Items
pub mod Loop
pub mod Finish
pub mod Complete
pub mod Buffers
pub mod Chosen
