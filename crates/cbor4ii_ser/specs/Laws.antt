-- How calls compose: what the proofs of this crate and of the crates above cite.
pub mod Inside
pub mod Joining
pub mod OneItem
pub mod Pieces
pub mod ValueItems
