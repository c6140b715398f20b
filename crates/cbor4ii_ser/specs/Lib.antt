-- What writing a typed value is.
pub mod Item
pub mod Leaf
pub mod Listed
pub mod Counts
pub mod OneItem
pub mod Serializing
pub mod Pushing
pub mod Collecting
pub mod Pieces
pub mod HeldRun
pub mod TextState
pub mod Values
pub mod Tagged
pub mod Laws
