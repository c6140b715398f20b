-- What is said of encodings alone: the canonical one, costs, sizes, worked rows.
pub mod CanonicalShape
pub mod Sizes
pub mod Rows
pub mod Order
