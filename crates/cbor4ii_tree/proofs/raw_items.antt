-- Items that are kept as their bytes.
pub mod Captured
pub mod Copied
pub mod IfKnown
pub mod Keys
pub mod SplitItems
