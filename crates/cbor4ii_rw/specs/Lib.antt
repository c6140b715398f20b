-- What a lawful reader and a lawful writer are, and what each of this crate's reports.
pub mod View
pub mod Reader
pub mod Long
pub mod Reference
pub mod Parted
pub mod Slice
pub mod Segments
pub mod Stream
pub mod Writer
pub mod Written
pub mod Errors
pub mod Input
pub mod Line
