pub mod IfKnown
pub mod LentNone
pub mod LineShown
pub mod Parted
pub mod Results
pub mod SegmentLemmas
pub mod StreamLemmas
pub mod Taken
