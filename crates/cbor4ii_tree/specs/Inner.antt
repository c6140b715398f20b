-- What the calls promise each other: the words of private contracts.
pub mod Does
pub mod Sending
pub mod HeadParts
pub mod Skipping
pub mod Valuing
pub mod CanonicalCalls
pub mod BytesAhead
pub mod Asking
pub mod Leaf
pub mod LeafRuns
pub mod Runs
pub mod Ahead
pub mod Deeper
