-- What the records of a user's own are read and written as, and parts one after another.
pub mod Then
-- The item at the beginning of an input.
pub mod First
pub mod Station
pub mod StationLaws
pub mod Nest
-- A struct and an enum that hold values of their own kind, and that they are read back.
pub mod Told
pub mod Tree
pub mod TreeLaws
pub mod Shape
pub mod ShapeLaws
-- A number with a limit.
pub mod Percent
-- A signed payload, sealed and opened.
pub mod Envelope
-- When a store rejects bytes.
pub mod Store
-- What the next value of a sequence promises of an input that is cut.
pub mod Sequence
-- Values whose maps are sorted.
pub mod Sorted
-- A map that is written by hand.
pub mod ByHand
-- The whole events at the beginning of a log, and where its reading stops.
pub mod Log
