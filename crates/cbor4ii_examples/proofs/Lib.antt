-- One decoding call after another, and what a station is made of.
pub mod After
pub mod Stations
-- What is sealed, and that it is opened.
pub mod Sealing
pub mod Sealed
-- What a store rejects.
pub mod Stored
-- Lists that are no shape.
pub mod Shapes
-- Trees one after another.
pub mod Trees
-- A stable sort.
pub mod StableSort
-- Values whose maps are sorted.
pub mod Sorting
pub mod SortedValues
pub mod SameOrder
-- The next value of a sequence: an item that is cut.
pub mod CutSequence
-- The item at the beginning of an input.
pub mod First
-- What is written by hand.
pub mod ByHand
-- Whole events of a log, and where their reading stops.
pub mod LogRows
-- What a function leaves that read a variant.
pub mod Variants
-- A map that is read by hand.
pub mod Records
