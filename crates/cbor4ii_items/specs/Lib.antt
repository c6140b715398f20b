-- What items are, and what reading and writing them answers.

-- ---- the words of public contracts, in the order of docs/DEFINITIONS.md
pub mod Head
pub mod Heads
pub mod Initial
pub mod InputError
pub mod Budget
pub mod Moves
pub mod Decoding
pub mod ShownLeaf
pub mod Writing
pub mod ReadBack
pub mod NeverBoth
pub mod OneError
pub mod Numbers
pub mod Magnitude
pub mod Floats
pub mod Simple
pub mod Containers
pub mod Maybe
pub mod Nothing
pub mod Strings
pub mod Lent
pub mod Cow
pub mod Lengths
pub mod Sequences
pub mod SequenceBytes
pub mod Next
pub mod Shortest
pub mod Whole
pub mod ItemOrEnd
-- ---- what the decoders do, without the reader: the words of private contracts
pub mod Reading
pub mod Contents
pub mod Prefix
pub mod Marked
pub mod ReadHead
pub mod ReadNumber
pub mod ReadStrings
pub mod ReadShortest
-- ---- laws of these words, and of how calls compose
pub mod Laws
