-- What the headline believes: items, their encodings and what they mean, in the order of reading.
pub mod Tree
pub mod Item
pub mod Meaning
pub mod Cost
pub mod Canonical
pub mod InputError
pub mod Encodings
pub mod View
pub mod Headline
