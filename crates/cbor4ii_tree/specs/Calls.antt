-- The words of public contracts, in the order of docs/DEFINITIONS.md, and programs on lists.
pub mod CanonicalShape
pub mod Rejections
pub mod ItemRejects
pub mod SkippingRejects
pub mod ReadingRejects
pub mod CanonicalRejects
pub mod Promises
pub mod Asking
pub mod SameAnswer
pub mod Canonically
pub mod ItemEquality
pub mod Access
pub mod Encoding
pub mod Order
pub mod TotalOrder
pub mod Hashing
pub mod Ignored
pub mod Raw
pub mod BoxedRaw
pub mod PlainRaw
pub mod RawParts
pub mod TextPairs
-- ---- programs on lists
pub mod Parse
pub mod ItemAt
pub mod Skip
pub mod Read
