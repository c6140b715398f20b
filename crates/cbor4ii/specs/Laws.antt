-- Laws of the definitions, and of how calls compose: what the proofs of this crate and of the
-- crates above cite.
pub mod Accessors
pub mod Any
pub mod Backs
pub mod ElementsAlike
pub mod FieldsBack
pub mod Held
pub mod Shown
pub mod StructsBack
pub mod ValuesBack
pub mod Variants
pub mod TypedOnce
pub mod StructsOnce
pub mod EnumsOnce
pub mod ItemsOnce
pub mod CharacterOnce
pub mod Alike
