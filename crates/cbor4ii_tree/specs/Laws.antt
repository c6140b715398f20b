-- Laws of the definitions, and of how calls compose: what the proofs of this crate and of the
-- crates above cite.
pub mod Ignoring
pub mod Binds
pub mod Budgets
pub mod HeadsAgain
pub mod Initials
pub mod Numbers
pub mod PartsAgain
pub mod Wholes
pub mod WholeInputs
pub mod Profiles
pub mod ItemAgain
pub mod Values
pub mod CanonicalReading
pub mod Capturing
