-- How the answers of a program exclude each other, and what follows for a call.
pub mod Answers
pub mod Alike
pub mod MayReject
pub mod Nesting
pub mod Promises
