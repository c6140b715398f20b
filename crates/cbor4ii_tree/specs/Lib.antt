-- What whole items are, and what reading and writing them answers.

-- what the headline believes
pub mod Basis
-- what each public call says
pub mod Calls
-- what private functions say
pub mod Inner
-- laws of these
pub mod Laws
