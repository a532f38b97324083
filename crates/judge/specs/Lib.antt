pub mod Suited
pub mod Clauses
pub mod Checks
pub mod Outcome
