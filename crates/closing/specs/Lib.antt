pub mod Ranges
pub mod Checks
pub mod Outcome
