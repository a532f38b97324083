pub mod Lists
pub mod Outcome
