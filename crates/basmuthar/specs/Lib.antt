pub mod Interface
pub mod Numbers
pub mod Outcome
