pub mod Passes
pub mod Compiled
