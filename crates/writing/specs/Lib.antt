pub mod Adds
pub mod Todo
pub mod Parts
pub mod Lengths
pub mod Numbers
pub mod Axioms
pub mod Lines
