pub mod Formula
pub mod Tuples
pub mod Shares
pub mod Numbers
pub mod Answers
