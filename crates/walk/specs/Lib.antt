pub mod Slots
pub mod Walks
pub mod Comparisons
pub mod Rows
pub mod ByRows
