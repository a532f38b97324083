pub mod Said
pub mod Parts
pub mod Ranges
pub mod Seen
pub mod Literals
