pub mod Moved
pub mod Opened
