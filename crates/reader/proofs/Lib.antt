pub mod Tests
pub mod Steps
pub mod Fields
pub mod Ranges
pub mod Terms
pub mod Literals
pub mod Loops
