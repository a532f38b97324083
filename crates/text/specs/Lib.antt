pub mod Puts
pub mod Decimals
pub mod Lines
pub mod Entries
