pub mod Said
pub mod Parts
pub mod Headers
pub mod Told
pub mod Outcome
