pub mod Cursors
pub mod Known
pub mod Nexts
pub mod Passes
