pub mod Bounded
pub mod Checked
pub mod Judged
pub mod Passing
pub mod Sums
