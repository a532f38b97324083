pub mod Ranged
pub mod Going
pub mod Checked
