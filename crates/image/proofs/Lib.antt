pub mod Entries
pub mod Imaged
pub mod Joined
pub mod Numbers
pub mod Selections
