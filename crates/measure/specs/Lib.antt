pub mod Places
pub mod Shares
pub mod Running
pub mod Said
pub mod Outcome
pub mod Told
