pub mod Literals
pub mod Leads
