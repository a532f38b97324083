pub mod Variables
pub mod Terms
pub mod Ready
