pub mod State
pub mod Codes
