pub mod Walks
pub mod Places
pub mod Views
