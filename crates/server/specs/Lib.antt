pub mod State
pub mod Events
pub mod Queries
pub mod Hosts
