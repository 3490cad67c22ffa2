pub mod Checking
pub mod Readings
pub mod Records
