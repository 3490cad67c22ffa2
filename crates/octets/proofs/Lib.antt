pub mod Read
pub mod Compare
