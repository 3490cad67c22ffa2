pub mod Layout
pub mod Memory
pub mod Search
pub mod Marks
pub mod Entries
pub mod Lists
