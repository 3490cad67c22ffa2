pub mod Host
