pub mod Logs
pub mod Stamped
