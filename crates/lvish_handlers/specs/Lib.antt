pub mod Handlers
pub mod Places
pub mod Counted
