pub mod Logs
pub mod Picture
pub mod Steps
pub mod Counts
pub mod Laws
pub mod Examples
