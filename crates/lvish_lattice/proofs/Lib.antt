pub mod Puts
pub mod Rows
pub mod Several
pub mod Top
