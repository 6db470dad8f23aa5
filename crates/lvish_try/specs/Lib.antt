pub mod Drawn
pub mod Tried
pub mod Text
