pub mod Deeds
pub mod Text
pub mod Dot
pub mod Told
