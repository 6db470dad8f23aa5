pub mod Format
pub mod Same
