pub mod Brought
pub mod Walk
