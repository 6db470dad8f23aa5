pub mod Copied
pub mod NameText
