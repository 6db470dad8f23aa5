pub mod Names
pub mod Path
pub mod Summaries
pub mod NameOrder
pub mod NameHash
pub mod NameText
pub mod laws
