pub mod Crossing
mod Links
pub mod NameLaws
mod Paths
mod Summaries
