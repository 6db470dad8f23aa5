pub mod Nodes
pub mod Names
pub mod Gathered
