pub mod Edges
pub mod Graphs
pub mod Walk
pub mod Faults
pub mod Answers
