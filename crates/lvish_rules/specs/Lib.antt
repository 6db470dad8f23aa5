pub mod Rules
pub mod Ruled
pub mod RuledLaws
pub mod Analysis
pub mod Sets
pub mod Reach
pub mod Answer
