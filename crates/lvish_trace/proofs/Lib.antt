pub mod Crossing
pub mod Noting
