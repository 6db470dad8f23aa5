pub mod Adding
pub mod Knowing
pub mod Lines
pub mod Marks
