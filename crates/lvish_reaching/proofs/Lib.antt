pub mod Walks
pub mod Growing
pub mod Lines
pub mod Told
pub mod Composed
