pub mod Equality
pub mod Words
pub mod Name
pub mod Nested
pub mod Written
pub mod Version
pub mod Sound
pub mod Syntax
