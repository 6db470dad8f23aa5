pub mod Vocabulary
pub mod Numbering
pub mod Sound
pub mod Flat
pub mod Compile
pub mod Follows
pub mod InScope
pub mod laws
