pub mod Vocabulary
pub mod Spells
pub mod Same
pub mod Nested
pub mod Canonical
