pub mod Vocabulary
pub mod Text
pub mod Fault
pub mod Table
pub mod Form
pub mod Spelling
pub mod Checks
pub mod Known
