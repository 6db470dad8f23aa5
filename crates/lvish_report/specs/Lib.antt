pub mod StateText
pub mod Text
pub mod TraceText
pub mod Told
