pub mod PackedView
pub mod Packed
pub mod Traced
