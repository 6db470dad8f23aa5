pub mod Gatherings
pub mod Numbers
pub mod Ranks
