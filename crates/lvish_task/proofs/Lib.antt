mod Compatible
mod ReadFound
mod Stored
mod Inner
mod Places
mod Alike
mod Meant
mod Freezing
mod Filled
mod Strides
mod Pairs
mod Left
mod ByNumbers
mod Changes
mod AtOnce
pub mod SamePlays
pub mod SameModels
