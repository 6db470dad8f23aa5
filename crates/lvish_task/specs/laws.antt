pub mod Landing
pub mod Settling
pub mod Reads
pub mod Fits
pub mod Program
