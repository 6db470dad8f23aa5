pub mod Declared
pub mod Layers
pub mod Loops
