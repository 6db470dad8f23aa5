pub mod Plays
pub mod Unerring
pub mod Reaching
pub mod Solved
pub mod Tops
