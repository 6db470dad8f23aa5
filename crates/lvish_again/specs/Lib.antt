pub mod Again
pub mod Text
pub mod Walk
