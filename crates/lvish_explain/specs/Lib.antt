pub mod Reasons
pub mod Known
pub mod Near
pub mod Mark
pub mod Place
pub mod Text
pub mod Explained
pub mod Draft
