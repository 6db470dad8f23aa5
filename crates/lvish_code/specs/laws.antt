pub mod Lists
pub mod Names
pub mod Trees
pub mod Following
