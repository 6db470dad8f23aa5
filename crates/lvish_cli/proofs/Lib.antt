pub mod Moved
mod Named
mod Orders
