mod Seats
mod Handed
pub mod Tables
mod Acts
pub mod Hands
mod Counted
mod Worked
mod Running
mod Ordered
pub mod Slots
pub mod Cursors
pub mod Kept
