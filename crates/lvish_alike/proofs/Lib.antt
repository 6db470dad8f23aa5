mod Lines
mod Tasks
mod Walking
mod SameStates
mod OneEnd
mod Search
mod Marks
mod Adding
mod Written
mod Spared
mod Alone
mod Main
mod Resumed
mod Layers
mod LayersKept
mod Stratified
mod Ends
mod LayeredExample
pub mod TooLate
pub mod Strata
