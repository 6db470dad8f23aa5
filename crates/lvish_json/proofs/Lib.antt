pub mod Adding
mod StatesLeft
mod Depths
mod RetoldText
