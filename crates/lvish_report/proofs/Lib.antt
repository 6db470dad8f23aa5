pub mod Braces
mod Cuts
mod EventsTold
mod NamesTold
mod RunsTold
mod Digits
mod Texts
mod TraceLines
