pub mod Countdown
