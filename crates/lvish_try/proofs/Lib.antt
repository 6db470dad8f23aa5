mod Drawing
mod Outcomes
mod Noting
mod Gathering
mod Finding
mod Places
mod Written
