mod Lists
mod Placing
mod Entries
mod Bringing
mod Walking
mod Noting
mod Stepping
mod CodeMachine
