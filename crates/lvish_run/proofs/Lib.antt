pub mod Crossing
mod Placed
mod Upcoming
mod Beside
mod Firsts
mod FirstTask
mod Agendas
mod Turns
mod Walks
mod Reports
mod Accounts
mod Made
mod Seats
mod Leaving
mod CountedBy
mod Counted
mod VariableKinds
mod FreezesThere
pub mod OfScript
pub mod Once
pub mod Ending
mod SameOrder
mod Least
mod LeastThere
mod SameReports
mod OneScript
mod InTime
mod AllAlike
