mod Places
mod Walking
mod Cutting
mod OfScript
mod OneOutcome
mod MadeAgain
