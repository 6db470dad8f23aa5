-- What holds of every order that words give.
use Rattle.std.specs.Prelude.{◌≤◌, Bool, true, false}
use Rattle.lvish_run.specs.declared.limits.TheConstants.{MOST_STEPS, MOST_WORKERS}
use Rattle.lvish_cli.specs.declared.order.Order.{Order}
use Rattle.lvish_cli.specs.declared.order.Order.TheVariants.{Check, Run, Pick, Try, Why, Graph, Format}
use Rattle.lvish_cli.specs.declared.order.RunOrder.{RunOrder}

-- the conditions of the runs that the order asks for
abbrev pub IsInBounds : Order → Type 0
IsInBounds (Check asked) = asked.budget ≤ MOST_STEPS
IsInBounds (Run asked) = (1 ≤ asked.workers) × (asked.workers ≤ MOST_WORKERS) × (asked.budget ≤ MOST_STEPS)
IsInBounds (Pick asked) = asked.budget ≤ MOST_STEPS
IsInBounds (Try asked) = asked.budget ≤ MOST_STEPS
IsInBounds (Why asked) = asked.budget ≤ MOST_STEPS
IsInBounds (Graph asked) = Unit {0}
IsInBounds Format = Unit {0}

-- the order is about bytes, and about no script
abbrev pub asks_format : Order → Bool
asks_format (Check asked) = false
asks_format (Run asked) = false
asks_format (Pick asked) = false
asks_format (Try asked) = false
asks_format (Why asked) = false
asks_format (Graph asked) = false
asks_format Format = true

-- the answer to the order is for programs
abbrev pub asks_json : Order → Bool
asks_json (Check asked) = asked.json
asks_json (Run asked) = asked.json
asks_json (Pick asked) = asked.json
asks_json (Try asked) = asked.json
asks_json (Why asked) = false
asks_json (Graph asked) = false
asks_json Format = false

-- the order is about an event
abbrev pub AsksEvent : Order → Type 0
AsksEvent (Check asked) = ⊥
AsksEvent (Run asked) = ⊥
AsksEvent (Pick asked) = ⊥
AsksEvent (Try asked) = ⊥
AsksEvent (Why asked) = Unit {0}
AsksEvent (Graph asked) = ⊥
AsksEvent Format = ⊥

-- the run of no words: two workers make at most 100,000 steps, and all variables are reported
abbrev pub usual_run : RunOrder
usual_run = record { workers = 2; budget = 100000; all = true; trace = false; picks = false; json = false }
