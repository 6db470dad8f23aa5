-- The read of a get line, and whether two of its members are compatible.
use Rattle.std.specs.Prelude.{List, Option, option_and_then}
use Rattle.std.specs.Option.{option_map}
use Rattle.lvish_syntax.specs.Words.{Word}
use Rattle.lvish_syntax.specs.Sound.{kind_of}
use Rattle.lvish_task.specs.Vocabulary.{Term, Threshold, Declaration, AnyRead}
use Rattle.lvish_task.specs.States.{read_at}
use Rattle.lvish_task.specs.Meaning.{Valuation, term_value, place_meant, threshold_test}

-- the read by which a get on a variable, or at a place of it, waits for a threshold, where the locals have these values
abbrev pub read_of_get : List Declaration → Valuation → Word → Option Term → Threshold → Option AnyRead
read_of_get ds values v at r = option_and_then (λ p. read_at p (threshold_test values r)) (option_and_then (λ k. place_meant k (option_map (term_value values) at)) (kind_of v ds))
