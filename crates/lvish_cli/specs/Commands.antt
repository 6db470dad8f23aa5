-- What the program does with words, from standard input to standard output.
use Rattle.std.specs.Prelude.{◌≡◌, ◌≢◌, ◌⊎◌, ℕ, List, [], Option, None, string_bytes}
use Rattle.std.specs.Io.KnownBytes.{Appends, Keeps}
use Rattle.lvish_syntax.specs.declared.script.Script.{Script}
use Rattle.lvish_run.specs.declared.scripts.RunMeaning as runs
use Rattle.lvish_cli.specs.declared.order.Order.{Order}
use Rattle.lvish_cli.specs.declared.order.Order.TheVariants.{Run}
use Rattle.lvish_cli.specs.declared.order.Source.{Source}
use Rattle.lvish_cli.specs.declared.order.Source.TheVariants.{File, StandardInput}
use Rattle.lvish_cli.specs.declared.order.UsageFault.{UsageFault}
use Rattle.lvish_cli.specs.declared.order.UsageFault.TheVariants.{Help, Refused, Memory}
use Rattle.lvish_cli.specs.declared.status.Status.{Status}
use Rattle.lvish_cli.specs.declared.status.Status.TheVariants as status
use Rattle.lvish_cli.specs.Orders.{IsInBounds, usual_run}
use Rattle.lvish_cli.specs.Performs.{Performs}
use Rattle.lvish_cli.specs.Streams.{TakesFront}

-- the bytes at a source, as far as they are known: those that standard input gives, and none of a file's
abbrev pub given_at : Option (List ℕ) → Source → Option (List ℕ)
given_at given StandardInput = given
given_at given (File path) = None

module _ (old new : Option (List ℕ)) where
  -- of words that are no order, help is written where they ask for it; else nothing is, and the status tells why
  abbrev pub IsTold : UsageFault → Status → Type 0
  IsTold (Help text) s = ((s ≡ status.Done) × Appends old new (string_bytes text)) ⊎ ((s ≡ status.Unwritten) × TakesFront old new (string_bytes text))
  IsTold (Refused text) s = (s ≡ status.Usage text) × Keeps old new
  IsTold Memory s = (s ≡ status.Memory) × Keeps old new

module _ (given old new : Option (List ℕ)) where
  -- the words are an order about the script at a source, and it was done: with no words, the script of standard input is run by two workers for at most 100,000 steps, and all variables are reported
  pub record IsObeyed (of : runs.Ghosts Script) {A : Type 0} (words : List A) (s : Status) : Type 0 where
    pub order : Order
    pub source : Source
    pub within : IsInBounds order
    pub usual : words ≡ [] → (order ≡ Run usual_run) × (source ≡ StandardInput)
    pub performed : Performs of order (given_at given source) old new s

  -- what came of words: they were an order, or why they are none was told
  abbrev pub IsCommanded : runs.Ghosts Script → {A : Type 0} → List A → Status → Type 0
  IsCommanded of words s = IsObeyed of words s ⊎ ((fault : UsageFault) × (words ≢ []) × IsTold old new fault s)
