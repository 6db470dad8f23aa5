-- When the text of a trace tells its labels.
use Rattle.std.specs.Prelude.{◌≡◌, ◌<◌, ◌^◌, ℤ, List, [], ◌∷◌}
use Rattle.std.specs.Int.Signed.{mag}
use Rattle.lvish_names.specs.Names.{Name, handed}
use Rattle.lvish_names.specs.declared.name_part.NamePart.{NamePart}
use Rattle.lvish_names.specs.declared.name_part.NamePart.TheVariants.{Fork as ForkPart, Hand as HandPart}
use Rattle.lvish_calculus.specs.Machine.{Machine, IsBelow}
use Rattle.lvish_calculus.specs.declared.label.Label.{Label}
use Rattle.lvish_calculus.specs.declared.label.Label.TheVariants.{Act, Hand}
use Rattle.lvish_calculus.specs.Calculus.{Configuration, Running, IsRun, start}
use Rattle.lvish_report.specs.TraceText.{trace_lines}

module _ {E : Type 0} (key number : E → ℤ) where
  -- the part's numbers have 64 bits, as those of all names in memory: counts are below 2^64, keys and numbers from -2^63 up to 2^63 - 1
  abbrev pub FitsPart : NamePart E → Type 0
  FitsPart (ForkPart i) = i < 2 ^ 64
  FitsPart (HandPart j e) = (j < 2 ^ 64) × (mag (key e) < 2 ^ 63) × (mag (number e) < 2 ^ 63)

  abbrev pub FitsName : Name E → Type 0
  FitsName [] = Unit {0}
  FitsName (p ∷ t) = FitsPart p × FitsName t

  abbrev pub FitsLabel : Label E → Type 0
  FitsLabel (Act t) = FitsName t
  FitsLabel (Hand h e) = FitsName (handed h.adder h.number e)

  -- the same of each label
  abbrev pub FitLabels : List (Label E) → Type 0
  FitLabels [] = Unit {0}
  FitLabels (l ∷ ls) = FitsLabel l × FitLabels ls

module _ {S E R A L : Type 0} (M : Machine S E R A L) (key number : E → ℤ) where
  -- key and number tell the events of one state apart
  abbrev pub TellsEvents : Type 0
  TellsEvents = (s : S) (e x : E) → IsBelow M e s → IsBelow M x s → key e ≡ key x → number e ≡ number x → e ≡ x

  -- two runs whose traces have one text have the same labels
  abbrev pub TextsTellRuns : Type 0
  TextsTellRuns = TellsEvents → (xs ys : List (Label E)) (c d : Configuration S E L) → IsRun M (Running (start M)) xs c → IsRun M (Running (start M)) ys d
      → FitLabels key number xs → FitLabels key number ys → trace_lines key number xs ≡ trace_lines key number ys → xs ≡ ys
