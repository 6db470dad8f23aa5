-- Runs by picks that are drawn from a seed.
use Rattle.std.specs.Prelude.{◌<◌, ◌≤◌, ℕ, zero, suc, List, [], ◌∷◌}
use Rattle.lvish_compound.specs.declared.any.Any.{Any}
use Rattle.lvish_compound.specs.declared.event.Event.{Event}
use Rattle.lvish_syntax.specs.declared.script.Script.{Script}
use Rattle.lvish_report.specs.declared.report.Report.{Report}
use Rattle.lvish_run.specs.Scripts.{IsPickedRun}
use Rattle.rand_pcg.specs.Lcg.{Lcg, started, increment_of}
use Rattle.rand_pcg.specs.Pcg.{multiplier_64, pcg32}

-- the next words of a generator
abbrev pub words : ℕ → Lcg → List ℕ
words zero g = []
words (suc n) g = (pcg32 g).0 ∷ words n (pcg32 g).1

-- the first picks for the run with this number: none for the first run, for each other one the words of a stream of its own
abbrev pub drawn : (seed number count : ℕ) → List ℕ
drawn seed zero count = []
drawn seed (suc k) count = words count (started 64 multiplier_64 seed (increment_of 64 (suc k)))

-- the report of the run with this number; but for the first run, each of its steps takes the label that a drawn pick names
pub record IsDrawnRun (script : Script) (seed budget number : ℕ) (r : Report Any Event) : Type 0 where
  pub count : ℕ
  pub enough : 0 < number → r.steps ≤ count
  pub run : IsPickedRun script (drawn seed number count) budget r
