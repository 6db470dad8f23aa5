-- Reports that tell the same.
use Rattle.std.specs.Prelude.{◌≡◌, ℕ}
use Rattle.lvish_calculus.specs.Machine.{Machine}
use Rattle.lvish_report.specs.declared.report.Report.{Report}
use Rattle.lvish_trace.specs.declared.outcome.Outcome.TheVariants.{Ended}
use Rattle.lvish_run.specs.Honest.{IsHonest}

-- the same outcome, states, steps and blocked tasks, whatever the traces
pub record TellTheSame {S E : Type 0} (r q : Report S E) : Type 0 where
  pub outcome : r.outcome ≡ q.outcome
  pub states : r.states ≡ q.states
  pub steps : r.steps ≡ q.steps
  pub blocked : r.blocked ≡ q.blocked

-- any two honest reports of ends, for which P holds, tell the same
abbrev pub TellTheSameIf : {S E R A L : Type 0} → Machine S E R A L → ℕ → (Report S E → Report S E → Type 0) → Type 0
TellTheSameIf {S} {E} M variables P = (v b w c : ℕ) (r q : Report S E) → IsHonest M variables v b r → IsHonest M variables w c q
    → r.outcome ≡ Ended → q.outcome ≡ Ended → P r q → TellTheSame r q
