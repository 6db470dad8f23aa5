-- What a core without an error stands for, and the runs that lead to it.
use Rattle.std.proofs.Common.{◌≡◌, ℕ, List, slice_get, option_map, unwrap_or, Option, Some, None, refl, sym, ap, subst}
use Rattle.lvish_core.specs.Vocabulary.{Label, RunError}
use Rattle.lvish_calculus.specs.Machine.{Machine}
use Rattle.lvish_calculus.specs.Calculus.{State, Configuration, Running, CanStep, IsRun, start}
use Rattle.lvish_calculus.specs.FreezeOrder.{freeze_order}
use Rattle.lvish_variable.specs.Variable.{VariableView as Variable}
use Rattle.lvish_picture.specs.Picture.{IsPictured}
use Rattle.lvish_core.specs.Core.{CoreView, state, at_fault, picture, IsRunTo}
use Rattle.lvish_core.specs.Puts.{brought_by_run}

pub running_same : {S E L : Type 0} {a b : State S E L} → Running a ≡ Running b → a ≡ b
running_same e = cc

-- after an error no step can be made
pub no_error_before : {S E R A L : Type 0} (M : Machine S E R A L) (s : State S E L) (f : Option (RunError E)) (l : Label E) → CanStep M (at_fault s f) l → f ≡ None
no_error_before M s None l h = refl
no_error_before M s (Some f) l h = absurd h

module _ {P S E R A L : Type 0} (M : Machine S E R A L) where
  -- the configuration without an error
  pub at_state : (c : CoreView P S E L) → c.fault ≡ None → picture M c ≡ Running (state M c)
  at_state c f = ap (at_fault (state M c)) f

  -- without an error, the runs to a core are those that picture its table
  pub pictured_by : (c : CoreView P S E L) (xs : List (Label E)) → c.fault ≡ None → IsRunTo M c xs → IsPictured M c.table xs
  pictured_by c xs f r = record { reached = subst (λ (q : Configuration S E L). IsRun M (Running (start M)) xs q) (at_state c f) r.reached; core = r.core; logs = r.logs; table = r.table }

  pub run_to : (c : CoreView P S E L) (xs : List (Label E)) → c.fault ≡ None → IsPictured M c.table xs
      → ((v : ℕ) (x : Variable S E) → slice_get c.table.variables v ≡ Some x → x.log ≡ brought_by_run M (Running (start M)) xs v) → c.freezes ≡ freeze_order M xs → IsRunTo M c xs
  run_to c xs f k brings freezes = record { reached = subst (λ (q : Configuration S E L). IsRun M (Running (start M)) xs q) (sym (at_state c f)) k.reached; core = k.core; logs = k.logs; brings = brings; freezes = freezes; table = k.table }

  -- the state of a variable of the table is the content there
  pub content_at : (c : CoreView P S E L) (v : ℕ) (x : Variable S E) → slice_get c.table.variables v ≡ Some x → (state M c).content v ≡ x.state
  content_at c v x at = ap (λ (q : Option (Variable S E)). unwrap_or (option_map (λ z. z.state) q) M.bottom) at
