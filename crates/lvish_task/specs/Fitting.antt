-- Local states that fit.
use Rattle.std.specs.Prelude.{◌≡◌, ℕ, ℤ, true, false, Some}
use Rattle.lvish_task.specs.Vocabulary.{Any, Event, Reply, Routine}
use Rattle.lvish_calculus.specs.declared.request.Request.TheVariants.{Fork, End}
use Rattle.lvish_task.specs.declared.script_code.ScriptCode.{ScriptCode}
use Rattle.lvish_task.specs.declared.stack.Stack.{Stack}
use Rattle.lvish_task.specs.Run.{functions, is_fitting, routine}

-- local states that fit lead only to local states that fit; one that doesn't fit is at its end and stays
pub record KeepsFitting (c : ScriptCode) : Type 0 where
  pub start : is_fitting c (functions c).start ≡ true
  pub start_handler : (k : ℕ) (e : Event) (r : Routine) → routine c.flat k ≡ Some r → r.parameters ≡ 2 → is_fitting c ((functions c).start_handler k e) ≡ true
  pub at : (l : Stack) → is_fitting c l ≡ true → is_fitting c ((functions c).at l) ≡ true
  pub fork : (l m : Stack) → (functions c).request l ≡ Fork m → is_fitting c m ≡ true
  pub resume : (l : Stack) (r : Reply Any ℤ) → is_fitting c l ≡ true → is_fitting c ((functions c).resume l r) ≡ true
  pub misfit_ends : (l : Stack) → is_fitting c l ≡ false → (functions c).request l ≡ End
  pub misfit_stays : (l : Stack) (r : Reply Any ℤ) → is_fitting c l ≡ false → (functions c).resume l r ≡ l
