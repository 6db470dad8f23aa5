-- The worked core, and which puts brought its entries.
use Rattle.std.proofs.Common.{◌≡◌, ℕ, zero, suc, Some, slice_get, refl, sym, ap, ◌∙◌, arith}
use Rattle.std.proofs.lemmas.Option.{same_Some}
use Rattle.lvish_calculus.specs.Calculus.{Running, start}
use Rattle.lvish_calculus.specs.Examples.{Set, putting_three, putting_one, handing, over_sets, set_of_one, until_added, until_three_put}
use Rattle.lvish_calculus.proofs.HandingRuns.{not_one}
use Rattle.lvish_core.specs.Vocabulary.{Entry}
use Rattle.lvish_variable.specs.Variable.{VariableView as Variable}
use Rattle.lvish_picture.specs.Picture.{IsPictured}
use Rattle.lvish_picture.specs.Examples.{halfway, halfway_run}
use Rattle.lvish_core.specs.Core.{IsRunTo}
use Rattle.lvish_core.specs.Examples.{both, halfway_core, one, three}
use Rattle.lvish_core.specs.Puts.{IsBroughtAfter, IsOnlyEntry, brought_by_run}
use Rattle.lvish_core.specs.laws.Runs.{run_to}

pub brought : brought_by_run (over_sets handing) (Running (start (over_sets handing))) halfway_run 0 ≡ both
brought = refl

logs : (v : ℕ) (x : Variable Set ℕ) → slice_get halfway.variables v ≡ Some x → x.log ≡ brought_by_run (over_sets handing) (Running (start (over_sets handing))) halfway_run v
logs zero x e = ap (λ (y : Variable Set ℕ). y.log) (sym (same_Some _ _ e))
logs (suc zero) x e = ap (λ (y : Variable Set ℕ). y.log) (sym (same_Some _ _ e))
logs (suc (suc v)) x e = absurd (cc e)

pub run : IsPictured (over_sets handing) halfway halfway_run → IsRunTo (over_sets handing) halfway_core halfway_run
run pictured = run_to (over_sets handing) halfway_core halfway_run refl pictured logs refl

pub brought_three : IsBroughtAfter (over_sets handing) until_added halfway_run 0 three
brought_three = record {
  after = _;
  is = refl;
  put = record { at = _; reaches = (tt, refl); local = putting_three; forks = 0; adds = 1; puts = 0; is = refl; put = set_of_one 3; asked = refl; number = refl };
  introduces = record { before = _; after = _; reaches_before = (tt, refl); reaches_after = (tt, (tt, refl)); new = λ z. absurd (omega (arith, z.1)); below = (0, omega arith, refl) };
}

pub brought_one : IsBroughtAfter (over_sets handing) until_three_put halfway_run 0 one
brought_one = record {
  after = _;
  is = refl;
  put = record { at = _; reaches = (tt, (tt, refl)); local = putting_one; forks = 0; adds = 1; puts = 1; is = refl; put = set_of_one 1; asked = refl; number = refl };
  introduces = record { before = _; after = _; reaches_before = (tt, (tt, refl)); reaches_after = (tt, (tt, (tt, refl))); new = not_one; below = (0, omega arith, refl) };
}

pub only_three : IsOnlyEntry both three
only_three = record { index = 0; at = refl; only = only }
  where
    only : (i : ℕ) (x : Entry ℕ) → slice_get both i ≡ Some x → x.event ≡ 3 → i ≡ 0
    only zero x at e = refl
    only (suc zero) x at e = let other : 1 ≡ 3 = ap (λ (y : Entry ℕ). y.event) (same_Some _ _ at) ∙ e in absurd (omega (arith, other))
    only (suc (suc i)) x at e = absurd (cc at)
