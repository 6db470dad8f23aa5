use Rattle.std.proofs.Common.{◌≡◌, ℕ, ◌<◌, true, [], Some}
use Rattle.std.specs.List.{slice_get}
use Rattle.lvish_alike.specs.Sought.{found_in, given_by}
use Rattle.lvish_alike.proofs.sought.first.Given as goal

abbrev pub invariant-loop-place : goal.invariant-loop-place
invariant-loop-place l = (j : ℕ) → j < l.place → slice_get l.marks j ≡ Some true → given_by (found_in l.marks l.sought) l.routines j ≡ []
