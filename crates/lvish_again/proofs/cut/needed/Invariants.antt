use Rattle.std.proofs.Common.{◌≡◌, ◌+◌, ◌<◌, ◌≤◌, ℕ, Some}
use Rattle.std.specs.List.{slice_get}
use Rattle.lvish_again.proofs.cut.needed.Given as goal

-- from the needed picks on there are zeros so far, and the last needed one is none
abbrev pub invariant-loop-place : goal.invariant-loop-place
invariant-loop-place l = record {
  within : l.needed ≤ l.place;
  zeros : (k : ℕ) → l.needed ≤ k → k < l.place → slice_get l.picks k ≡ Some 0;
  last : (k : ℕ) → l.needed ≡ k + 1 → slice_get l.picks k ≡ Some 0 → ⊥;
}
