-- Each of the first workers' items, counted worker by worker.
use Rattle.std.proofs.Common.{◌≡◌, ◌+◌, ◌==◌, ◌<◌, ◌≤◌, ℕ, zero, suc, Bool, true, false, List, [], ◌∷◌, cond, length, count_by, arith, refl}
use Rattle.std.specs.List.{AllByRecursion}
use Rattle.std.proofs.lemmas.Bool.{eqb-true, eqb-false}
use Rattle.std.proofs.lemmas.List.Sums.{sum_by-cons}

-- whether it is the last of the first workers, or one before
abbrev pub hit : ℕ → ℕ → ℕ
hit zero w = 0
hit (suc k) w = hit k w + cond (w == k) 1 0

pub past : (k w : ℕ) → k ≤ w → hit k w ≡ 0
past zero w h = refl
past (suc k) w h = at (past k w (omega (arith, h))) (w == k) refl
  where
    at : hit k w ≡ 0 → (b : Bool) → (w == k) ≡ b → hit k w + cond b 1 0 ≡ 0
    at before true e = let same = eqb-true w k e in absurd (omega (arith, h, same))
    at before false e = omega (arith, before)

pub within : (k w : ℕ) → w < k → hit k w ≡ 1
within zero w h = absurd (omega (arith, h))
within (suc k) w h = at (past k w) (within k w) (w == k) refl
  where
    at : (k ≤ w → hit k w ≡ 0) → (w < k → hit k w ≡ 1) → (b : Bool) → (w == k) ≡ b → hit k w + cond b 1 0 ≡ 1
    at none one true e = let same = eqb-true w k e in let before = none (omega (arith, same)) in omega (arith, before)
    at none one false e = let other = eqb-false w k e in let before = one (omega (arith, h, other)) in omega (arith, before)

pub at_most_once : (k w : ℕ) → hit k w ≤ 1
at_most_once zero w = omega arith
at_most_once (suc k) w = at (past k w) (at_most_once k w) (w == k) refl
  where
    at : (k ≤ w → hit k w ≡ 0) → hit k w ≤ 1 → (b : Bool) → (w == k) ≡ b → hit k w + cond b 1 0 ≤ 1
    at none once true e = let same = eqb-true w k e in let before = none (omega (arith, same)) in omega (arith, before)
    at none once false e = omega (arith, once)

module _ {X : Type 0} (who : X → ℕ) where
  -- how many items are of the first k workers
  abbrev pub counted_below : ℕ → List X → ℕ
  counted_below zero xs = 0
  counted_below (suc k) xs = counted_below k xs + count_by (λ x. who x == k) xs

  none_below : (k : ℕ) → counted_below k [] ≡ 0
  none_below zero = refl
  none_below (suc k) = let before = none_below k in omega (arith, before)

  more_below : (k : ℕ) (x : X) (xs : List X) → counted_below k (x ∷ xs) ≡ hit k (who x) + counted_below k xs
  more_below zero x xs = refl
  more_below (suc k) x xs = let before = more_below k x xs in let this = sum_by-cons (λ y. cond (who y == k) 1 0) x xs in omega (arith, before, this)

  -- all, where all items are of these workers
  pub all_below : (k : ℕ) (xs : List X) → AllByRecursion (λ x. who x < k) xs → counted_below k xs ≡ length xs
  all_below k [] a = none_below k
  all_below k (x ∷ xs) a = let rest = all_below k xs a.1 in let more = more_below k x xs in let one = within k (who x) a.0 in omega (arith, rest, more, one)

  pub counted_at_most : (k : ℕ) (xs : List X) → counted_below k xs ≤ length xs
  counted_at_most k [] = let none = none_below k in omega (arith, none)
  counted_at_most k (x ∷ xs) = let rest = counted_at_most k xs in let more = more_below k x xs in let one = at_most_once k (who x) in omega (arith, rest, more, one)
