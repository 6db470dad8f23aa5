-- Where jumps lead.
use Rattle.std.proofs.Common.{◌≡◌, ℕ, zero, suc, ◌+◌, ◌≤◌, List, [], ◌∷◌, length, Option, Some, None, refl, sym, ◌∙◌, ap, subst, arith}
use Rattle.std.specs.List.{slice_get}
use Rattle.std.proofs.lemmas.Option.{slice_get_past}
use Rattle.lvish_task.specs.Vocabulary.{Instruction, GoOn}
use Rattle.lvish_task.specs.Run.{jump_in, beyond, landing}

pub jump_is : (o : Option Instruction) (n : ℕ) → jump_in o ≡ Some n → o ≡ Some (GoOn n)
jump_is (Some (GoOn m)) n e = cc
jump_is o n e = absurd cc

beyond_jump : (is : List Instruction) (k b n : ℕ) → jump_in (slice_get is k) ≡ Some n → beyond is k b ≡ beyond is (k + 1 + n) b
beyond_jump [] k b n e = absurd cc
beyond_jump (i ∷ is) (suc k) b n e =
    let s : suc (k + 1 + n) ≡ suc k + 1 + n = omega arith in
    beyond_jump is k (b + 1) n e ∙ ap (λ m. beyond (i ∷ is) m b) s
beyond_jump (GoOn m ∷ is) zero b n e =
    let s : suc m ≡ zero + 1 + n = let same : m ≡ n = cc in omega arith in
    ap (λ j. beyond (GoOn m ∷ is) j b) s
beyond_jump (i ∷ is) zero b n e = absurd cc

-- where a jump leads, it lands with it
pub landing_jump : (is : List Instruction) (p n : ℕ) → jump_in (slice_get is p) ≡ Some n → landing is p ≡ landing is (p + 1 + n)
landing_jump is p n e = beyond_jump is p 0 n e

beyond_here : (is : List Instruction) (k b : ℕ) → jump_in (slice_get is k) ≡ None → beyond is k b ≡ b + k
beyond_here [] k b e = refl
beyond_here (i ∷ is) (suc k) b e = let h = beyond_here is k (b + 1) e in omega arith
beyond_here (GoOn n ∷ is) zero b e = absurd cc
beyond_here (i ∷ is) zero b e = omega arith

-- where no jump stands, it stays
pub landing_here : (is : List Instruction) (p : ℕ) → jump_in (slice_get is p) ≡ None → landing is p ≡ p
landing_here is p e = let h = beyond_here is p 0 e in omega arith

-- what holds where no jump stands, and at a jump where it holds behind it, holds at each place
module _ (is : List Instruction) (Q : ℕ → Type 0) (here : (p : ℕ) → jump_in (slice_get is p) ≡ None → Q p) (jump : (p n : ℕ) → jump_in (slice_get is p) ≡ Some n → Q (p + 1 + n) → Q p) where
  at_each_by : (fuel p : ℕ) → length is ≤ p + fuel → Q p
  at_each_by zero p far = here p (ap jump_in (slice_get_past is p (omega arith)))
  at_each_by (suc fuel) p far = by (jump_in (slice_get is p)) refl (λ n. at_each_by fuel (p + 1 + n) (omega arith))
    where
      by : (o : Option ℕ) → jump_in (slice_get is p) ≡ o → ((n : ℕ) → Q (p + 1 + n)) → Q p
      by None e next = here p e
      by (Some n) e next = jump p n e (next n)

  at_each : (p : ℕ) → Q p
  at_each p = at_each_by (length is) p (omega arith)

-- no jump stands where it lands
pub landing_lands : (is : List Instruction) (p : ℕ) → jump_in (slice_get is (landing is p)) ≡ None
landing_lands is p =
    let None_at : ℕ → Type 0 = λ q. jump_in (slice_get is q) ≡ None in
    at_each is (λ q. None_at (landing is q)) (λ q e. subst None_at (sym (landing_here is q e)) e) (λ q n e h. subst None_at (sym (landing_jump is q n e)) h) p

pub landing_again : (is : List Instruction) (p : ℕ) → landing is (landing is p) ≡ landing is p
landing_again is p = landing_here is (landing is p) (landing_lands is p)

-- what a jump keeps holds where it lands
pub landing_induction : (is : List Instruction) (P : ℕ → Type 0) → ((p n : ℕ) → jump_in (slice_get is p) ≡ Some n → P p → P (p + 1 + n)) → (p : ℕ) → P p → P (landing is p)
landing_induction is P step p =
    at_each is (λ q. P q → P (landing is q)) (λ q e h. subst P (sym (landing_here is q e)) h) (λ q n e later h. subst P (sym (landing_jump is q n e)) (later (step q n e h))) p
