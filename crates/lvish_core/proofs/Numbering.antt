-- The pools of a program.
use Rattle.std.proofs.Common.{◌≡◌, inl, inr, ℕ, ◌<◌, false, Option, Some, IsSome, is_some, sym, ◌∙◌, ap, arith}
use Rattle.std.proofs.lemmas.Bool.{both_ways, cases_lt}

-- where a pool isn't there, none of those after it is
pub none_after : (on : ℕ → Option ℕ) → ((j k : ℕ) → j < k → IsSome (on k) → IsSome (on j)) → (n : ℕ) (o : Option ℕ) → o ≡ on n → is_some o ≡ false → (p v : ℕ) → on p ≡ Some v → p < n
none_after on row n o e none p v is = elim (cases_lt p n) [
  | inl lt ↦ lt
  | inr ge ↦ absurd (both_ways (is_some (on n)) (sym (ap (λ (q : Option ℕ). is_some q) e) ∙ none) (elim (cases_lt n p) [
    | inl gt ↦ row n p gt (ap (λ (q : Option ℕ). is_some q) is)
    | inr le ↦ ap (λ (q : Option ℕ). is_some q) (ap on (let h : n ≡ p = omega (arith, ge, le) in h) ∙ is)
  ]))
]
