-- Equality of texts.
use Rattle.std.specs.Prelude.{ℕ, List, Bool, nat_eq}
use Rattle.std.specs.Cmp.{IsEquivalence, nat_eq_equiv}
use Rattle.std.proofs.lemmas.Cmp.{lists_equiv}
use Rattle.std.specs.Cmp.Lexicographic.{pointwise}

abbrev pub text_eq : List ℕ → List ℕ → Bool
text_eq = pointwise nat_eq

pub text_equivalence : IsEquivalence text_eq
text_equivalence = lists_equiv nat_eq_equiv
