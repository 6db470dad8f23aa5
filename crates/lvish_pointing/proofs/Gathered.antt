-- The names of facts.
use Rattle.std.proofs.Common.{◌<◌, ℕ, zero, suc, List, [], ◌∷◌, Contains, length, map, ap, arith, Bor, slice_index_or}
use Rattle.std.proofs.lemmas.Option.{slice_get-get_or}
use Rattle.lvish_rules.specs.Reach.{in_map}
use Rattle.lvish_facts.specs.Names.{Word}
use Rattle.lvish_pointing.specs.declared.fact.Fact.{Fact}
use Rattle.lvish_pointing.specs.Numbers.{spelled, names_of}
use Rattle.lvish_pointing.proofs.Rising.{contained}

left_there : (facts : List (Fact Word)) (f : Fact Word) → Contains facts f → Contains (names_of facts) f.left
left_there [] f c = absurd (omega (arith, c.1))
left_there (g ∷ gs) f (zero, h, e) = (0, omega arith, ap (λ (q : Fact Word). q.left) e)
left_there (g ∷ gs) f (suc k, h, e) = let r = left_there gs f (k, omega (arith, h), e) in (suc (suc r.0), omega (arith, r.1), r.2)

right_there : (facts : List (Fact Word)) (f : Fact Word) → Contains facts f → Contains (names_of facts) f.right
right_there [] f c = absurd (omega (arith, c.1))
right_there (g ∷ gs) f (zero, h, e) = (1, omega arith, ap (λ (q : Fact Word). q.right) e)
right_there (g ∷ gs) f (suc k, h, e) = let r = right_there gs f (k, omega (arith, h), e) in (suc (suc r.0), omega (arith, r.1), r.2)

there : (facts : List (Fact (Bor (List ℕ)))) (k : ℕ) (d : Fact (Bor (List ℕ))) → k < length facts
    → Contains (map spelled facts) (spelled (slice_index_or facts k d))
there facts k d lt = in_map spelled facts (slice_index_or facts k d) (contained facts k (slice_index_or facts k d) (slice_get-get_or facts k d lt))

-- both names of a fact are among them
pub left_in : (facts : List (Fact (Bor (List ℕ)))) (k : ℕ) (d : Fact (Bor (List ℕ))) → k < length facts
    → Contains (names_of (map spelled facts)) (slice_index_or facts k d).left.now
left_in facts k d lt = left_there (map spelled facts) (spelled (slice_index_or facts k d)) (there facts k d lt)

pub right_in : (facts : List (Fact (Bor (List ℕ)))) (k : ℕ) (d : Fact (Bor (List ℕ))) → k < length facts
    → Contains (names_of (map spelled facts)) (slice_index_or facts k d).right.now
right_in facts k d lt = right_there (map spelled facts) (spelled (slice_index_or facts k d)) (there facts k d lt)
