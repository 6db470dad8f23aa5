-- Pairs of parts that are not both empty.
use Rattle.std.proofs.Common.{◌≡◌, Bool, true, false, ◌&&◌, Some, None, unwrap_or, Result, IfOk, IfErr, refl, sym, ◌∙◌, ap, true≢false}
use mathlib.Core.HLevel.{Σ_prop_path}
use Rattle.std.proofs.Math.Bool.{Bool-set}
use Rattle.std.proofs.lemmas.Bool.{and_parts}
use Rattle.std.specs.Cmp.{IsEquivalence}
use Rattle.lvish_lattice.specs.Lattice.{IsIdentity, IsJoin}
use Rattle.lvish_lattice.specs.Ascending.{and_both}
use Rattle.lvish_compound.specs.Vocabulary.{Pair, Part, Empty}
use Rattle.lvish_compound.specs.declared.sides.Sides.{Sides}
use Rattle.lvish_compound.specs.laws.AboveLaws.{merged_above}
use Rattle.lvish_compound.specs.laws.Identity.{equiv_by_identity}
use Rattle.lvish_compound.specs.laws.PairLaws.{same_pair, pair_is_join}
use Rattle.lvish_compound.specs.Parts.{is_empty, no_sides, pairs_joined, pairs_alike, alike as parts_alike}
use Rattle.lvish_compound.specs.laws.PartLaws.{alike_identical as parts_identical, alike_equiv as parts_equiv, part_is_join}
use Rattle.lvish_compound.specs.Sides.{none, alike, above_by, above}

pub same_sides : (a b : Sides) → a.pair ≡ b.pair → a ≡ b
same_sides a b h =
    let pairs : ◌≡◌ {A = (p : Pair Part Part) × (no_sides p ≡ false)} (a.pair, a.rises) (b.pair, b.rises) = Σ_prop_path (λ p. Bool-set _ _) h in
    λ i. record { pair = (pairs i).0; rises = (pairs i).1 }

above_from : (p : Pair Part Part) (t : Bool) (h : no_sides p ≡ t) (a : Sides) → a.pair ≡ p → above_by p t h ≡ Some a
above_from p true h a e = absurd (true≢false (sym h ∙ ap no_sides (sym e) ∙ a.rises))
above_from p false h a e = ap (λ (x : Sides). Some x) (same_sides _ _ (sym e))

pub above_is : (p : Pair Part Part) (a : Sides) → a.pair ≡ p → above p ≡ Some a
above_is p a e = above_from p (no_sides p) refl a e

above_none : (p : Pair Part Part) (t : Bool) (h : no_sides p ≡ t) → t ≡ true → above_by p t h ≡ None
above_none p true h e = refl
above_none p false h e = absurd cc

pub empty_is_none : (p : Pair Part Part) → no_sides p ≡ true → above p ≡ None
empty_is_none p e = above_none p (no_sides p) refl e

pub same_empty : (s : Part) → is_empty s ≡ true → s ≡ Empty
same_empty Empty e = refl
same_empty s e = absurd cc

pub same_none : (p : Pair Part Part) → no_sides p ≡ true → p ≡ none
same_none p e = let t = and_parts (is_empty p.one) (is_empty p.two) e in same_pair p none (same_empty p.one t.0) (same_empty p.two t.1)

pairs_identical : IsIdentity pairs_alike
pairs_identical p q e = let t = and_parts _ _ e in same_pair p q (parts_identical _ _ t.0) (parts_identical _ _ t.1)

pub alike_identical : IsIdentity alike
alike_identical a b e = same_sides a b (pairs_identical a.pair b.pair e)

pairs_itself : (p : Pair Part Part) → pairs_alike p p ≡ true
pairs_itself p = and_both (parts_equiv.refl p.one) (parts_equiv.refl p.two)

pub alike_equiv : IsEquivalence alike
alike_equiv = equiv_by_identity alike alike_identical (λ a. pairs_itself a.pair)

pub pairs_are_join : IsJoin none pairs_joined
pairs_are_join = pair_is_join part_is_join part_is_join

empty_is : (s : Part) → is_empty s ≡ parts_alike s Empty
empty_is Empty = refl
empty_is s = refl

none_is : (p : Pair Part Part) → no_sides p ≡ pairs_alike p none
none_is p = λ i. empty_is p.one i && empty_is p.two i

-- a join with sides that aren't both empty has sides that aren't both empty
pub sides_merged : {T X : Type 0} (r : Result T X) (P : T → Type 0) (old put new : Pair Part Part) → no_sides old ≡ false → IfOk r (λ t. P t × (new ≡ unwrap_or (pairs_joined old put) old)) → IfErr r (λ _. new ≡ old) → no_sides new ≡ false
sides_merged r P old put new n ok err = none_is new ∙ merged_above pairs_are_join pairs_alike pairs_identical pairs_itself r P old put new (sym (none_is old) ∙ n) ok err
