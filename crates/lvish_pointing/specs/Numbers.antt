-- Facts whose names are numbered.
use Rattle.std.specs.Prelude.{◌≡◌, ◌&&◌, ◌<◌, ℕ, Bool, true, false, nat_lt, List, [], ◌∷◌, slice_get, unwrap_or, Contains, refl}
use Rattle.std.proofs.Common.{sym, ◌∙◌, ap, true≢false}
use mathlib.Core.Bool.{Bool-set}
use Rattle.std.specs.Borrow.{Bor}
use Rattle.std.specs.List.{flat_map, list_all}
use Rattle.std.proofs.lemmas.Bool.{ltb-true}
use Rattle.std.proofs.lemmas.List.Folds.{list_all_at}
use Rattle.lvish_lattice.specs.Ascending.{and_left, and_right}
use Rattle.lvish_facts.specs.declared.node.Node.{Node}
use Rattle.lvish_facts.specs.Names.{Word}
use Rattle.lvish_pointing.specs.declared.fact.Fact.{Fact}

-- the fact over the words that are referred to
abbrev pub spelled : Fact (Bor (List ℕ)) → Fact Word
spelled f = record { kind = f.kind; left = f.left.now; right = f.right.now }

-- the name of a node
abbrev pub name_at : List Word → Node → Word
name_at names n = unwrap_or (slice_get names n.number) []

-- the fact over the names of its nodes
abbrev pub named : List Word → Fact Node → Fact Word
named names f = record { kind = f.kind; left = name_at names f.left; right = name_at names f.right }

-- both nodes have one of so many names
abbrev pub is_inside : ℕ → Fact Node → Bool
is_inside count f = nat_lt f.left.number count && nat_lt f.right.number count

-- all nodes have one of so many names
abbrev pub AreInside : ℕ → List (Fact Node) → Type 0
AreInside count facts = list_all (is_inside count) facts ≡ true

-- the names of facts, the left one of each before its right one
abbrev pub names_of : List (Fact Word) → List Word
names_of facts = flat_map (λ f. f.left ∷ f.right ∷ []) facts

-- ---- laws

pub AreInside-prop : (count : ℕ) (facts : List (Fact Node)) → IsProp (AreInside count facts)
AreInside-prop count facts = Bool-set _ _

-- what holds of all elements holds of each
pub of_each : {X : Type 0} (p : X → Bool) (xs : List X) (x : X) → list_all p xs ≡ true → Contains xs x → p x ≡ true
of_each p xs x all (k, h, e) = by (p x) refl
  where
    by : (b : Bool) → p x ≡ b → p x ≡ true
    by true z = z
    by false z = absurd (true≢false (sym all ∙ list_all_at p xs k x h (ap p e ∙ z)))

pub inside_is : (count : ℕ) (facts : List (Fact Node)) (f : Fact Node) → AreInside count facts → Contains facts f
    → (f.left.number < count) × (f.right.number < count)
inside_is count facts f all c =
    let both = of_each (is_inside count) facts f all c in (
      ltb-true f.left.number count (and_left (nat_lt f.left.number count) _ both),
      ltb-true f.right.number count (and_right (nat_lt f.left.number count) _ both),
    )
