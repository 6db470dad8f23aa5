-- The rules of the analysis name relations that exist.
use Rattle.std.specs.Prelude.{◌≡◌, ◌<◌, ◌+◌, ◌-◌, ℕ, zero, suc, Bool, true, false, nat_lt, [], ◌∷◌, Contains, Option, Some, None, if◌then◌else◌, refl}
use Rattle.std.proofs.Common.{arith, subst}
use Rattle.std.proofs.lemmas.Bool.{ltb-true, ltb-false}
use Rattle.lvish_rules.specs.declared.moves.Move.{Move}
use Rattle.lvish_rules.specs.Rules.{relation_of, NamesRelations}
use Rattle.lvish_rules.specs.Reach.{of_map}
use Rattle.lvish_facts.specs.declared.node.Node.{Node}
use Rattle.lvish_pointing.specs.declared.fact.Kind.{Kind}
use Rattle.lvish_pointing.specs.declared.fact.Kind.TheVariants.{Address, Copy, Load, Store}
use Rattle.lvish_pointing.specs.declared.watching.Watching.{Watching}
use Rattle.lvish_pointing.specs.declared.watching.Watching.TheVariants.{Into, Loading, Storing}
use Rattle.lvish_pointing.specs.declared.constraints.Constraints.{Constraints}
use Rattle.lvish_pointing.specs.Numbers.{inside_is}
use Rattle.lvish_pointing.specs.Pointing.{watching_of, first_as, first_of, then_of, pointing}

-- the constraints of no facts
pub no_constraints : Constraints
no_constraints = record { names = 0; facts = []; inside = refl }

pub of_one : {X : Type 0} (a x : X) → Contains (a ∷ []) x → a ≡ x
of_one a x (zero, h, e) = e
of_one a x (suc k, h, e) = absurd (omega (arith, h))

-- the node of a watch
abbrev pub node_of : Watching → Node
node_of (Into p) = p
node_of (Loading p) = p
node_of (Storing q) = q

module _ (count number : ℕ) where
  abbrev third : Bool → Option Watching
  third b = if b then Some (Storing (record { number = number - (count + count) })) else None

  abbrev second : Bool → Bool → Option Watching
  second a b = if a then Some (Loading (record { number = number - count })) else third b

  -- the watch of the number, by the three tests
  abbrev pub by_tests : Bool → Bool → Bool → Option Watching
  by_tests c a b = if c then Some (Into (record { number = number })) else second a b

  -- a watch of a number has one of so many names
  pub watched_inside : (w : Watching) → watching_of count number ≡ Some w → (node_of w).number < count
  watched_inside w e = by (nat_lt number count) refl (nat_lt number (count + count)) refl (nat_lt number (count + count + count)) refl e
    where
      by : (c : Bool) → nat_lt number count ≡ c → (a : Bool) → nat_lt number (count + count) ≡ a → (b : Bool)
          → nat_lt number (count + count + count) ≡ b → by_tests c a b ≡ Some w → (node_of w).number < count
      by true z a y b x e =
          let is : Into (record { number = number }) ≡ w = cc in
          subst (λ v. (node_of v).number < count) is (ltb-true number count z)
      by false z true y b x e =
          let is : Loading (record { number = number - count }) ≡ w = cc in
          subst (λ v. (node_of v).number < count) is (omega (arith, ltb-true number (count + count) y, ltb-false number count z))
      by false z false y true x e =
          let is : Storing (record { number = number - (count + count) }) ≡ w = cc in
          subst (λ v. (node_of v).number < count) is (omega (arith, ltb-true number (count + count + count) x, ltb-false number (count + count) y))
      by false z false y false x e = absurd (cc e)

module _ {S : Type 0} (only : Node → S) (count : ℕ) where
  first_named : (kind : Kind) (left right : Node) → left.number < count → right.number < count → relation_of (first_as only count kind left right) < count
  first_named Address p x h k = h
  first_named Copy p q h k = k
  first_named Load p q h k = k
  first_named Store p q h k = h

  then_named : (w : Option Watching) (number : ℕ) (x : Node) (m : Move S) → watching_of count number ≡ w
      → x.number < count → Contains (then_of only count w x) m → relation_of m < count
  then_named None number x m e h c = absurd (omega (arith, c.1))
  then_named (Some (Into p)) number x m e h c = subst (λ (m : Move S). relation_of m < count) (of_one _ m c) (watched_inside count number (Into p) e)
  then_named (Some (Loading p)) number x m e h c = subst (λ (m : Move S). relation_of m < count) (of_one _ m c) h
  then_named (Some (Storing q)) number x m e h c = subst (λ (m : Move S). relation_of m < count) (of_one _ m c) (watched_inside count number (Storing q) e)

pub pointing_named : {S : Type 0} (only : Node → S) (c : Constraints) → NamesRelations (pointing only c.names c.facts)
pointing_named {S} only c = record {
  first = λ m h.
      let f = of_map (first_of only c.names) c.facts m h in
      let inside = inside_is c.names c.facts f.0 c.inside f.1 in
      subst (λ (m : Move S). relation_of m < c.names) f.2 (first_named only c.names f.0.kind f.0.left f.0.right inside.0 inside.1);
  fired = λ watch x m h. by watch x m (nat_lt x.number c.names) refl h;
}
  where
    by : (watch : ℕ) (x : Node) (m : Move S) (b : Bool) → nat_lt x.number c.names ≡ b
        → Contains (if b then then_of only c.names (watching_of c.names watch) x else []) m → relation_of m < c.names
    by watch x m true z h = then_named only c.names (watching_of c.names watch) watch x m refl (ltb-true x.number c.names z) h
    by watch x m false z h = absurd (omega (arith, h.1))
