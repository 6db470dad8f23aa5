-- What follows from the rules is the least solution of the constraints, over nodes.
use Rattle.std.proofs.Common.{◌≡◌, ◌<◌, ◌≤◌, ◌+◌, ◌-◌, ℕ, Bool, true, false, nat_lt, List, [], ◌∷◌, Option, Some, None, Contains, refl, sym, ◌∙◌, ap, subst, arith}
use Rattle.std.specs.Prelude.{if◌then◌else◌}
use Rattle.std.proofs.lemmas.Bool.{ltb-true, lt-ltb}
use Rattle.lvish_rules.specs.declared.moves.Move.{Move}
use Rattle.lvish_rules.specs.declared.moves.Move.TheVariants.{Put, Watch}
use Rattle.lvish_rules.specs.Rules.{RuleSet, Follows, at_first, fires, Holds}
use Rattle.lvish_rules.specs.Reach.{of_map, in_map}
use Rattle.lvish_facts.specs.declared.node.Node.{Node}
use Rattle.lvish_pointing.specs.declared.fact.Kind.{Kind}
use Rattle.lvish_pointing.specs.declared.fact.Kind.TheVariants.{Address, Copy, Load, Store}
use Rattle.lvish_pointing.specs.declared.fact.Fact.{Fact}
use Rattle.lvish_pointing.specs.declared.watching.Watching.{Watching}
use Rattle.lvish_pointing.specs.declared.watching.Watching.TheVariants.{Into, Loading, Storing}
use Rattle.lvish_pointing.specs.Solutions.{IsMetAs, Solves}
use Rattle.lvish_pointing.specs.Numbers.{AreInside, inside_is}
use Rattle.lvish_pointing.specs.Pointing.{number_of, watching_of, flow, first_as, first_of, then_of, pointing}
use Rattle.lvish_pointing.specs.PointingLaws.{of_one, node_of, by_tests, watched_inside}

not_below : (a b : ℕ) → b ≤ a → nat_lt a b ≡ false
not_below a b h = by (nat_lt a b) refl
  where
    by : (c : Bool) → nat_lt a b ≡ c → nat_lt a b ≡ false
    by true z = absurd (omega (arith, h, ltb-true a b z))
    by false z = z

-- a watch is found again by its number
pub found_again : (count : ℕ) (w : Watching) → (node_of w).number < count → watching_of count (number_of count w) ≡ Some w
found_again count (Into p) h =
    let n : ℕ = p.number in
    let low : nat_lt n count ≡ true = lt-ltb n count h in
    λ i. by_tests count n (low i) (nat_lt n (count + count)) (nat_lt n (count + count + count))
found_again count (Loading p) h =
    let n : ℕ = count + p.number in
    let low : nat_lt n count ≡ false = not_below n count (omega arith) in
    let high : nat_lt n (count + count) ≡ true = lt-ltb n (count + count) (omega (arith, h)) in
    let same : n - count ≡ p.number = omega arith in
    (λ i. by_tests count n (low i) (high i) (nat_lt n (count + count + count))) ∙ (λ i. Some (Loading (record { number = same i })))
found_again count (Storing q) h =
    let n : ℕ = count + count + q.number in
    let low : nat_lt n count ≡ false = not_below n count (omega arith) in
    let middle : nat_lt n (count + count) ≡ false = not_below n (count + count) (omega arith) in
    let high : nat_lt n (count + count + count) ≡ true = lt-ltb n (count + count + count) (omega (arith, h)) in
    let same : n - (count + count) ≡ q.number = omega arith in
    (λ i. by_tests count n (low i) (middle i) (high i)) ∙ (λ i. Some (Storing (record { number = same i })))

abbrev node : ℕ → Node
node k = record { number = k }

module _ {S : Type 0} (only : Node → S) (events : S → List Node) (one : (x : Node) → events (only x) ≡ x ∷ []) (count : ℕ) (facts : List (Fact Node)) (inside : AreInside count facts) where
  abbrev rules : RuleSet S Node
  rules = pointing only count facts

  has_one : (x : Node) → Contains (events (only x)) x
  has_one x = subst (λ (xs : List Node). Contains xs x) (sym (one x)) (0, omega arith, refl)

  is_one : (x y : Node) → Contains (events (only x)) y → x ≡ y
  is_one x y h = of_one x y (subst (λ (xs : List Node). Contains xs y) (one x) h)

  -- ---- it is within each solution

  module _ (P : Node → Node → Type 0) (solves : Solves P facts) where
    -- what a watch on the pointer stands for holds
    abbrev Keeps : Node → Watching → Type 0
    Keeps p (Into q) = (x : Node) → P p x → P q x
    Keeps p (Loading q) = (x y : Node) → P p x → P x y → P q y
    Keeps p (Storing q) = (x y : Node) → P p x → P q y → P x y

    -- a put brings only what is in the solution, a watch stands for what holds of it
    abbrev IsSound : Move S → Type 0
    IsSound (Put r d) = (x : Node) → Contains (events d) x → P (node r) x
    IsSound (Watch r w) = (k : Watching) → watching_of count w ≡ Some k → Keeps (node r) k

    put_sound : (p x : Node) → P p x → IsSound (Put p.number (only x))
    put_sound p x h = λ y c. subst (λ (z : Node). P p z) (is_one x y c) h

    watch_sound : (p : Node) (w : Watching) → (node_of w).number < count → Keeps p w → IsSound (Watch p.number (number_of count w))
    watch_sound p w h keeps = λ k e.
        let both : ◌≡◌ {A = Option Watching} (Some w) (Some k) = sym (found_again count w h) ∙ e in
        let same : w ≡ k = cc in
        subst (λ (v : Watching). Keeps p v) same keeps

    first_sound : (kind : Kind) (left right : Node) → left.number < count → right.number < count
        → IsMetAs P kind left right → IsSound (first_as only count kind left right)
    first_sound Address p x h k met = put_sound p x met
    first_sound Copy p q h k met = watch_sound q (Into p) h met
    first_sound Load p q h k met = watch_sound q (Loading p) h met
    first_sound Store p q h k met = watch_sound p (Storing q) k met

    then_sound : (r w : ℕ) (x : Node) (k : Option Watching) → watching_of count w ≡ k → IsSound (Watch r w)
        → P (node r) x → x.number < count → (m : Move S) → Contains (then_of only count k x) m → IsSound m
    then_sound r w x None e keeps h lt m c = absurd (omega (arith, c.1))
    then_sound r w x (Some (Into p)) e keeps h lt m c = subst IsSound (of_one _ m c) (put_sound p x (keeps (Into p) e x h))
    then_sound r w x (Some (Loading p)) e keeps h lt m c =
        subst IsSound (of_one _ m c) (watch_sound x (Into p) (watched_inside count w (Loading p) e) (λ y g. keeps (Loading p) e x y h g))
    then_sound r w x (Some (Storing q)) e keeps h lt m c =
        subst IsSound (of_one _ m c) (watch_sound q (Into x) lt (λ y g. keeps (Storing q) e x y h g))

    fired_sound : (r w : ℕ) (x : Node) (b : Bool) → nat_lt x.number count ≡ b → IsSound (Watch r w) → P (node r) x
        → (m : Move S) → Contains (if b then then_of only count (watching_of count w) x else []) m → IsSound m
    fired_sound r w x true z keeps h m c = then_sound r w x (watching_of count w) refl keeps h (ltb-true x.number count z) m c
    fired_sound r w x false z keeps h m c = absurd (omega (arith, c.1))

    sound : {m : Move S} → Follows events rules m → IsSound m
    sound {m = m} (at_first h) =
        let f = of_map (first_of only count) facts m h in
        let lt = inside_is count facts f.0 inside f.1 in
        subst IsSound f.2 (first_sound f.0.kind f.0.left f.0.right lt.0 lt.1 (solves f.0 f.1))
    sound {m = m} (fires r w d e watch put below h) = fired_sound r w e (nat_lt e.number count) refl (sound watch) (sound put e below) m h

    pub held_within : (p x : Node) → Holds events rules p.number x → P p x
    held_within p x h = sound h.1 x h.2

  -- ---- it is a solution

  -- the pointer points to the node, by the rules
  abbrev pub Held : Node → Node → Type 0
  Held p x = Holds events rules p.number x

  abbrev Inside : Node → Node → Type 0
  Inside p x = (p.number < count) × (x.number < count)

  all_inside : (kind : Kind) (p q : Node) → p.number < count → q.number < count → IsMetAs Inside kind p q
  all_inside Address p x h k = (h, k)
  all_inside Copy p q h k = λ x g. (h, g.1)
  all_inside Load p q h k = λ x y f g. (h, g.1)
  all_inside Store p q h k = λ x y f g. (f.1, g.1)

  pub held_inside : (p x : Node) → Held p x → (p.number < count) × (x.number < count)
  held_inside = held_within Inside (λ f c. let lt = inside_is count facts f inside c in all_inside f.kind f.left f.right lt.0 lt.1)

  put_held : (p x : Node) → Follows events rules (Put p.number (only x)) → Held p x
  put_held p x h = (only x, h, has_one x)

  -- what a watch makes of what its pointer points to follows
  then_follows : (p x : Node) (w : Watching) → (node_of w).number < count
      → Follows events rules (Watch p.number (number_of count w)) → Held p x → (m : Move S)
      → Contains (then_of only count (Some w) x) m → Follows events rules m
  then_follows p x w h watch held m c =
      let lt : nat_lt x.number count ≡ true = lt-ltb x.number count (held_inside p x held).1 in
      let is : then_of only count (watching_of count (number_of count w)) x ≡ then_of only count (Some w) x = ap (λ k. then_of only count k x) (found_again count w h) in
      let fired : rules.fired (number_of count w) x ≡ then_of only count (Some w) x = ap (λ b. if b then then_of only count (watching_of count (number_of count w)) x else []) lt ∙ is in
      fires p.number (number_of count w) held.0 x watch held.1 held.2 (subst (λ (ms : List (Move S)). Contains ms m) (sym fired) c)

  flows : (from to : Node) → to.number < count → Follows events rules (flow only count from to) → (x : Node) → Held from x → Held to x
  flows from to h watch x held = put_held to x (then_follows from x (Into to) h watch held (Put to.number (only x)) (0, omega arith, refl))

  met : (kind : Kind) (p q : Node) → p.number < count → q.number < count → Follows events rules (first_as only count kind p q) → IsMetAs Held kind p q
  met Address p x h k first = put_held p x first
  met Copy p q h k first = λ x g. flows q p h first x g
  met Load p q h k first = λ x y f g. flows x p h (then_follows q x (Loading p) h first f (flow only count x p) (0, omega arith, refl)) y g
  met Store p q h k first = λ x y f g. flows q x (held_inside p x f).1 (then_follows p x (Storing q) k first f (flow only count q x) (0, omega arith, refl)) y g

  pub held_solves : Solves Held facts
  held_solves f c =
      let lt = inside_is count facts f inside c in
      met f.kind f.left f.right lt.0 lt.1 (at_first (in_map (first_of only count) facts f c))
