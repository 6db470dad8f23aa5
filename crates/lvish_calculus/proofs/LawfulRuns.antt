-- The machines of the worked examples have the laws.
use Rattle.std.proofs.Common.{◌≡◌, ◌↔◌, ◌⊎◌, inl, inr, ℕ, zero, suc, Bool, true, false, List, [], ◌∷◌, ◌≤◌, Option, Some, None, Contains, refl, sym, ◌∙◌, ap, subst, arith, nat_eq, option_and_then, if◌then◌else◌}
use Rattle.std.specs.Prelude.{max, nat_le}
use Rattle.std.specs.Ordering.{is_le}
use Rattle.std.specs.Cmp.{tied_itself, nat_cmp_total}
use Rattle.std.proofs.Math.Nat.{max_comm}
use Rattle.std.proofs.lemmas.Bool.{cases_Bool, cases_eq, false_from_ne_true, false≢true, leb-true, leb-false, le-leb}
use Rattle.std.proofs.lemmas.List.Elements.{Contains-append_left, Contains-append_right, Contains-append_cases}
use Rattle.lvish_calculus.specs.Machine.{IsLawful, Freeze, Add}
use Rattle.lvish_calculus.specs.Examples.{over_sets, CrossingAt, forking_u, u_freezing, t_freezing, crossing, crossing_asks, LateAt, late, late_asks}
use Rattle.lvish_calculus.specs.ErrorExamples.{ExampleCell, empty, holding, joined_cell, same_cell, held_numbers, over_cells, CellAt, two_numbers, cell_asks, LateAddAt, late_handler, late_add_asks, the_pool, ChainAt, chain, chain_asks}
use Rattle.lvish_calculus.specs.ErrorExamples as error
use Rattle.lvish_calculus.specs.Examples as example
use Rattle.lvish_calculus.specs.BlockedExamples.{up_to, over_counters, LevelAt, level_functions, level_asks, NestingAt, nesting, nesting_asks, nesting_pool, the_outer, both_pools}
use Rattle.lvish_calculus.specs.BlockedExamples as blocked
use Rattle.lvish_calculus.proofs.Names.{nat_eq-true, nat_eq-refl}
use Rattle.lvish_calculus.proofs.Sound.{some_is}
use Rattle.lvish_calculus.proofs.FromTraits.{sets_lawful}
use Rattle.lvish_calculus.proofs.WorkedRuns.{nat_same}

-- ---- sets

-- a freeze that names no pools names pools of its own variable
none_in : (of : ℕ → Option ℕ) (p v : ℕ) (pools : List ℕ) → [] ≡ pools → Contains pools p → of p ≡ Some v
none_in of p v pools e z = let w : Contains [] p = subst (λ q. Contains q p) (sym e) z in absurd (omega (arith, w.1))

crossing_freezes : (l : CrossingAt) (v : ℕ) (pools : List ℕ) → crossing_asks l ≡ Freeze v pools → (p : ℕ) → Contains pools p → crossing.pool_variable p ≡ Some v
crossing_freezes u_freezing v pools e p z = none_in crossing.pool_variable p v pools (cc) z
crossing_freezes t_freezing v pools e p z = none_in crossing.pool_variable p v pools (cc) z
crossing_freezes l v pools e p z = absurd (cc e)

crossing_adds : (l : CrossingAt) (p proc : ℕ) → crossing_asks l ≡ Add p proc → (v : ℕ) × (crossing.pool_variable p ≡ Some v)
crossing_adds forking_u p proc e = absurd (cc e)
crossing_adds l p proc e = absurd (cc e)

pub crossing_lawful : IsLawful (over_sets crossing)
crossing_lawful = sets_lawful crossing crossing_freezes crossing_adds

late_freezes : (l : LateAt) (v : ℕ) (pools : List ℕ) → late_asks l ≡ Freeze v pools → (p : ℕ) → Contains pools p → late.pool_variable p ≡ Some v
late_freezes example.freezing v pools e p z = none_in late.pool_variable p v pools (cc) z
late_freezes l v pools e p z = absurd (cc e)

late_adds : (l : LateAt) (p proc : ℕ) → late_asks l ≡ Add p proc → (v : ℕ) × (late.pool_variable p ≡ Some v)
late_adds example.forking p proc e = absurd (cc e)
late_adds l p proc e = absurd (cc e)

pub late_lawful : IsLawful (over_sets late)
late_lawful = sets_lawful late late_freezes late_adds

late_handler_freezes : (l : LateAddAt) (v : ℕ) (pools : List ℕ) → late_add_asks l ≡ Freeze v pools → (p : ℕ) → Contains pools p → the_pool p ≡ Some v
late_handler_freezes error.freezing v pools e p z = none_in the_pool p v pools (cc) z
late_handler_freezes l v pools e p z = absurd (cc e)

late_handler_adds : (l : LateAddAt) (p proc : ℕ) → late_add_asks l ≡ Add p proc → (v : ℕ) × (the_pool p ≡ Some v)
late_handler_adds error.adding p proc e = let pp : 0 ≡ p = cc in (0, ap the_pool (sym pp))
late_handler_adds l p proc e = absurd (cc e)

pub late_handler_lawful : IsLawful (over_sets late_handler)
late_handler_lawful = sets_lawful late_handler late_handler_freezes late_handler_adds

chain_freezes : (l : ChainAt) (v : ℕ) (pools : List ℕ) → chain_asks l ≡ Freeze v pools → (p : ℕ) → Contains pools p → chain.pool_variable p ≡ Some v
chain_freezes error.forking v pools e p z = absurd (cc e)
chain_freezes l v pools e p z = absurd (cc e)

chain_adds : (l : ChainAt) (p proc : ℕ) → chain_asks l ≡ Add p proc → (v : ℕ) × (chain.pool_variable p ≡ Some v)
chain_adds error.forking p proc e = absurd (cc e)
chain_adds l p proc e = absurd (cc e)

pub chain_lawful : IsLawful (over_sets chain)
chain_lawful = sets_lawful chain chain_freezes chain_adds

-- both pools are of s
abbrev AreOfS : List ℕ → Type 0
AreOfS pools = (p : ℕ) → Contains pools p → nesting_pool p ≡ Some 0

nesting_freezes : (pools : List ℕ) → AreOfS pools → (l : NestingAt) (v : ℕ) (named : List ℕ) → nesting_asks pools l ≡ Freeze v named → (p : ℕ) → Contains named p → nesting_pool p ≡ Some v
nesting_freezes pools are blocked.freezing v named e p z =
    let same : pools ≡ named = cc in
    let vv : 0 ≡ v = cc in
    are p (subst (λ q. Contains q p) (sym same) z) ∙ ap Some vv
nesting_freezes pools are l v named e p z = absurd (cc e)

nesting_adds : (pools : List ℕ) (l : NestingAt) (p proc : ℕ) → nesting_asks pools l ≡ Add p proc → (v : ℕ) × (nesting_pool p ≡ Some v)
nesting_adds pools blocked.adding p proc e = let pp : 0 ≡ p = cc in (0, ap nesting_pool (sym pp))
nesting_adds pools blocked.adding_inner p proc e = let pp : 1 ≡ p = cc in (0, ap nesting_pool (sym pp))
nesting_adds pools l p proc e = absurd (cc e)

outer_of_s : AreOfS the_outer
outer_of_s p (zero, lt, e) = ap nesting_pool (sym e)
outer_of_s p (suc k, lt, e) = absurd (omega (arith, lt))

both_of_s : AreOfS both_pools
both_of_s p (zero, lt, e) = ap nesting_pool (sym e)
both_of_s p (suc zero, lt, e) = ap nesting_pool (sym e)
both_of_s p (suc (suc k), lt, e) = absurd (omega (arith, lt))

pub outer_lawful : IsLawful (over_sets (nesting the_outer))
outer_lawful = sets_lawful (nesting the_outer) (nesting_freezes the_outer outer_of_s) (nesting_adds the_outer)

pub both_lawful : IsLawful (over_sets (nesting both_pools))
both_lawful = sets_lawful (nesting both_pools) (nesting_freezes both_pools both_of_s) (nesting_adds both_pools)

-- ---- counters

one_is : {e n : ℕ} → Contains (n ∷ []) e → e ≡ n
one_is (zero, lt, e) = sym e
one_is (suc k, lt, e) = absurd (omega (arith, lt))

level_known : (n e : ℕ) → Contains (up_to n) e → (1 ≤ e) × (e ≤ n)
level_known zero e z = absurd (omega (arith, z.1))
level_known (suc n) e z = elim (Contains-append_cases (up_to n) (suc n ∷ []) e z) [
  | inl x ↦ let g = level_known n e x in (g.0, omega (arith, g.1))
  | inr x ↦ let same : e ≡ suc n = one_is x in (omega (arith, same), omega (arith, same))
]

known_level : (n e : ℕ) → 1 ≤ e → e ≤ n → Contains (up_to n) e
known_level zero e low high = absurd (omega (arith, low, high))
known_level (suc n) e low high = elim (cases_eq e (suc n)) [
  | inl same ↦ Contains-append_right (up_to n) (suc n ∷ []) e (0, omega arith, sym same)
  | inr ne ↦ Contains-append_left (up_to n) (suc n ∷ []) e (known_level n e low (omega (arith, high, ne)))
]

levels_joined : (a b c e : ℕ) → max a b ≡ c → Contains (up_to c) e ↔ (Contains (up_to a) e ⊎ Contains (up_to b) e)
levels_joined a b c e is = (
  λ z.
      let g = level_known c e z in
      elim (cases_Bool (nat_le e a)) [
        | inl y ↦ inl (known_level a e g.0 (leb-true e a y))
        | inr y ↦ inr (known_level b e g.0 (above y g.1))
      ],
  λ z. elim z [
    | inl x ↦ let g = level_known a e x in known_level c e g.0 (omega (arith, g.1, is))
    | inr x ↦ let g = level_known b e x in known_level c e g.0 (omega (arith, g.1, is))
  ],
)
  where
    above : nat_le e a ≡ false → e ≤ c → e ≤ b
    above y high = elim (cases_Bool (nat_le e b)) [
      | inl x ↦ leb-true e b x
      | inr x ↦ omega (arith, is, high, leb-false e a y, leb-false e b x)
    ]

pub level_asks_no_freeze : (l : LevelAt) (v : ℕ) (pools : List ℕ) → level_asks l ≡ Freeze v pools → ⊥
level_asks_no_freeze blocked.forking v pools e = cc e
level_asks_no_freeze l v pools e = cc e

level_adds : (l : LevelAt) (p proc : ℕ) → level_asks l ≡ Add p proc → ⊥
level_adds blocked.forking p proc e = cc e
level_adds l p proc e = cc e

pub levels_lawful : IsLawful (over_counters level_functions)
levels_lawful = record {
  join_comm = λ a b. ap Some (max_comm a b);
  join_assoc = λ a b c. ap Some (in_any_order a b c);
  join_idem = λ a. ap Some (itself a);
  join_bottom = λ a. ap Some (from_bottom a);
  events_bottom = λ e z. absurd (omega (arith, z.1));
  events_join = λ a b c j e. levels_joined a b c e (some_is j);
  same_is = nat_same;
  event_same_is = nat_same;
  event_le_itself = λ e. ap is_le (tied_itself nat_cmp_total e);
  answer_stays = λ l v r q a b x le h. reached r a b x (some_is le) _ refl h;
  freeze_own = λ l v pools q. absurd (level_asks_no_freeze l v pools q);
  add_known = λ l p proc q. absurd (level_adds l p proc q);
}
  where
    in_any_order : (a b c : ℕ) → max (max a b) c ≡ max a (max b c)
    in_any_order a b c = omega arith

    itself : (a : ℕ) → max a a ≡ a
    itself a = omega arith

    from_bottom : (a : ℕ) → max 0 a ≡ a
    from_bottom a = omega arith

    reached : (r a b x : ℕ) → max a b ≡ b → (t : Bool) → nat_le r a ≡ t → (if t then Some r else None) ≡ Some x → (if nat_le r b then Some r else None) ≡ Some x
    reached r a b x le true e h = let low : r ≤ a = leb-true r a e in rw (le-leb r b (omega (arith, low, le))) h
    reached r a b x le false e h = absurd (cc h)

-- ---- cells

unequal : (n m : ℕ) → (n ≡ m → ⊥) → nat_eq n m ≡ false
unequal n m ne = false_from_ne_true _ (λ e. ne (nat_eq-true n m e))

some_of : (o : Option ExampleCell) → o ≡ option_and_then (λ x. joined_cell empty x) o
some_of None = refl
some_of (Some x) = refl

cells_comm : (a b : ExampleCell) → joined_cell a b ≡ joined_cell b a
cells_comm empty empty = refl
cells_comm empty (holding m) = refl
cells_comm (holding n) empty = refl
cells_comm (holding n) (holding m) = elim (cases_eq n m) [
  | inl e ↦ subst (λ k. joined_cell (holding n) (holding k) ≡ joined_cell (holding k) (holding n)) e refl
  | inr ne ↦ rw (unequal n m ne, unequal m n (λ e. ne (sym e))) refl
]

pub cell_itself : (n : ℕ) → joined_cell (holding n) (holding n) ≡ Some (holding n)
cell_itself n = rw (nat_eq-refl n) refl

cells_assoc : (a b c : ExampleCell) → option_and_then (λ x. joined_cell x c) (joined_cell a b) ≡ option_and_then (λ x. joined_cell a x) (joined_cell b c)
cells_assoc empty b c = some_of (joined_cell b c)
cells_assoc (holding n) empty c = refl
cells_assoc (holding n) (holding m) empty = by (nat_eq n m)
  where
    by : (t : Bool) → option_and_then (λ x. joined_cell x empty) (if t then Some (holding n) else None) ≡ (if t then Some (holding n) else None)
    by true = refl
    by false = refl
cells_assoc (holding n) (holding m) (holding k) = elim (cases_eq n m) [
  | inl e ↦ subst (λ q. option_and_then (λ x. joined_cell x (holding k)) (joined_cell (holding n) (holding q)) ≡ option_and_then (λ x. joined_cell (holding n) x) (joined_cell (holding q) (holding k))) e
      (ap (λ o. option_and_then (λ x. joined_cell x (holding k)) o) (cell_itself n) ∙ same (nat_eq n k))
  | inr ne ↦ ap (λ t. option_and_then (λ x. joined_cell x (holding k)) (if t then Some (holding n) else None)) (unequal n m ne) ∙ other ne (nat_eq m k)
]
  where
    same : (t : Bool) → (if t then Some (holding n) else None) ≡ option_and_then (λ x. joined_cell (holding n) x) (if t then Some (holding n) else None)
    same true = sym (cell_itself n)
    same false = refl

    other : (n ≡ m → ⊥) → (t : Bool) → None ≡ option_and_then (λ x. joined_cell (holding n) x) (if t then Some (holding m) else None)
    other ne true = sym (ap (λ t. if t then Some (holding n) else None) (unequal n m ne))
    other ne false = refl

cells_idem : (a : ExampleCell) → joined_cell a a ≡ Some a
cells_idem empty = refl
cells_idem (holding n) = cell_itself n

cells_same : (a b : ExampleCell) → (same_cell a b ≡ true) ↔ (a ≡ b)
cells_same empty empty = (λ e. refl, λ e. refl)
cells_same empty (holding m) = (λ e. absurd (false≢true e), λ e. absurd (cc e))
cells_same (holding n) empty = (λ e. absurd (false≢true e), λ e. absurd (cc e))
cells_same (holding n) (holding m) = (λ e. ap holding (nat_eq-true n m e), λ e. let same : n ≡ m = cc in subst (λ k. nat_eq n k ≡ true) same (nat_eq-refl n))

no_number : {e : ℕ} {X : Type 0} → Contains {X = ℕ} [] e → X
no_number z = absurd (omega (arith, z.1))

cells_events : (a b c : ExampleCell) → joined_cell a b ≡ Some c → (e : ℕ) → Contains (held_numbers c) e ↔ (Contains (held_numbers a) e ⊎ Contains (held_numbers b) e)
cells_events empty b c j e =
    let same : b ≡ c = some_is j in
    (λ z. inr (subst (λ x. Contains (held_numbers x) e) (sym same) z), λ z. elim z [ inl x ↦ no_number x | inr x ↦ subst (λ y. Contains (held_numbers y) e) same x ])
cells_events (holding n) empty c j e =
    let same : holding n ≡ c = some_is j in
    (λ z. inl (subst (λ x. Contains (held_numbers x) e) (sym same) z), λ z. elim z [ inl x ↦ subst (λ y. Contains (held_numbers y) e) same x | inr x ↦ no_number x ])
cells_events (holding n) (holding m) c j e = by _ refl j
  where
    by : (t : Bool) → nat_eq n m ≡ t → (if t then Some (holding n) else None) ≡ Some c → Contains (held_numbers c) e ↔ (Contains (n ∷ []) e ⊎ Contains (m ∷ []) e)
    by false q j = absurd (cc j)
    by true q j =
        let nm : n ≡ m = nat_eq-true n m q in
        let same : holding n ≡ c = some_is j in (
          λ z. inl (subst (λ x. Contains (held_numbers x) e) (sym same) z),
          λ z. subst (λ y. Contains (held_numbers y) e) same (elim z [ inl x ↦ x | inr x ↦ subst (λ k. Contains (k ∷ []) e) (sym nm) x ]),
        )

cell_asks_no_freeze : (l : CellAt) (v : ℕ) (pools : List ℕ) → cell_asks l ≡ Freeze v pools → ⊥
cell_asks_no_freeze error.forking v pools e = cc e
cell_asks_no_freeze l v pools e = cc e

cell_adds : (l : CellAt) (p proc : ℕ) → cell_asks l ≡ Add p proc → ⊥
cell_adds error.forking p proc e = cc e
cell_adds l p proc e = cc e

pub cells_lawful : IsLawful (over_cells two_numbers)
cells_lawful = record {
  join_comm = cells_comm;
  join_assoc = cells_assoc;
  join_idem = cells_idem;
  join_bottom = λ a. refl;
  events_bottom = λ e z. no_number z;
  events_join = cells_events;
  same_is = cells_same;
  event_same_is = nat_same;
  event_le_itself = λ e. ap is_le (tied_itself nat_cmp_total e);
  answer_stays = λ l v r q a b x le h. absurd (cc h);
  freeze_own = λ l v pools q. absurd (cell_asks_no_freeze l v pools q);
  add_known = λ l p proc q. absurd (cell_adds l p proc q);
}
