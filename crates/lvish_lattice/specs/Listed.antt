-- Reads by a list: the first that passes, and where one value alone is listed.
use Rattle.std.specs.Prelude.{◌≡◌, ◌⊎◌, Bool, true, false, cond, List, [], ◌∷◌, Option, Some, None, Contains, find, option_map, refl}
use Rattle.std.proofs.Common.{sym, ◌∙◌, ap, subst, arith, zero, suc, inl, inr}
use Rattle.std.proofs.lemmas.List.Sums.{AllPass-from_list_all}
use Rattle.std.proofs.lemmas.Option.{cond_some, none-some}
use Rattle.std.specs.List.{list_all}
use Rattle.lvish_lattice.specs.Lattice.{IsIdentity}

module _ {X : Type 0} where
  pub first_contained : (x : X) (xs : List X) → Contains (x ∷ xs) x
  first_contained x xs = (0, omega arith, refl)

  pub later_contained : (y x : X) (xs : List X) → Contains xs x → Contains (y ∷ xs) x
  later_contained y x xs p = (suc p.0, omega arith, p.2)

  -- what is found is listed, and passes
  pub found : (test : X → Bool) (xs : List X) (x : X) → find test xs ≡ Some x → Contains xs x × (test x ≡ true)
  found test [] x e = absurd cc
  found test (y ∷ ys) x e = by_test (test y) refl (found test ys x) e
    where
      by_test : (b : Bool) → test y ≡ b → (find test ys ≡ Some x → Contains ys x × (test x ≡ true)) → cond b (Some y) (find test ys) ≡ Some x → Contains (y ∷ ys) x × (test x ≡ true)
      by_test true t later h = let s : y ≡ x = cc in (subst (λ z. Contains (y ∷ ys) z) s (first_contained y ys), subst (λ z. test z ≡ true) s t)
      by_test false t later h = let p = later h in (later_contained y x ys p.0, p.1)

  -- the one value that is listed is found where it passes
  pub found_one : (test : X → Bool) (xs : List X) (x : X) → Contains xs x → ((y : X) → Contains xs y → y ≡ x) → test x ≡ true → find test xs ≡ Some x
  found_one test [] x p one t = absurd (omega arith)
  found_one test (y ∷ ys) x p one t =
      let s : y ≡ x = one y (first_contained y ys) in
      ap (λ b. cond b (Some y) (find test ys)) (ap test s ∙ t) ∙ ap (λ (z : X). Some z) s

  pub unmapped : {A : Type 0} (f : X → A) (r : Option X) → option_map f r ≡ None → r ≡ None
  unmapped f (Some x) e = absurd cc
  unmapped f None e = refl

  pub mapped : {A : Type 0} (f : X → A) (r : Option X) (a : A) → option_map f r ≡ Some a → (x : X) × (r ≡ Some x) × (f x ≡ a)
  mapped f (Some x) a e = (x, refl, cc)
  mapped f None a e = absurd cc

  pub some_is_not_none : (r : Option X) (x : X) → r ≡ Some x → r ≡ None → ⊥
  some_is_not_none r x p q = none-some x (sym q ∙ p)

  -- what is no value is none
  pub unless_some : (r : Option X) → ((x : X) → r ≡ Some x → ⊥) → r ≡ None
  unless_some (Some x) h = absurd (h x refl)
  unless_some None h = refl

  -- the one value that is listed, however often; none where there is none, or several
  abbrev pub one_of : (X → X → Bool) → List X → Option X
  one_of eq [] = None
  one_of eq (x ∷ xs) = cond (list_all (eq x) xs) (Some x) None

  listed_cases : (z : X) (zs : List X) (y : X) → Contains (z ∷ zs) y → (z ≡ y) ⊎ Contains zs y
  listed_cases z zs y (zero, lt, e) = inl e
  listed_cases z zs y (suc k, lt, e) = inr (k, omega (arith, lt), e)

  pub only_contained : (z y : X) → Contains (z ∷ []) y → z ≡ y
  only_contained z y c = elim (listed_cases z [] y c) [ inl e ↦ e | inr d ↦ absurd (omega (arith, d.1)) ]

  all_are : (eq : X → X → Bool) (same : IsIdentity eq) (x : X) (xs : List X) → list_all (eq x) xs ≡ true → (y : X) → Contains xs y → x ≡ y
  all_are eq same x xs h y c = same x y (ap (eq x) (sym c.2) ∙ AllPass-from_list_all (eq x) xs h c.0 y c.1)

  -- that value is listed, and each listed value is the same
  pub one_is_each : (eq : X → X → Bool) (same : IsIdentity eq) (xs : List X) (x : X) → one_of eq xs ≡ Some x → Contains xs x × ((y : X) → Contains xs y → x ≡ y)
  one_is_each eq same [] x e = absurd cc
  one_is_each eq same (z ∷ zs) x e =
      let h = cond_some (list_all (eq z) zs) z x e in
      (subst (λ q. Contains (z ∷ zs) q) h.1 (first_contained z zs), λ y c. elim (listed_cases z zs y c) [ inl d ↦ sym h.1 ∙ d | inr d ↦ sym h.1 ∙ all_are eq same z zs h.0 y d ])

  -- where nothing is found, nothing that is listed passes
  pub missed : (test : X → Bool) (xs : List X) (x : X) → find test xs ≡ None → Contains xs x → test x ≡ false
  missed test [] x e c = absurd (omega (arith, c.1))
  missed test (y ∷ ys) x e c = by_test (test y) refl (λ h d. missed test ys x h d) e
    where
      by_test : (b : Bool) → test y ≡ b → (find test ys ≡ None → Contains ys x → test x ≡ false) → cond b (Some y) (find test ys) ≡ None → test x ≡ false
      by_test true t later h = absurd cc
      by_test false t later h = elim (listed_cases y ys x c) [ inl d ↦ ap test (sym d) ∙ t | inr d ↦ later h d ]
