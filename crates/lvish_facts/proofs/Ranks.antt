-- Names that are sorted.
use Rattle.std.proofs.Common.{◌≡◌, ◌||◌, ◌↔◌, Bool, true, false, List, [], ◌∷◌, Option, Some, None, Contains, map, slice_get, option_map, refl, sym, ◌∙◌, ap, subst, arith, true≢false}
use Rattle.std.specs.declared.cmp.Ordering.TheVariants.{Less, Equal}
use Rattle.std.specs.Ordering.{nat_cmp, eq_by_cmp, is_eq}
use Rattle.std.specs.Borrow.{Bor}
use Rattle.std.specs.BTreeSet.{BTreeSet, IsFromIterResult}
use Rattle.std.specs.Cmp.{IsTotalOrder, Equal-is, eq_by_cmp_equiv, on_total}
use Rattle.std.specs.Cmp.Lexicographic.{slice_cmp, nat_list_cmp_total}
use Rattle.std.specs.List.{AllByRecursion, list_any}
use Rattle.std.specs.List.Sorted.{IsStrictlySortedBy}
use Rattle.std.specs.Set.{is_member}
use Rattle.std.proofs.lemmas.Option.{slice_get_within, get_or_from_slice_get, slice_get-get_or, slice_get-map}
use Rattle.std.proofs.lemmas.List.Elements.{Contains-append_right}
use Rattle.std.proofs.lemmas.Map.Text.{is_eq-slice_cmp}
use Rattle.std.proofs.lemmas.Slice.Eq.{bytes_eq-Decides}
use Rattle.std.proofs.lemmas.Map.Views.{list_any-from_Contains}
use Rattle.lvish_facts.specs.Names.{Word, by_bytes, names_in}

-- an element of mapped elements is that of one of them
of_map : {X Y : Type 0} (f : X → Y) (xs : List X) (y : Y) → Contains (map f xs) y → (x : X) × Contains xs x × (f x ≡ y)
of_map f xs y (k, h, e) = by (slice_get xs k) refl (sym (slice_get-map f xs k) ∙ slice_get-get_or (map f xs) k y h ∙ ap Some e)
  where
    by : (o : Option _) → slice_get xs k ≡ o → option_map f o ≡ Some y → (x : _) × Contains xs x × (f x ≡ y)
    by None z q = absurd (cc q)
    by (Some x) z q = (x, (k, slice_get_within xs k x z, get_or_from_slice_get xs k x x z), cc)

in_map : {X Y : Type 0} (f : X → Y) (xs : List X) (x : X) → Contains xs x → Contains (map f xs) (f x)
in_map f xs x (k, h, e) =
    let z : slice_get (map f xs) k ≡ Some (f x) = slice_get-map f xs k ∙ ap (option_map f) (slice_get-get_or xs k x h ∙ ap Some e) in
    (k, slice_get_within (map f xs) k (f x) z, get_or_from_slice_get (map f xs) k (f x) (f x) z)

any_found : {X : Type 0} (p : X → Bool) (xs : List X) → list_any p xs ≡ true → (x : X) × Contains xs x × (p x ≡ true)
any_found p [] h = absurd (true≢false (sym h))
any_found {X = X} p (x ∷ xs) h = by (p x) refl h (any_found p xs)
  where
    by : (b : Bool) → p x ≡ b → (b || list_any p xs) ≡ true → (list_any p xs ≡ true → (y : X) × Contains xs y × (p y ≡ true)) → (y : X) × Contains (x ∷ xs) y × (p y ≡ true)
    by true e h rest = (x, (0, omega arith, refl), e)
    by false e h rest = let r = rest h in (r.0, Contains-append_right (x ∷ []) xs r.0 r.1, r.2)

-- two names that tie are the same
tied_texts : (v w : Word) → slice_cmp nat_cmp v w ≡ Equal → v ≡ w
tied_texts v w h = (bytes_eq-Decides v w).0 (sym (is_eq-slice_cmp v w) ∙ ap is_eq h)

below_texts : (x : Bor Word) (xs : List (Bor Word)) → AllByRecursion (λ y. by_bytes x y ≡ Less) xs → AllByRecursion (λ w. slice_cmp nat_cmp x.now w ≡ Less) (names_in xs)
below_texts x [] h = tt
below_texts x (y ∷ ys) h = (h.0, below_texts x ys h.1)

texts_rise : (xs : List (Bor Word)) → IsStrictlySortedBy by_bytes xs → IsStrictlySortedBy (slice_cmp nat_cmp) (names_in xs)
unfolding IsStrictlySortedBy
texts_rise [] h = tt
texts_rise (x ∷ xs) h = (below_texts x xs h.0, texts_rise xs h.1)

by_bytes_total : IsTotalOrder by_bytes
by_bytes_total = on_total (λ (k : Bor Word). k.now) nat_list_cmp_total

-- names that are members alike are the same names
texts_there : (xs ys : List (Bor Word)) → ((q : Bor Word) → is_member (eq_by_cmp by_bytes) xs q ≡ is_member (eq_by_cmp by_bytes) ys q) → (w : Word) → Contains (names_in xs) w → Contains (names_in ys) w
texts_there xs ys h w c =
    let text : Bor Word → Word = λ k. k.now in
    let x = of_map text xs w c in
    let r = any_found (eq_by_cmp by_bytes x.0) ys (sym (h x.0) ∙ list_any-from_Contains (eq_by_cmp_equiv by_bytes_total) x.0 xs x.1) in
    let e : x.0.now ≡ r.0.now = tied_texts x.0.now r.0.now ((Equal-is (by_bytes x.0 r.0)).0 r.2) in
    subst (Contains (names_in ys)) (sym e ∙ x.2) (in_map text ys r.0 r.1)

module _ (xs ys : List (Bor Word)) (set : BTreeSet (Bor Word)) (made : IsFromIterResult by_bytes xs set) (same : ys ≡ set.keys) where
  pub set_rises : IsStrictlySortedBy (slice_cmp nat_cmp) (names_in ys)
  set_rises = texts_rise ys (subst (IsStrictlySortedBy by_bytes) (sym same) made.1)

  members : (q : Bor Word) → is_member (eq_by_cmp by_bytes) ys q ≡ is_member (eq_by_cmp by_bytes) xs q
  members q = ap (λ ks. is_member (eq_by_cmp by_bytes) ks q) same ∙ made.0 q

  pub set_has : (w : Word) → Contains (names_in ys) w ↔ Contains (names_in xs) w
  set_has w = (texts_there ys xs members w, texts_there xs ys (λ q. sym (members q)) w)
