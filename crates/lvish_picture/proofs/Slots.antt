-- Reads of a list after a write, and its elements.
use Rattle.std.proofs.Common.{◌≡◌, ◌⊎◌, ◌↔◌, inl, inr, ℕ, suc, zero, ◌<◌, Bool, true, false, List, [], ◌∷◌, ◌++◌, length, filter, Contains, slice_set, slice_get, Option, Some, option_map, unwrap_or, nat_eq, if◌then◌else◌, refl, sym, ap, ◌∙◌, subst, arith, get_or, take, length-take}
use Rattle.std.proofs.lemmas.Bool.{cases_Bool, both_ways}
use Rattle.std.proofs.lemmas.List.Elements.{Contains-append_right}
use Rattle.std.proofs.lemmas.Option.{slice_get_within}
use Rattle.std.proofs.lemmas.List.{get_or-take}
use Rattle.std.proofs.lemmas.Map.Made.{is_member-Decides}
use Rattle.std.specs.Set.{is_member}
use Rattle.lvish_calculus.specs.Handing.{IsAmong}
use Rattle.lvish_calculus.proofs.Names.{nat_eq-true, nat_eq-refl}
use Rattle.lvish_calculus.proofs.Sound.{some_is}

get_same : {X : Type 0} (xs : List X) (v : ℕ) (x : X) → v < length xs → slice_get (slice_set xs v x) v ≡ Some x
get_same [] v x lt = absurd (omega arith)
get_same (y ∷ xs) zero x lt = refl
get_same (y ∷ xs) (suc v) x lt = get_same xs v x (omega arith)

get_other : {X : Type 0} (xs : List X) (v : ℕ) (x : X) (w : ℕ) → (w ≡ v → ⊥) → slice_get (slice_set xs v x) w ≡ slice_get xs w
get_other [] zero x w ne = refl
get_other [] (suc v) x w ne = refl
get_other (y ∷ xs) zero x zero ne = absurd (ne refl)
get_other (y ∷ xs) zero x (suc w) ne = refl
get_other (y ∷ xs) (suc v) x zero ne = refl
get_other (y ∷ xs) (suc v) x (suc w) ne = get_other xs v x w (λ e. ne (ap suc e))

pub get_there : {X : Type 0} (xs : List X) (v : ℕ) → v < length xs → (x : X) × (slice_get xs v ≡ Some x)
get_there [] v lt = absurd (omega arith)
get_there (y ∷ xs) zero lt = (y, refl)
get_there (y ∷ xs) (suc v) lt = get_there xs v (omega arith)

-- what is read after a write: what was written, or what was there
pub data Read {X : Type 0} (xs : List X) (v : ℕ) (x : X) (w : ℕ) (y : X) : Type 0 where
  written : w ≡ v → y ≡ x → Read xs v x w y
  earlier : (w ≡ v → ⊥) → slice_get xs w ≡ Some y → Read xs v x w y

pub read : {X : Type 0} (xs : List X) (v : ℕ) (x : X) (w : ℕ) (y : X) → v < length xs → slice_get (slice_set xs v x) w ≡ Some y → Read xs v x w y
read xs v x w y lt e = elim (cases_Bool (nat_eq w v)) [
  | inl b ↦ let wv : w ≡ v = nat_eq-true w v b in
      written wv (some_is (sym e ∙ ap (slice_get (slice_set xs v x)) wv ∙ get_same xs v x lt))
  | inr b ↦ let ne : w ≡ v → ⊥ = (λ z. both_ways _ b (subst (λ u. nat_eq w u ≡ true) z (nat_eq-refl w))) in
      earlier ne (sym (get_other xs v x w ne) ∙ e)
]

module _ {X Y : Type 0} (f : X → Y) (d : Y) where
  -- a field of what is read
  abbrev pub field : List X → ℕ → Y
  field xs v = unwrap_or (option_map f (slice_get xs v)) d

  pub field_at : (xs : List X) (v : ℕ) (x : X) → slice_get xs v ≡ Some x → field xs v ≡ f x
  field_at xs v x e = ap (λ (o : Option X). unwrap_or (option_map f o) d) e

  pub field_set : (xs : List X) (v : ℕ) (x : X) (w : ℕ) → v < length xs → field (slice_set xs v x) w ≡ (if nat_eq w v then f x else field xs w)
  field_set xs v x w lt = elim (cases_Bool (nat_eq w v)) [
    | inl b ↦ ap (λ u. field (slice_set xs v x) u) (nat_eq-true w v b) ∙ ap (λ (o : Option X). unwrap_or (option_map f o) d) (get_same xs v x lt)
        ∙ ap (λ q. if q then f x else field xs w) (sym b)
    | inr b ↦ ap (λ (o : Option X). unwrap_or (option_map f o) d) (get_other xs v x w (λ z. both_ways _ b (subst (λ u. nat_eq w u ≡ true) z (nat_eq-refl w))))
        ∙ ap (λ q. if q then f x else field xs w) (sym b)
  ]

  pub field_kept : (xs : List X) (v : ℕ) (old new : X) (w : ℕ) → slice_get xs v ≡ Some old → f new ≡ f old → field (slice_set xs v new) w ≡ field xs w
  field_kept xs v old new w was same = field_set xs v new w (slice_get_within xs v old was) ∙ by (nat_eq w v) refl
    where
      by : (b : Bool) → nat_eq w v ≡ b → (if b then f new else field xs w) ≡ field xs w
      by true e = same ∙ sym (field_at xs v old was) ∙ ap (λ u. field xs u) (sym (nat_eq-true w v e))
      by false e = refl

  pub field_other : (xs : List X) (v : ℕ) (x : X) (w : ℕ) → (w ≡ v → ⊥) → field (slice_set xs v x) w ≡ field xs w
  field_other xs v x w ne = ap (λ (o : Option X). unwrap_or (option_map f o) d) (get_other xs v x w ne)

-- elements, by place and by cases
pub contained : {X : Type 0} (xs : List X) (x : X) → IsAmong x xs → Contains xs x
contained [] x h = absurd h
contained (y ∷ xs) x (inl e) = (0, omega arith, sym e)
contained (y ∷ xs) x (inr h) = let r = contained xs x h in (suc r.0, omega (arith, r.1), r.2)

pub among : {X : Type 0} (xs : List X) (x : X) → Contains xs x → IsAmong x xs
among [] x (k, lt, e) = absurd (omega (arith, lt))
among (y ∷ xs) x (zero, lt, e) = inl (sym e)
among (y ∷ xs) x (suc k, lt, e) = inr (among xs x (k, omega (arith, lt), e))

pub among_filter : {X : Type 0} (p : X → Bool) (x : X) (xs : List X) → IsAmong x (filter p xs) ↔ (IsAmong x xs × (p x ≡ true))
among_filter p x [] = (λ z. absurd z, λ z. z.0)
among_filter {X} p x (y ∷ xs) = by (among_filter p x xs) (p y) refl
  where
    by : (IsAmong x (filter p xs) ↔ (IsAmong x xs × (p x ≡ true))) → (b : Bool) → p y ≡ b → IsAmong x (if b then y ∷ filter p xs else filter p xs) ↔ (((x ≡ y) ⊎ IsAmong x xs) × (p x ≡ true))
    by ih true e = (
      λ z. elim z [ inl q ↦ (inl q, ap p q ∙ e) | inr q ↦ let r = ih.0 q in (inr r.0, r.1) ],
      λ z. elim (z.0) [ inl q ↦ inl q | inr q ↦ inr (ih.1 (q, z.1)) ],
    )
    by ih false e = (
      λ z. let r = ih.0 z in (inr r.0, r.1),
      λ z. elim (z.0) [ inl q ↦ absurd (both_ways _ e (sym (ap p q) ∙ z.1)) | inr q ↦ ih.1 (q, z.1) ],
    )

pub among_here : {X : Type 0} (y : X) (before after : List X) → IsAmong y (before ++ y ∷ after)
among_here y before after = among (before ++ y ∷ after) y (Contains-append_right before (y ∷ after) y (0, omega arith, refl))

pub cases_3 : (a b : ℕ) → (a < b) ⊎ ((a ≡ b) ⊎ (b < a))
cases_3 a b = grind arith

pub in_take : {X : Type 0} (xs : List X) (n k : ℕ) (x : X) → k < n → k < length xs → get_or xs k x ≡ x → Contains (take n xs) x
in_take xs n k x lt ins is = (k, simp length-take (omega arith), get_or-take n xs k x lt ∙ is)

-- a list has an element or not
pub has_or_not : {X : Type 0} (eq : X → X → Bool) (same : (x y : X) → (eq x y ≡ true) ↔ (x ≡ y)) (xs : List X) (x : X) → Contains xs x ⊎ (Contains xs x → ⊥)
has_or_not eq same xs x = let decides = is_member-Decides same xs x in elim (cases_Bool (is_member eq xs x)) [ inl b ↦ inl (decides.0 b) | inr b ↦ inr (λ z. both_ways _ b (decides.1 z)) ]
