-- What a put leaves: a log that grows by the fresh events has each event of the join once.
use Rattle.std.proofs.Common.{◌≡◌, ◌≢◌, ◌↔◌, inl, inr, ℕ, zero, suc, Bool, true, false, not, ◌&&◌, List, [], ◌∷◌, ◌++◌, Option, Some, None, refl, sym, ap, ◌∙◌, subst, arith, AllPairs, Contains, filter, get_or, take, length, ◌+◌, ◌<◌, ◌≤◌, append_assoc}
use lib.Seq.{take-append_seam}
use Rattle.std.specs.Bool.{Decides}
use Rattle.std.specs.Set.{is_member, IsUnion}
use Rattle.std.specs.List.Sorted.{IsStrictlySortedBy}
use Rattle.std.specs.Cmp.{IsEquivalence, IsTotalOrder}
use Rattle.std.specs.declared.cmp.Ordering.{Ordering}
use Rattle.std.specs.declared.cmp.Ordering.TheVariants.{Less}
use Rattle.std.proofs.lemmas.Bool.{and_parts, cases_Bool, both_ways, not-true}
use Rattle.std.proofs.lemmas.List.{map-append, map_more, take_all, append-nil}
use Rattle.std.proofs.lemmas.List.Elements.{Contains-append_left, Contains-append_right, Contains-append_cases, Contains-get_or}
use Rattle.std.proofs.lemmas.List.Kept.{AllPairs-filter}
use Rattle.std.proofs.lemmas.Map.Keys.{Less-from_sorted}
use Rattle.std.proofs.lemmas.Map.Made.{is_member-Decides, is_member-filter}
use Rattle.lvish_lattice.specs.Lattice.{IsIdentity, IsMerged, HasEvents, fresh_of}
use Rattle.lvish_names.specs.Names.{Name}
use Rattle.lvish_variable.specs.declared.entry.Entry.{Entry}
use Rattle.lvish_variable.specs.Variable.{VariableView, logged, entries, IsLogOf, IsPut}

-- ---- lists

pub append_pairs : {X : Type 0} (R : X → X → Type 0) (xs ys : List X) → AllPairs R xs → AllPairs R ys → ((x y : X) → Contains xs x → Contains ys y → R x y) → AllPairs R (xs ++ ys)
append_pairs R [] ys a b h i j d lt ins = b i j d lt ins
append_pairs R (x ∷ xs) ys a b h i zero d lt ins = absurd (omega arith)
append_pairs R (x ∷ xs) ys a b h zero (suc j) d lt ins =
    let y = get_or (xs ++ ys) j d in
    elim (Contains-append_cases xs ys y (Contains-get_or (xs ++ ys) j d (omega arith))) [
      | inl u ↦ subst (λ z. R x z) u.2 (a 0 (suc u.0) y (omega arith) (omega (arith, u.1)))
      | inr u ↦ h x y (0, omega arith, refl) u
    ]
append_pairs R (x ∷ xs) ys a b h (suc i) (suc j) d lt ins =
    append_pairs R xs ys (λ i2 j2 d2 l w. a (suc i2) (suc j2) d2 (omega arith) (omega arith)) b
    (λ x2 y2 u w. h x2 y2 (suc u.0, omega (arith, u.1), u.2) w) i j d (omega arith) (omega arith)

-- what was pushed is cut back
pub cut_back : {X : Type 0} (before more grown cut : List X) (n : ℕ) → n ≡ length before → grown ≡ before ++ more → cut ≡ take n grown → cut ≡ before
cut_back before more grown cut n count pushed is = is ∙ (λ i. take (count i) (pushed i)) ∙ take-append_seam before more

-- ---- the log's events

logged-entries : {E : Type 0} (task : Name E) (number : ℕ) (es : List E) → logged (entries task number es) ≡ es
logged-entries task number [] = refl
logged-entries task number (e ∷ es) = ap (λ z. e ∷ z) (logged-entries task number es)

pub logged-append : {E : Type 0} (log : List (Entry E)) (task : Name E) (number : ℕ) (es : List E) → logged (log ++ entries task number es) ≡ logged log ++ es
logged-append log task number es = map-append _ log (entries task number es) ∙ ap (λ z. logged log ++ z) (logged-entries task number es)

-- the entries of one event more
pub noted_more : {E : Type 0} (task : Name E) (number : ℕ) (es : List E) (i : ℕ) (before items new : List (Entry E)) (d x : E) → items ≡ before ++ entries task number (take i es) → i < length es → x ≡ get_or es i d
    → new ≡ items ++ entries task number (x ∷ []) → new ≡ before ++ entries task number (take (i + 1) es)
noted_more task number es i before items new d x h lt is noted =
    noted ∙ ap (λ z. z ++ entries task number (x ∷ [])) h ∙ append_assoc before (entries task number (take i es)) (entries task number (x ∷ []))
    ∙ ap (λ y. before ++ (entries task number (take i es) ++ entries task number (y ∷ []))) is ∙ ap (λ z. before ++ z) (sym (map_more (λ e. record { event = e; task = task; number = number }) es i d lt))

-- the entries of all events
pub noted_all : {E : Type 0} (task : Name E) (number : ℕ) (es : List E) (i : ℕ) (before items : List (Entry E)) → items ≡ before ++ entries task number (take i es) → length es ≤ i → items ≡ before ++ entries task number es
noted_all task number es i before items h le = h ∙ ap (λ z. before ++ entries task number z) (take_all i es le)

-- ---- the fresh events

-- those of the second list that the first hasn't
abbrev beyond : {E : Type 0} → (E → E → Bool) → List E → List E → List E
beyond eq old new = filter (λ e. not (is_member eq old e)) new

none_of : {E : Type 0} (m : E → Bool) (xs : List E) → ((x : E) → Contains xs x → m x ≡ true) → filter (λ e. not (m e)) xs ≡ []
none_of m [] h = refl
none_of m (x ∷ xs) h = let e : m x ≡ true = h x (0, omega arith, refl) in rw e (none_of m xs (λ y c. h y (suc c.0, omega (arith, c.1), c.2)))

differ : {E : Type 0} (cmp : E → E → Ordering) → IsTotalOrder cmp → (xs : List E) → IsStrictlySortedBy cmp xs → AllPairs (λ x y. x ≢ y) xs
differ cmp total xs sorted i j d lt ins e =
    let x = get_or xs i d in
    let less : cmp x x ≡ Less = subst (λ z. cmp x z ≡ Less) (sym e) (Less-from_sorted cmp xs i j d sorted lt ins) in
    let swapped = total.antisymm x x in
    cc

module _ {E : Type 0} {eq : E → E → Bool} (same : IsIdentity eq) (laws : IsEquivalence eq) where
  decides : (x y : E) → Decides (eq x y) (x ≡ y)
  decides x y = (same x y, λ e. subst (λ z. eq x z ≡ true) e (laws.refl x))

  has : (xs : List E) (q : E) → Decides (is_member eq xs q) (Contains xs q)
  has xs q = is_member-Decides decides xs q

  in_beyond : (old new : List E) (q : E) → is_member eq (beyond eq old new) q ≡ (is_member eq new q && not (is_member eq old q))
  in_beyond old new q = is_member-filter laws (λ e. not (is_member eq old e)) q (λ x e. ap (λ z. not (is_member eq old z)) (same q x e)) new

  -- the log, whose events are the old ones, and then what is beyond those in the union
  grown : (cmp : E → E → Ordering) → IsTotalOrder cmp → (log old put new : List E) → IsUnion eq old put new → IsStrictlySortedBy cmp new
      → ((e : E) → Contains log e ↔ Contains old e) → AllPairs (λ x y. x ≢ y) log
      → ((e : E) → Contains (log ++ beyond eq old new) e ↔ Contains new e) × AllPairs (λ x y. x ≢ y) (log ++ beyond eq old new)
  grown cmp total log old put new union sorted are once = (λ e. (there e, back e), append_pairs (λ x y. x ≢ y) log more once (AllPairs-filter (λ x y. x ≢ y) (λ e. not (is_member eq old e)) new (differ cmp total new sorted)) apart)
    where
      more : List E
      more = beyond eq old new

      more_parts : (e : E) → Contains more e → (is_member eq new e ≡ true) × (not (is_member eq old e) ≡ true)
      more_parts e c = and_parts _ _ (sym (in_beyond old new e) ∙ (has more e).1 c)

      there : (e : E) → Contains (log ++ more) e → Contains new e
      there e c = elim (Contains-append_cases log more e c) [
        | inl a ↦ let m : is_member eq old e ≡ true = (has old e).1 ((are e).0 a) in (has new e).0 (union e ∙ rw m refl)
        | inr b ↦ (has new e).0 (more_parts e b).0
      ]

      back : (e : E) → Contains new e → Contains (log ++ more) e
      back e c = elim (cases_Bool (is_member eq old e)) [
        | inl m ↦ Contains-append_left log more e ((are e).1 ((has old e).0 m))
        | inr m ↦ let n : is_member eq new e ≡ true = (has new e).1 c in Contains-append_right log more e ((has more e).0 (in_beyond old new e ∙ rw (m, n) refl))
      ]

      apart : (x y : E) → Contains log x → Contains more y → x ≢ y
      apart x y a b e =
          let m : is_member eq old x ≡ true = (has old x).1 ((are x).0 a) in
          both_ways _ (not-true _ (more_parts y b).1) (subst (λ z. is_member eq old z ≡ true) e m)

  module _ {S : Type 0} (join : S → S → Option S) (events : S → List E) where
    fresh_is : (old put new : S) → join old put ≡ Some new → fresh_of join eq events old put ≡ beyond eq (events old) (events new)
    fresh_is old put new j = rw j refl

    -- an accepted put keeps the log: each event of the state once and no other
    pub kept : {least : S} {cmp : E → E → Ordering} → IsTotalOrder cmp → HasEvents least join eq cmp events → (old put new : S) (log all : List (Entry E)) (task : Name E) (number : ℕ)
        → join old put ≡ Some new → IsLogOf events old log → all ≡ log ++ entries task number (fresh_of join eq events old put) → IsLogOf events new all
    kept {cmp = cmp} total law old put new log all task number j k is_all =
        let r = grown cmp total (logged log) (events old) (events put) (events new) (law.union old put new j) (law.ascending new) k.same k.once in
        let e : logged all ≡ logged log ++ beyond eq (events old) (events new) = ap (λ z. logged z) is_all ∙ logged-append log task number (fresh_of join eq events old put) ∙ ap (λ z. logged log ++ z) (fresh_is old put new j) in
        record {
          same = λ x. subst (λ q. Contains q x ↔ Contains (events new) x) (sym e) (r.0 x);
          once = subst (λ q. AllPairs (λ x y. x ≢ y) q) (sym e) r.1;
        }

    -- a put that changes nothing brings no events
    none_fresh : (old put : S) → join old put ≡ Some old → fresh_of join eq events old put ≡ []
    none_fresh old put j = fresh_is old put old j ∙ none_of (is_member eq (events old)) (events old) (λ x c. (has (events old) x).1 c)

    -- a put that changes nothing is accepted, and the variable stays as it is
    pub unchanged : (task : Name E) (number : ℕ) (put : S) (v : VariableView S E) → join v.state put ≡ Some v.state → IsPut join eq events task number put v v
    unchanged task number put v j = record {
      joined = j;
      mark = refl;
      allowed = λ _. refl;
      log = sym (append-nil v.log) ∙ ap (λ z. v.log ++ entries task number z) (sym (none_fresh v.state put j));
    }

-- ---- the state after a put that says what it brought

-- where it says that the put is joined, the join is the state that it left
pub is_joined : {S : Type 0} (joined : Option S) (old new : S) → IsMerged joined old new true → joined ≡ Some new
is_joined (Some s) old new h = ap Some (sym h.1)
is_joined None old new h = absurd (cc h.0)

-- what a put leaves of a variable that isn't frozen
pub put_is : {S E : Type 0} (join : S → S → Option S) (eq : E → E → Bool) (events : S → List E) (task : Name E) (number : ℕ) (put state new : S) (frozen : Bool) (log all : List (Entry E)) (old : VariableView S E)
    → ◌≡◌ {A = VariableView S E} (record { state = state; frozen = frozen; log = log }) old → join state put ≡ Some new → all ≡ log ++ entries task number (fresh_of join eq events state put) → frozen ≡ false
    → IsPut join eq events task number put old (record { state = new; frozen = frozen; log = all })
put_is join eq events task number put state new frozen log all old shown joined logs unfrozen =
    subst (λ v. IsPut join eq events task number put v (record { state = new; frozen = frozen; log = all })) shown (record { joined = joined; mark = refl; allowed = λ t. absurd (cc (sym unfrozen ∙ t)); log = logs })

-- a variable whose state and log are as they were is as it was
module _ {S E : Type 0} (s t : S) (log all : List (Entry E)) (state : s ≡ t) (logs : log ≡ all) where
  pub stays : (frozen : Bool) (old : VariableView S E) → ◌≡◌ {A = VariableView S E} (record { state = t; frozen = frozen; log = all }) old → ◌≡◌ {A = VariableView S E} (record { state = s; frozen = frozen; log = log }) old
  stays frozen old shown = (λ i. record { state = state i; frozen = frozen; log = logs i }) ∙ shown

  pub log_stays : (events : S → List E) → IsLogOf events t all → IsLogOf events s log
  log_stays events kept = subst (λ x. IsLogOf events x log) (sym state) (subst (IsLogOf events t) (sym logs) kept)

-- where it says that the join is top, the state is as it was
pub is_top : {S : Type 0} (joined : Option S) (old new : S) → IsMerged joined old new false → (joined ≡ None) × (new ≡ old)
is_top (Some s) old new h = absurd (cc h.0)
is_top None old new h = (refl, h.1)
