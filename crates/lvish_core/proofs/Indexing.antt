-- Tasks in a list, and the index that tells where the first of them stand.
use mathlib.Core.Path.{fun_ext}
use Rattle.std.proofs.Common.{◌≡◌, drop, ◌+◌, ◌<◌, ◌≤◌, ◌∷◌, ◌++◌, ℕ, zero, suc, Bool, true, false, cond, List, [], length, map, Option, Some, None, is_some, option_copied, option_map, get_or, inl, inr, slice_get, slice_set, refl, sym, ap, subst, ◌∙◌, arith, length-append, length-set, Bor}
use Rattle.std.specs.Prelude.{IfSome}
use Rattle.std.specs.Cmp.{IsEquivalence}
use Rattle.std.specs.Option.{option_or}
use Rattle.std.specs.List.{IsDistinct, list_any, zip}
use Rattle.std.specs.Map.{keys_of, lookup, set_value}
use Rattle.std.specs.HashMap.{HashMap, get}
use Rattle.std.proofs.lemmas.Bool.{cases_order, false≢true}
use Rattle.std.proofs.lemmas.Map.{lookup-set_value, keys-set_value}
use Rattle.std.proofs.lemmas.Map.Entries.{lookup_from_place, place_from_lookup}
use Rattle.std.proofs.lemmas.Map.Keys.{IsDistinct-tail, IsDistinct-push, apart_from_distinct}
use Rattle.std.proofs.lemmas.Map.Made.{is_some-lookup, keys_of-zip}
use Rattle.std.proofs.lemmas.Option.{same_Some, slice_get-map, slice_get_within, get_or_from_slice_get}
use Rattle.lvish_calculus.specs.Calculus.{Task, Absent}
use Rattle.lvish_names.specs.Names.{Name, same_name}
use Rattle.lvish_picture.specs.Picture.{task_of}
use Rattle.lvish_core.specs.Indexed.{AreIndexed, AreStaged}
use Rattle.lvish_core.specs.Tasks.{IsAt, KeepsIndices, Sets, standing, standing_at, standings}
use Rattle.lvish_core.specs.Vocabulary.{Stage}
use Rattle.lvish_core.proofs.Indices.{at-keys, at_still, entry_at, keys-at}
use Rattle.lvish_core.proofs.Maps.{not_found, sets_by, task_of-standings}
use Rattle.lvish_core.proofs.Staged.{at-names, length-tasks, names-at, zip_at, zip_push, zip_set}

-- what a longer list has where a shorter one ends not yet, the shorter one has there
at_before : {X : Type 0} (xs ys : List X) (i : ℕ) (o : Option X) → i < length xs → slice_get (xs ++ ys) i ≡ o → slice_get xs i ≡ o
at_before [] ys i o within e = let no : ⊥ = omega arith in absurd no
at_before (x ∷ xs) ys zero o within e = e
at_before (x ∷ xs) ys (suc i) o within e = at_before xs ys i o (omega arith) e

-- a list has something at each index below its length
some_there : {X : Type 0} (xs : List X) (i : ℕ) → i < length xs → (x : X) × (slice_get xs i ≡ Some x)
some_there [] i within = let no : ⊥ = omega (arith, within) in absurd no
some_there (x ∷ xs) zero within = (x, refl)
some_there (x ∷ xs) (suc i) within = some_there xs i (omega (arith, within))

none_there : {X : Type 0} (xs : List X) (i : ℕ) → i < length xs → slice_get xs i ≡ None → ⊥
none_there xs i within none = let p = some_there xs i within in cc (none, p.1)

-- the tasks from an index on begin with the one that stands there
pub first_left : {E L : Type 0} (tasks : List (Name E × Task L)) (stages : List (Stage L)) → map standing stages ≡ map (λ e. e.1) tasks → (i : ℕ) (s : Stage L) → s ≡ get_or stages i s → i < length stages
    → (t : Name E) × (drop i tasks ≡ (t, standing s) ∷ drop (i + 1) tasks)
first_left [] [] all i s is within = let no : ⊥ = omega (arith, within) in absurd no
first_left [] (r ∷ stages) all i s is within = let no : ⊥ = omega (arith, ap length all) in absurd no
first_left (e ∷ tasks) [] all i s is within = let no : ⊥ = omega (arith, within) in absurd no
first_left (e ∷ tasks) (r ∷ stages) all zero s is within = (e.0, ap (λ k. (e.0, k) ∷ tasks) (sym (ap (λ ks. get_or ks 0 e.1) all) ∙ ap standing (sym is)))
first_left (e ∷ tasks) (r ∷ stages) all (suc i) s is within =
    let p = first_left tasks stages (ap (drop 1) all) i s is (omega (arith, within)) in
    let next : suc i + 1 ≡ suc (i + 1) = omega arith in
    (p.0, p.1 ∙ sym (ap (λ n. (p.0, standing s) ∷ drop n (e ∷ tasks)) next))

or_none : {X : Type 0} (o : Option X) → option_or o None ≡ o
or_none None = refl
or_none (Some x) = refl

-- a look-up in a list with one more entry behind
lookup_behind : {K X : Type 0} (test : K → Bool) (es : List (K × X)) (k : K) (x : X) → lookup test (es ++ (k, x) ∷ []) ≡ option_or (lookup test es) (cond (test k) (Some x) None)
lookup_behind test [] k x = refl
lookup_behind {X = X} test (e ∷ es) k x = by (test e.0) (lookup_behind test es k x)
  where
    by : (b : Bool) → lookup test (es ++ (k, x) ∷ []) ≡ option_or (lookup test es) (cond (test k) (Some x) None) → cond b (Some e.1) (lookup test (es ++ (k, x) ∷ [])) ≡ option_or (cond b (Some e.1) (lookup test es)) (cond (test k) (Some x) None)
    by true rest = refl
    by false rest = rest

-- what is written at an entry's place is under its key
written_at : {K X : Type 0} (eq : K → K → Bool) → IsEquivalence eq → (es : List (K × X)) → IsDistinct eq (keys_of es) → (i : ℕ) (k : K) (x y : X) → slice_get es i ≡ Some (k, x) → slice_set es i (k, y) ≡ set_value (eq k) es y
written_at eq laws [] once i k x y is = absurd (cc is)
written_at eq laws (e ∷ es) once zero k x y is =
    let key : k ≡ e.0 = ap (λ p. p.0) (same_Some _ _ (sym is)) in
    let here : eq k e.0 ≡ true = ap (eq k) (sym key) ∙ laws.refl k in
    ap (λ q. (q, y) ∷ es) key ∙ sym (ap (λ b. cond b ((e.0, y) ∷ es) (e ∷ set_value (eq k) es y)) here)
written_at eq laws (e ∷ es) once (suc i) k x y is =
    let at : slice_get (keys_of es) i ≡ Some k = slice_get-map (λ p. p.0) es i ∙ ap (option_map (λ p. p.0)) is in
    let apart = apart_from_distinct eq (keys_of (e ∷ es)) 0 (suc i) k once (omega arith) (let short = slice_get_within (keys_of es) i k at in omega (arith, short)) in
    let other : eq k e.0 ≡ false = laws.symm k e.0 ∙ ap (eq e.0) (sym (get_or_from_slice_get (keys_of es) i k k at)) ∙ apart in
    ap (λ ps. e ∷ ps) (written_at eq laws es (IsDistinct-tail eq e.0 (keys_of es) once) i k x y is) ∙ sym (ap (λ b. cond b ((e.0, y) ∷ es) (e ∷ set_value (eq k) es y)) other)

nothing : {K : Type 0} (eq : K → K → Bool) → IsDistinct eq []
unfolding IsDistinct
nothing eq = tt

module _ {E H : Type 0} (eq : E → E → Bool) where
  -- no name, and none in the index
  pub none_indexed : (names : List (Name E)) (m : HashMap (Name E) ℕ H) → names ≡ [] → m.entries ≡ [] → AreIndexed eq names m 0
  none_indexed names m none empty = record {
    once = subst (λ ks. IsDistinct (same_name eq) ks) (sym none) (nothing (same_name eq));
    told = λ t i found. let no : None ≡ Some i = sym (ap (lookup (same_name eq t)) empty) ∙ found in absurd (cc no);
    known = λ t i less at unknown. let no : ⊥ = omega (arith, less) in no;
    within = omega arith;
  }

module _ {E H : Type 0} (eq : E → E → Bool) (laws : IsEquivalence (same_name eq)) (names : List (Name E)) (m : HashMap (Name E) ℕ H) (n : ℕ) (indexed : AreIndexed eq names m n) where
  -- one more name that was looked at isn't this one
  pub looked_at : (t : Name E) (k : ℕ) → ((i : ℕ) → n ≤ i → i < k → slice_get names i ≡ Some t → ⊥) → (u : Name E) → slice_get names k ≡ Some u → same_name eq u t ≡ false
      → (i : ℕ) → n ≤ i → i < k + 1 → slice_get names i ≡ Some t → ⊥
  looked_at t k so_far u is other i from less at = elim (cases_order i k) [
    | inl equal ↦
        let same : t ≡ u = same_Some _ _ (sym at ∙ ap (slice_get names) equal ∙ is) in
        false≢true (sym other ∙ ap (same_name eq u) same ∙ laws.refl u)
    | inr apart ↦ elim apart [
      | inl before ↦ so_far i from before at
      | inr behind ↦ let no : ⊥ = omega (arith, less, behind) in no
    ]
  ]

  -- the index where there was no room for more of it
  pub kept_indexed : (later : HashMap (Name E) ℕ H) → later.entries ≡ m.entries → AreIndexed eq names later n
  kept_indexed later same = record {
    once = indexed.once;
    told = λ t i found. indexed.told t i (sym (ap (lookup (same_name eq t)) same) ∙ found);
    known = λ t i less at unknown. indexed.known t i less at (sym (ap (lookup (same_name eq t)) same) ∙ unknown);
    within = indexed.within;
  }

  -- the index after the next name came into it
  pub next_indexed : ((t u : Name E) → same_name eq t u ≡ true → t ≡ u) → (t : Name E) → slice_get names n ≡ Some t → (later : HashMap (Name E) ℕ H)
      → ((q : Name E) → get (same_name eq) later q ≡ cond (same_name eq t q) (Some n) (get (same_name eq) m q)) → AreIndexed eq names later (n + 1)
  next_indexed exact t there later updates = record {
    once = indexed.once;
    told = λ u i found. told u i (same_name eq t u) refl (sym (updates u) ∙ found);
    known = λ u i less at unknown. known u i (same_name eq t u) refl less at (sym (updates u) ∙ unknown);
    within = let short = slice_get_within names n t there in omega (arith, short);
  }
    where
      told : (u : Name E) (i : ℕ) (b : Bool) → same_name eq t u ≡ b → cond b (Some n) (get (same_name eq) m u) ≡ Some i → slice_get names i ≡ Some u
      told u i true same found = ap (slice_get names) (sym (same_Some _ _ found)) ∙ there ∙ ap Some (exact t u same)
      told u i false other found = indexed.told u i found

      known : (u : Name E) (i : ℕ) (b : Bool) → same_name eq t u ≡ b → i < n + 1 → slice_get names i ≡ Some u → cond b (Some n) (get (same_name eq) m u) ≡ None → ⊥
      known u i true same less at unknown = cc unknown
      known u i false other less at unknown = elim (cases_order i n) [
        | inl equal ↦
            let same : u ≡ t = same_Some _ _ (sym at ∙ ap (slice_get names) equal ∙ there) in
            false≢true (sym other ∙ ap (same_name eq t) same ∙ laws.refl t)
        | inr apart ↦ elim apart [
          | inl before ↦ indexed.known u i before at unknown
          | inr behind ↦ let no : ⊥ = omega (arith, less, behind) in no
        ]
      ]

  -- a name that the index doesn't know and that is none of the others stands nowhere
  pub nowhere : (t : Name E) → get (same_name eq) m t ≡ None → ((i : ℕ) → n ≤ i → i < length names → slice_get names i ≡ Some t → ⊥) → (i : ℕ) → slice_get names i ≡ Some t → ⊥
  nowhere t unknown others i at = elim (cases_order i n) [
    | inl equal ↦ others i (omega (arith, equal)) short at
    | inr apart ↦ elim apart [
      | inl less ↦ indexed.known t i less at unknown
      | inr more ↦ others i (omega (arith, more)) short at
    ]
  ]
    where
      short : i < length names
      short = slice_get_within names i t at

module _ {E L H : Type 0} (eq : E → E → Bool) (laws : IsEquivalence (same_name eq)) (names : List (Name E)) (stages : List (Stage L)) (m : HashMap (Name E) ℕ H) (n : ℕ) (staged : AreStaged eq names stages m n) where
  keys : keys_of (zip names stages) ≡ names
  keys = keys_of-zip names stages staged.beside

  -- no name stands twice
  pub once : IsDistinct (same_name eq) (keys_of (zip names stages))
  once = subst (λ ks. IsDistinct (same_name eq) ks) (sym keys) staged.indexed.once

  -- a look-up by index finds what runs under the name that stands there
  pub under_index : (i : ℕ) (t : Name E) → IsAt (standings (zip names stages)) i t → task_of eq (standings (zip names stages)) t ≡ standing_at (slice_get stages i)
  under_index i t at = by (slice_get stages i) refl
    where
      es : List (Name E × Stage L)
      es = zip names stages

      is : slice_get names i ≡ Some t
      is = names-at names stages staged.beside i t at

      by : (o : Option (Stage L)) → slice_get stages i ≡ o → task_of eq (standings es) t ≡ standing_at o
      by None none = absurd (none_there stages i (let short = slice_get_within names i t is in let long = staged.beside in omega (arith, short, long)) none)
      by (Some s) there = task_of-standings eq es t ∙ ap standing_at (lookup_from_place laws es i t s once (zip_at names stages i t s is there))

  -- where there is a stage a task stands
  pub one_at : (i : ℕ) (r : Option (Bor (Stage L))) → option_copied r ≡ slice_get stages i → IfSome r (λ _. (t : Name E) × IsAt (standings (zip names stages)) i t)
  one_at i None is = tt
  one_at i (Some s) is =
      let p = some_there names i (let short = slice_get_within stages i s.now (sym is) in let long = staged.beside in omega (arith, short, long)) in
      (p.0, at-names names stages staged.beside i p.0 p.1)

  -- and where there is none, none stands
  pub none_at : (i : ℕ) → length stages ≤ i → (t : Name E) → IsAt (standings (zip names stages)) i t → ⊥
  none_at i past t at = let short = slice_get_within names i t (names-at names stages staged.beside i t at) in let long = staged.beside in omega (arith, short, long, past)

  -- where the index says that a task stands, it stands
  pub told_there : (t : Name E) (i : ℕ) → get (same_name eq) m t ≡ Some i → IsAt (standings (zip names stages)) i t
  told_there t i found = at-names names stages staged.beside i t (staged.indexed.told t i found)

  -- a name that the index doesn't know and that is none of the others isn't there
  pub not_there : ((t u : Name E) → same_name eq t u ≡ true → t ≡ u) → (t : Name E) → get (same_name eq) m t ≡ None → ((i : ℕ) → n ≤ i → i < length names → slice_get names i ≡ Some t → ⊥) → task_of eq (standings (zip names stages)) t ≡ Absent
  not_there exact t unknown others = task_of-standings eq es t ∙ ap standing_at (by (lookup (same_name eq t) es) refl)
    where
      es : List (Name E × Stage L)
      es = zip names stages

      by : (o : Option (Stage L)) → lookup (same_name eq t) es ≡ o → o ≡ None
      by None found = refl
      by (Some s) found =
          let p = place_from_lookup (same_name eq t) es s found in
          let same : t ≡ p.1 = exact t p.1 p.3 in
          let there : slice_get (keys_of es) p.0 ≡ Some t = slice_get-map (λ e. e.0) es p.0 ∙ ap (option_map (λ e. e.0)) p.2 ∙ ap Some (sym same) in
          absurd (nowhere eq laws names m n staged.indexed t unknown others p.0 (sym (ap (λ ks. slice_get ks p.0) keys) ∙ there))

  module _ (t : Name E) (s : Stage L) (absent : task_of eq (standings (zip names stages)) t ≡ Absent) (ks : List (Name E)) (ss : List (Stage L)) (is : ks ≡ names ++ t ∷ []) (are : ss ≡ stages ++ s ∷ []) where
    pushed : zip ks ss ≡ zip names stages ++ (t, s) ∷ []
    pushed = (λ i. zip (is i) (are i)) ∙ zip_push names stages t s staged.beside

    -- the tasks after one more was put behind them
    pub pushed_staged : AreStaged eq ks ss m n
    pushed_staged = record {
      indexed = record {
        once = subst (λ us. IsDistinct (same_name eq) us) (sym is) (IsDistinct-push laws names t staged.indexed.once (sym (is_some-lookup (same_name eq t) (zip names stages) ∙ ap (list_any (same_name eq t)) keys) ∙ ap is_some (not_found eq (zip names stages) t absent)));
        told = λ u i found. ap (λ us. slice_get us i) is ∙ at_still names (t ∷ []) i u (staged.indexed.told u i found);
        known = λ u i less at. staged.indexed.known u i less (at_before names (t ∷ []) i (Some u) (let few = staged.indexed.within in omega (arith, less, few)) (sym (ap (λ us. slice_get us i) is) ∙ at));
        within = let long = ap length is ∙ length-append names (t ∷ []) in let few = staged.indexed.within in omega (arith, long, few);
      };
      beside = ap length are ∙ length-append stages (s ∷ []) ∙ ap (λ k. k + 1) staged.beside ∙ sym (ap length is ∙ length-append names (t ∷ []));
    }

    -- which is a task more
    pub pushed_sets : Sets eq (standings (zip names stages)) t (standing s) (standings (zip ks ss))
    pushed_sets = sets_by eq laws.symm es (zip ks ss) t s each stay
      where
        es : List (Name E × Stage L)
        es = zip names stages

        by : (q : Name E) (b : Bool) → same_name eq t q ≡ b → option_or (lookup (same_name eq q) es) (cond (same_name eq q t) (Some s) None) ≡ cond b (Some s) (lookup (same_name eq q) es)
        by q true same =
            let none : lookup (same_name eq q) es ≡ None = ap (λ test. lookup test es) (fun_ext (λ u. sym (laws.congr t q u same))) ∙ not_found eq es t absent in
            let flipped : same_name eq q t ≡ true = laws.symm q t ∙ same in
            λ i. option_or (none i) (cond (flipped i) (Some s) None)
        by q false other =
            let flipped : same_name eq q t ≡ false = laws.symm q t ∙ other in
            ap (λ b. option_or (lookup (same_name eq q) es) (cond b (Some s) None)) flipped ∙ or_none (lookup (same_name eq q) es)

        each : (q : Name E) → lookup (same_name eq q) (zip ks ss) ≡ cond (same_name eq t q) (Some s) (lookup (same_name eq q) es)
        each q = ap (lookup (same_name eq q)) pushed ∙ lookup_behind (same_name eq q) es t s ∙ by q (same_name eq t q) refl

        stay : KeepsIndices (standings es) (standings (zip ks ss))
        stay i u at = at-names ks ss pushed_staged.beside i u (ap (λ us. slice_get us i) is ∙ at_still names (t ∷ []) i u (names-at names stages staged.beside i u at))

    -- behind the others
    pub pushed_there : IsAt (standings (zip ks ss)) (length (standings (zip names stages))) t
    pushed_there = at-names ks ss pushed_staged.beside _ t (ap (slice_get ks) (length-tasks names stages staged.beside) ∙ ap (λ us. slice_get us (length names)) is ∙ last_there names)
      where
        last_there : (us : List (Name E)) → slice_get (us ++ t ∷ []) (length us) ≡ Some t
        last_there [] = refl
        last_there (u ∷ us) = last_there us

  module _ (i : ℕ) (s : Stage L) where
    -- the tasks after one of them went on
    pub written_staged : AreStaged eq names (slice_set stages i s) m n
    written_staged = record { indexed = staged.indexed; beside = length-set stages i s ∙ staged.beside }

    pub written_sets : (t : Name E) → IsAt (standings (zip names stages)) i t → Sets eq (standings (zip names stages)) t (standing s) (standings (zip names (slice_set stages i s)))
    written_sets t at =
        let e = entry_at (zip names stages) i t at in
        subst (λ fs. Sets eq (standings (zip names stages)) t (standing s) (standings fs))
        (sym (zip_set names stages i t s (names-at names stages staged.beside i t at) ∙ written_at (same_name eq) laws (zip names stages) once i t e.0 s e.1))
        (set_there t e.0 e.1)
      where
        set_there : (t : Name E) (r : Stage L) → slice_get (zip names stages) i ≡ Some (t, r) → Sets eq (standings (zip names stages)) t (standing s) (standings (set_value (same_name eq t) (zip names stages) s))
        set_there t r is = sets_by eq laws.symm (zip names stages) (set_value (same_name eq t) (zip names stages) s) t s
            (λ q. lookup-set_value laws (same_name eq t) (laws.congr t) q s (zip names stages) (ap is_some (lookup_from_place laws (zip names stages) i t r once is)))
            (λ j u at. at-keys _ j u (ap (λ ks. slice_get ks j) (keys-set_value (same_name eq t) (zip names stages) s) ∙ keys-at (zip names stages) j u at))
