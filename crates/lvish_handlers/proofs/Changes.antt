-- What adding a handler and handing it an entry leave, and how many entries were handed in all.
use Rattle.std.proofs.Common.{◌≡◌, ◌↔◌, ℕ, zero, suc, ◌+◌, ◌*◌, ◌≤◌, List, [], ◌∷◌, ◌++◌, length, take, drop, All, IsTrue, nat_eq, eq-eqb, sym, ◌∙◌, arith, ◌<◌, Bool, true, get_or, set, Some, None, refl, ap, subst, slice_get, option_and_then, option_map}
use Rattle.std.proofs.lemmas.Bool.{eqb-true}
use Rattle.std.proofs.lemmas.List.Sums.{sum_by-cons, sum_by-set}
use Rattle.std.proofs.lemmas.List.Elements.{All-tail, All-head, All-cons, All-set, All-append, All-take, All-drop}
use Rattle.std.proofs.Math.Seq.{map-set_same, split_at}
use Rattle.std.proofs.lemmas.List.{length-map, length-set}
use Rattle.std.proofs.lemmas.Nat.{mul-lt}
use Rattle.std.proofs.lemmas.Option.{get_or_from_slice_get, slice_get-get_or, slice_get-map, slice_get_past, slice_get_within}
use Rattle.std.specs.List.{sum_by}
use Rattle.std.specs.declared.cmp.Ordering.{Ordering}
use Rattle.std.specs.Ordering.{eq_by_cmp}
use Rattle.std.specs.Cmp.{IsTotalOrder}
use Rattle.std.specs.List.Sorted.{IsStrictlySortedBy}
use Rattle.lvish_lattice.specs.Lattice.{IsIdentity}
use Rattle.lvish_names.specs.Names.{Handler}
use Rattle.lvish_names.specs.NameOrder.{handler_cmp}
use Rattle.lvish_names.specs.laws.OrderLaws.{handler_total}
use Rattle.lvish_variable.specs.declared.entry.Entry.{Entry}
use Rattle.lvish_variable.specs.Variable.{logged}
use Rattle.lvish_handlers.specs.declared.held.Held.{Held}
use Rattle.lvish_handlers.specs.Handlers.{HandlersView, IsByName, IsAdvanced, names, next_of, one_more}
use Rattle.lvish_handlers.specs.Places.{IsAt, IsGap}
use Rattle.lvish_handlers.specs.Counted.{IsCounted}
use Rattle.lvish_handlers.proofs.Places.{rising_insert, held_as-at, held_as-free, free}

module _ {X : Type 0} (f : X → ℕ) where
  -- a sum of terms that are at most n
  pub sum_within : (xs : List X) (n : ℕ) → All (λ x. f x ≤ n) xs → sum_by f xs ≤ length xs * n
  sum_within [] n h = omega arith
  sum_within (x ∷ xs) n h = omega (arith, sum_by-cons f x xs, sum_within xs n (All-tail (λ y. f y ≤ n) x xs h), All-head (λ y. f y ≤ n) x xs h)

  -- is as large as it can be where each term is n, and nowhere else
  pub full : (xs : List X) (n : ℕ) → All (λ x. f x ≡ n) xs → sum_by f xs ≡ length xs * n
  full [] n h = omega arith
  full (x ∷ xs) n h = omega (arith, sum_by-cons f x xs, full xs n (All-tail (λ y. f y ≡ n) x xs h), All-head (λ y. f y ≡ n) x xs h)

  pub each_full : (xs : List X) (n : ℕ) → All (λ x. f x ≤ n) xs → sum_by f xs ≡ length xs * n → All (λ x. f x ≡ n) xs
  each_full [] n h e k d lt = absurd (omega arith)
  each_full (x ∷ xs) n h e k d lt =
      let rest : sum_by f xs ≤ length xs * n = sum_within xs n (All-tail (λ y. f y ≤ n) x xs h) in
      let first : f x ≤ n = All-head (λ y. f y ≤ n) x xs h in
      let cons : sum_by f (x ∷ xs) ≡ f x + sum_by f xs = sum_by-cons f x xs in
      All-cons (λ y. f y ≡ n) x xs (omega arith) (each_full xs n (All-tail (λ y. f y ≤ n) x xs h) (omega arith)) k d lt

  -- a term of 0 put in anywhere
  pub sum_insert_none : (xs : List X) (i : ℕ) (x : X) → f x ≡ 0 → sum_by f (take i xs ++ x ∷ drop i xs) ≡ sum_by f xs
  sum_insert_none xs zero x e = omega (arith, sum_by-cons f x xs)
  sum_insert_none [] (suc i) x e = omega (arith, sum_by-cons f x [])
  sum_insert_none (y ∷ ys) (suc i) x e = omega (arith, sum_by-cons f y ys, sum_by-cons f y (take i ys ++ x ∷ drop i ys), sum_insert_none ys i x e)

-- the test of the sum
pub full_test : {X : Type 0} (f : X → ℕ) (xs : List X) (n total : ℕ) → All (λ x. f x ≤ n) xs → total ≡ sum_by f xs → IsTrue (nat_eq total (length xs * n)) ↔ All (λ x. f x ≡ n) xs
full_test f xs n total h is = (λ t. each_full f xs n h (sym is ∙ eqb-true _ _ t), λ a. eq-eqb _ _ (is ∙ full f xs n a))

cut_at : {X : Type 0} (xs : List X) (i : ℕ) (x : X) → slice_get xs i ≡ Some x → xs ≡ take i xs ++ x ∷ drop (suc i) xs
cut_at xs i x e = split_at xs i x (slice_get_within xs i x e) ∙ ap (λ z. take i xs ++ z ∷ drop (suc i) xs) (get_or_from_slice_get xs i x x e)

set_at : {X : Type 0} (xs : List X) (i : ℕ) (y : X) → i < length xs → set xs i y ≡ take i xs ++ y ∷ drop (suc i) xs
set_at [] i y lt = absurd (omega arith)
set_at (x ∷ xs) zero y lt = refl
set_at (x ∷ xs) (suc i) y lt = ap (λ zs. x ∷ zs) (set_at xs i y (omega arith))

get_logged : {E : Type 0} (log : List (Entry E)) (i : ℕ) (e : Entry E) → slice_get log i ≡ Some e → slice_get (logged log) i ≡ Some e.event
get_logged {E} log i e q = slice_get-map (λ (y : Entry E). y.event) log i ∙ ap (λ o. option_map (λ (y : Entry E). y.event) o) q

past_logged : {E : Type 0} (log : List (Entry E)) (i : ℕ) → length log ≤ i → slice_get (logged log) i ≡ None
past_logged log i le = slice_get_past (logged log) i (subst (λ n. n ≤ i) (sym (length-map log (λ e. e.event))) le)

inside_logged : {E : Type 0} (log : List (Entry E)) (i : ℕ) → i < length log → slice_get (logged log) i ≡ None → ⊥
inside_logged [] i lt q = absurd (omega arith)
inside_logged (x ∷ xs) zero lt q = cc
inside_logged (x ∷ xs) (suc i) lt q = inside_logged xs i (omega arith) q

-- what a call reads at the name's place is the handler there
pub read_at : {E : Type 0} (held : List (Held E)) (name : Handler E) (at : ℕ) (w : IsAt held name at) (h : Held E) → h ≡ get_or held at h → h ≡ w.handler
read_at held name at w h read = read ∙ get_or_from_slice_get held at w.handler h w.is

pub handed_at : {E : Type 0} (held : List (Held E)) (name : Handler E) (at n : ℕ) (w : IsAt held name at) (h : Held E) → h ≡ get_or held at h → h.handed < n → w.handler.handed < n
handed_at held name at n w h read lt = subst (λ (x : Held _). x.handed < n) (read_at held name at w h read) lt

-- what is written back is the handler with one entry more
pub raised_at : {E : Type 0} (held : List (Held E)) (name : Handler E) (at : ℕ) (w : IsAt held name at) (r m : Held E) → r ≡ get_or held at r → m ≡ get_or held at m → let v : Held E = record { name = m.name; pool = m.pool; procedure = m.procedure; handed = r.handed + 1 } in v ≡ one_more w.handler
raised_at held name at w r m first second =
    let p = read_at held name at w r first in
    let q = read_at held name at w m second in
    λ i. record { name = (q i).name; pool = (q i).pool; procedure = (q i).procedure; handed = (p i).handed + 1 }

module _ {E : Type 0} {eq : E → E → Bool} (cmp : E → E → Ordering) (same : IsIdentity eq) (ties : (x y : E) → eq x y ≡ eq_by_cmp cmp x y) (total : IsTotalOrder cmp) where
  -- a name that no handler has is handed nothing
  pub next_free : (log : List (Entry E)) (held : List (Held E)) (name : Handler E) (at : ℕ) → IsGap cmp held name at → next_of eq log held name ≡ None
  next_free log held name at w = ap (λ h. option_and_then (λ x. slice_get (logged log) x.handed) h) (held_as-free cmp same ties total held name (free cmp same ties total held name at w))

  module _ (own : (e : E) → eq e e ≡ true) (log : List (Entry E)) (held : List (Held E)) (name : Handler E) (at : ℕ) (s : IsByName cmp held) (w : IsAt held name at) where
    next_at : next_of eq log held name ≡ slice_get (logged log) w.handler.handed
    next_at = ap (λ h. option_and_then (λ x. slice_get (logged log) x.handed) h) (held_as-at cmp same ties total own held name at s w)

    -- what was read at the handler's cursor comes next
    pub next_some : (h : Held E) → h ≡ get_or held at h → (e : Entry E) → h.handed < length log → e ≡ get_or log h.handed e → next_of eq log held name ≡ Some e.event
    next_some h read e lt is =
        let got : slice_get log h.handed ≡ Some e = slice_get-get_or log h.handed e lt ∙ ap (λ x. Some x) (sym is) in
        next_at ∙ ap (λ (x : Held E). slice_get (logged log) x.handed) (sym (read_at held name at w h read)) ∙ get_logged log h.handed e got

    pub next_none : (h : Held E) → h ≡ get_or held at h → length log ≤ h.handed → next_of eq log held name ≡ None
    next_none h read le = next_at ∙ ap (λ (x : Held E). slice_get (logged log) x.handed) (sym (read_at held name at w h read)) ∙ past_logged log h.handed le

    pub next_there : w.handler.handed < length log → next_of eq log held name ≡ None → ⊥
    next_there lt q = inside_logged log w.handler.handed lt (sym next_at ∙ q)

    module _ (running : List ℕ) (v : Held E) (is_v : v ≡ one_more w.handler) where
      pub advanced : w.handler.handed < length log → (old : HandlersView E) → record { held = held; running = running } ≡ old → IsAdvanced eq log name old (record { held = set held at v; running = running })
      advanced lt old is_old = subst (λ (o : HandlersView E). IsAdvanced eq log name o (record { held = set held at v; running = running })) is_old (record {
        before = take at held;
        handler = w.handler;
        after = drop (suc at) held;
        was = cut_at held at w.handler w.is;
        named = w.named;
        found = held_as-at cmp same ties total own held name at s w;
        entry = lt;
        is = ap (λ x. set held at x) is_v ∙ set_at held at (one_more w.handler) w.inside;
        pools = refl;
      })

-- the total counts one entry more, and the names are as they were
pub counted_set : {E : Type 0} {cmp : E → E → Ordering} (held : List (Held E)) (name : Handler E) (at n : ℕ) (w : IsAt held name at) (v : Held E) → v ≡ one_more w.handler → IsCounted cmp held n → IsCounted cmp (set held at v) (n + 1)
counted_set {E} {cmp} held name at n w v is_v k =
    let read : get_or held at v ≡ w.handler = get_or_from_slice_get held at w.handler v w.is in
    let named : names (set held at v) ≡ names held = map-set_same (λ (h : Held E). h.name) held at v v (ap (λ (h : Held E). h.name) is_v ∙ ap (λ (h : Held E). h.name) (sym read)) in
    let more : v.handed ≡ w.handler.handed + 1 = ap (λ (h : Held E). h.handed) is_v in
    let had : (get_or held at v).handed ≡ w.handler.handed = ap (λ (h : Held E). h.handed) read in
    record {
      by_name = subst (λ ns. IsStrictlySortedBy (handler_cmp cmp) ns) (sym named) k.by_name;
      sum = omega (arith, k.sum, sum_by-set (λ (h : Held E). h.handed) held at v v w.inside, more, had);
    }

pub within_set : {E : Type 0} (log : List (Entry E)) (held : List (Held E)) (name : Handler E) (at : ℕ) (w : IsAt held name at) (v : Held E) → v ≡ one_more w.handler → w.handler.handed < length log → All (λ h. h.handed ≤ length log) held → All (λ h. h.handed ≤ length log) (set held at v)
within_set {E} log held name at w v is_v lt all =
    let more : v.handed ≡ w.handler.handed + 1 = ap (λ (h : Held E). h.handed) is_v in
    All-set (λ h. h.handed ≤ length log) held at v (omega arith) all

-- one more than the total is at most as many entries as all handlers can be handed
pub total_below : {E : Type 0} {cmp : E → E → Ordering} (log : List (Entry E)) (held : List (Held E)) (name : Handler E) (at n : ℕ) (w : IsAt held name at) → w.handler.handed < length log → All (λ h. h.handed ≤ length log) held → IsCounted cmp held n → n + 1 ≤ length held * length log
total_below {E} {cmp} log held name at n w lt all k =
    let v : Held E = one_more w.handler in
    let sum = sum_within (λ (h : Held E). h.handed) (set held at v) (length log) (within_set log held name at w v refl lt all) in
    let counted = counted_set {E = E} {cmp = cmp} held name at n w v refl k in
    subst (λ m. n + 1 ≤ m * length log) (length-set held at v) (subst (λ m. m ≤ length (set held at v) * length log) (sym counted.sum) sum)

pub fits_total : (a b n : ℕ) → a < 18446744073709551616 → b < 18446744073709551616 → n ≤ a * b → n < 340282366920938463463374607431768211456
fits_total a b n p q le = omega (arith, mul-lt a b 18446744073709551616 18446744073709551616 p q)

-- a handler in its gap keeps the order, and one that was handed nothing the total
pub counted_insert : {E : Type 0} {cmp : E → E → Ordering} (total : IsTotalOrder cmp) (held : List (Held E)) (at n : ℕ) (v : Held E) → IsGap cmp held v.name at → v.handed ≡ 0 → IsCounted cmp held n → IsCounted cmp (take at held ++ v ∷ drop at held) n
counted_insert {E} {cmp} total held at n v w none k = record {
  by_name = rising_insert (handler_total total) (λ (h : Held E). h.name) held at v k.by_name w.inside w.before w.after;
  sum = k.sum ∙ sym (sum_insert_none (λ (h : Held E). h.handed) held at v none);
}

pub within_insert : {E : Type 0} (n : ℕ) (held : List (Held E)) (at : ℕ) (v : Held E) → v.handed ≡ 0 → All (λ h. h.handed ≤ n) held → All (λ h. h.handed ≤ n) (take at held ++ v ∷ drop at held)
within_insert {E} n held at v none all =
    let P : Held E → Type 0 = λ h. h.handed ≤ n in
    All-append P (take at held) (v ∷ drop at held) (All-take P at held all) (All-cons P v (drop at held) (omega arith) (All-drop P at held all))

pub counted_none : {E : Type 0} (cmp : E → E → Ordering) (held : List (Held E)) → held ≡ [] → IsCounted cmp held 0
unfolding IsStrictlySortedBy
counted_none {E} cmp held e = subst (λ (hs : List (Held E)). IsCounted cmp hs 0) (sym e) (record { by_name = tt; sum = refl })
