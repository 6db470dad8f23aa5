-- Each move keeps the rule.
use Rattle.std.proofs.Common.{◌≡◌, ◌≢◌, ℕ, zero, suc, ◌+◌, ◌-◌, ◌<◌, ◌≤◌, List, [], ◌∷◌, ◌++◌, length, set, drop, sym, refl, ap, ◌∙◌, subst, ⊎_elim, append_assoc, append-nil, length-append, length-drop, arith, sum_by}
use mathlib.Core.Option.{some, some-ne-none, some-injective}
use lib.ListN.{get_elem?}
use Rattle.crossbeam_deque.specs.Tasks.{Pushes, Takes, Finds, Forks, Merges, Learns}
use Rattle.crossbeam_deque.proofs.Lists.{at_set, at_snoc}
use Rattle.std.proofs.Math.Seq.{drop-append_seam}
use Rattle.std.proofs.lemmas.List.Sums.{sum_by-cons, sum_by-append, sum_by_push}
use Rattle.std.proofs.lemmas.List.Elements.{All-weaker, All-append, All-nil, All-cons}
use Rattle.lvish_deal.specs.declared.log.Log.{Log}
use Rattle.lvish_deal.specs.Order.{IsSubsequence}
use Rattle.lvish_deal.specs.Rule.{log, parts, weight, Fits, Dealt, Told, TookAlone, rest_of}
use Rattle.lvish_deal.proofs.Orders.{IsPicked-longer, IsPicked-append, IsPicked-short, IsPicked-whole}

module _ {T : Type 0} where
  -- a sum after a change of one pass
  sum_set : (f : Log T → ℕ) (views : List (Log T)) (port : ℕ) (v w : Log T) → get_elem? views port ≡ some v → sum_by f (set views port w) + f v ≡ sum_by f views + f w
  sum_set f [] port v w e = absurd (some-ne-none v (sym e))
  sum_set f (u ∷ us) zero v w e = let same : f u ≡ f v = ap f (some-injective u v e) in omega (arith, sum_by-cons f u us, sum_by-cons f w us)
  sum_set f (u ∷ us) (suc port) v w e = let rest = sum_set f us port v w e in omega (arith, sum_by-cons f u us, sum_by-cons f u (set us port w))

  abbrev Each : (Log T → Type 0) → List (Log T) → Type 0
  Each F views = (port : ℕ) (v : Log T) → get_elem? views port ≡ some v → F v

  sum_none : (f : Log T → ℕ) (views : List (Log T)) → Each (λ v. parts v ≡ 0 → f v ≡ 0) views → sum_by parts views ≡ 0 → sum_by f views ≡ 0
  sum_none f [] idle none = refl
  sum_none f (u ∷ us) idle none =
      let here : f u ≡ 0 = idle 0 u refl (omega (arith, sum_by-cons parts u us)) in
      let rest = sum_none f us (λ p v e. idle (suc p) v e) (omega (arith, sum_by-cons parts u us)) in omega (arith, sum_by-cons f u us)

  each_set : (F : Log T → Type 0) (views : List (Log T)) (port : ℕ) (w : Log T) → F w → Each F views → Each F (set views port w)
  each_set F views port w mine others j u e = ⊎_elim (λ (x : (j ≡ port) × (w ≡ u)). subst F x.1 mine) (λ (x : (j ≢ port) × (get_elem? views j ≡ some u)). others j u x.1) (at_set views port j w u e)

  -- where one pass has every part, it alone counts
  sum_alone : (f : Log T → ℕ) (views : List (Log T)) (port : ℕ) (v : Log T) → f (log 0 [] [] []) ≡ 0 → get_elem? views port ≡ some v → Each (λ v. parts v ≡ 0 → f v ≡ 0) views → sum_by parts views ≡ parts v → sum_by f views ≡ f v
  sum_alone f views port v none e idle all =
      let z : Log T = log 0 [] [] [] in
      let a = sum_set parts views port v z e in
      let b = sum_set f views port v z e in
      let rest = sum_none f (set views port z) (each_set (λ w. parts w ≡ 0 → f w ≡ 0) views port z (λ _. none) idle) (omega arith) in
      omega arith

  each_snoc : (F : Log T → Type 0) (views : List (Log T)) (w : Log T) → F w → Each F views → Each F (views ++ w ∷ [])
  each_snoc F views w mine others j u e = ⊎_elim (λ (x : get_elem? views j ≡ some u). others j u x) (λ (x : w ≡ u). subst F x mine) (at_snoc views w u j e)

  fits_longer : (out xs : List T) (v : Log T) → Fits out v → Fits (out ++ xs) v
  fits_longer out xs v f = (IsPicked-longer v.got out xs f.0, All-weaker (λ r. IsSubsequence r out) (λ r. IsSubsequence r (out ++ xs)) (λ r p. IsPicked-longer r out xs p) v.joined f.1, f.2)

  pub begins : Dealt [] (log {T = T} 9 [] [] [] ∷ [])
  begins = let v : Log T = log 9 [] [] [] in record {
    out = [];
    whole = refl;
    often = λ h. refl;
    pushed = λ u e. sym (ap (λ (y : Log T). y.sent) (some-injective v u e));
    each = each_snoc (Fits []) [] v (tt, All-nil (λ r. IsSubsequence r []), λ none. (refl, refl)) (λ j u e. absurd (some-ne-none u (sym e)));
  }

  pub pushes : (port : ℕ) (v : Log T) (xs : List T) → port ≡ 0 → Pushes Dealt port v xs (λ w. w ≡ log v.parts (v.sent ++ xs) v.got v.joined)
  pushes port v xs first items views h at =
      let w : Log T = log v.parts (v.sent ++ xs) v.got v.joined in (
        w,
        record {
          out = h.out;
          whole = let s = sum_set parts views port v w at in let p = h.whole in omega arith;
          often = λ f. let s = sum_set (weight f) views port v w at in let p = h.often f in omega arith;
          pushed = λ u e. ⊎_elim (λ (x : (0 ≡ port) × (w ≡ u)). ap (λ (y : Log T). y.sent) (sym x.1) ∙ ap (λ l. l ++ xs) (h.pushed v (subst (λ (k : ℕ). get_elem? views k ≡ some v) first at)) ∙ append_assoc h.out items xs)
              (λ (x : (0 ≢ port) × (get_elem? views 0 ≡ some u)). absurd (x.0 (sym first))) (at_set views port 0 w u e);
          each = each_set (Fits h.out) views port w (h.each port v at) h.each;
        },
        refl,
      )

  pub takes : (port : ℕ) (v : Log T) → 0 < v.parts → Takes Dealt port v 1 (λ xs w. w ≡ log v.parts v.sent (v.got ++ xs) v.joined)
  takes port v some_part xs items views _ _ h at =
      let w : Log T = log v.parts v.sent (v.got ++ xs) v.joined in
      let mine = h.each port v at in (
        w,
        record {
          out = h.out ++ xs;
          whole = let s = sum_set parts views port v w at in let p = h.whole in omega arith;
          often = λ f. let s = sum_set (weight f) views port v w at in let p = h.often f in omega (arith, sum_by-append f v.got xs, sum_by-append f h.out xs);
          pushed = λ u e. ⊎_elim (λ (x : (0 ≡ port) × (w ≡ u)). ap (λ (y : Log T). y.sent) (sym x.1) ∙ h.pushed v (subst (λ (k : ℕ). get_elem? views k ≡ some v) (sym x.0) at) ∙ sym (append_assoc h.out xs items))
              (λ (x : (0 ≢ port) × (get_elem? views 0 ≡ some u)). h.pushed u x.1 ∙ sym (append_assoc h.out xs items)) (at_set views port 0 w u e);
          each = each_set (Fits (h.out ++ xs)) views port w
              (IsPicked-append v.got h.out xs mine.0, (fits_longer h.out xs v mine).1, λ none. absurd (omega arith))
              (λ j u e. fits_longer h.out xs u (h.each j u e));
        },
        refl,
      )

  -- the first view after a change of one and a new one at the end
  first_of : (views : List (Log T)) (port : ℕ) (v : Log T) → get_elem? views port ≡ some v → (F : Log T → Type 0) (l r : Log T) → (get_elem? views 0 ≡ some v → F l) → ((z : Log T) → get_elem? views 0 ≡ some z → F z) → (u : Log T) → get_elem? (set views port l ++ r ∷ []) 0 ≡ some u → F u
  first_of [] port v at F l r mine others u e = absurd (some-ne-none v (sym at))
  first_of (x ∷ xs) zero v at F l r mine others u e = subst F (some-injective l u e) (mine at)
  first_of (x ∷ xs) (suc port) v at F l r mine others u e = others u e

  splits : (a b port : ℕ) (v : Log T) → a + b ≡ v.parts → (a ≡ 0 → v.parts ≡ 0) → Forks Dealt port v (log a v.sent v.got v.joined) (log b [] [] [])
  splits a b port v two idle items views h at =
      let l : Log T = log a v.sent v.got v.joined in
      let r : Log T = log b [] [] [] in
      let vs : List (Log T) = set views port l in
      let mine = h.each port v at in record {
        out = h.out;
        whole = let s = sum_set parts views port v l at in let t = sum_by_push parts vs r in let p = h.whole in omega arith;
        often = λ f. let s = sum_set (weight f) views port v l at in let t = sum_by_push (weight f) vs r in let p = h.often f in omega arith;
        pushed = λ u e. first_of views port v at (λ z. z.sent ≡ h.out ++ items) l r (λ k. h.pushed v k) (λ z k. h.pushed z k) u e;
        each = each_snoc (Fits h.out) vs r (tt, All-nil (λ q. IsSubsequence q h.out), λ none. (refl, refl))
            (each_set (Fits h.out) views port l (mine.0, mine.1, λ none. mine.2 (idle none)) h.each);
      }

  pub forks : (port : ℕ) (v : Log T) → 1 < v.parts → Forks Dealt port v (log (v.parts - 1) v.sent v.got v.joined) (log 1 [] [] [])
  forks port v parts_left = splits (v.parts - 1) 1 port v (omega arith) (λ none. absurd (omega arith))

  pub idles : (port : ℕ) (v : Log T) → Forks Dealt port v v (log 0 [] [] [])
  idles port v = splits v.parts 0 port v (omega arith) (λ none. none)

  pub merges : (port : ℕ) (v : Log T) (other : ℕ) (w : Log T) → port ≡ 0 → 0 < v.parts → Merges Dealt port v other w (log (v.parts + w.parts) v.sent v.got (w.got ∷ (w.joined ++ v.joined))) (log 0 [] [] [])
  merges port v other w first some_part items views h at two at' =
      let both : Log T = log (v.parts + w.parts) v.sent v.got (w.got ∷ (w.joined ++ v.joined)) in
      let spent : Log T = log 0 [] [] [] in
      let vs : List (Log T) = set views port both in
      let was : get_elem? views other ≡ some w = ⊎_elim (λ x. absurd (two x.0)) (λ x. x.1) (at_set views port other both w at') in
      let mine = h.each port v at in
      let theirs = h.each other w was in
      let Picked : List T → Type 0 = λ q. IsSubsequence q h.out in record {
        out = h.out;
        whole = let s = sum_set parts views port v both at in let t = sum_set parts vs other w spent at' in let p = h.whole in omega arith;
        often = λ f. let s = sum_set (weight f) views port v both at in let t = sum_set (weight f) vs other w spent at' in let p = h.often f in
            omega (arith, sum_by-append (sum_by f) w.joined v.joined, sum_by-cons (sum_by f) w.got (w.joined ++ v.joined));
        pushed = λ u e. ⊎_elim (λ (x : (0 ≡ other) × (spent ≡ u)). absurd (two (sym x.0 ∙ sym first)))
            (λ (x : (0 ≢ other) × (get_elem? vs 0 ≡ some u)). ⊎_elim (λ (y : (0 ≡ port) × (both ≡ u)). ap (λ (z : Log T). z.sent) (sym y.1) ∙ h.pushed v (subst (λ (k : ℕ). get_elem? views k ≡ some v) first at))
            (λ (y : (0 ≢ port) × (get_elem? views 0 ≡ some u)). h.pushed u y.1) (at_set views port 0 both u x.1)) (at_set vs other 0 spent u e);
        each = each_set (Fits h.out) vs other spent (tt, All-nil Picked, λ none. (refl, refl))
            (each_set (Fits h.out) views port both (
              mine.0,
              All-cons Picked w.got (w.joined ++ v.joined) theirs.0 (All-append Picked w.joined v.joined theirs.1 mine.1),
              λ none. absurd (omega arith),
            ) h.each);
      }

  pub tells : (port : ℕ) (v : Log T) → port ≡ 0 → v.parts ≡ 9 → Learns Dealt port v (Told v)
  tells port v first all items views h at = (
    h.out,
    h.pushed v (subst (λ (k : ℕ). get_elem? views k ≡ some v) first at),
    (λ f. sym (sum_alone (weight f) views port v refl at (λ p u e none. let i = (h.each p u e).2 none in rw (i.0, i.1) refl) (h.whole ∙ sym all)) ∙ h.often f),
    h.each port v at,
  )

  abbrev one : T → ℕ
  one _ = 1

  ones : (xs : List T) → sum_by one xs ≡ length xs
  ones [] = refl
  ones (x ∷ xs) = let rest = ones xs in omega (arith, sum_by-cons one x xs)

  alone : (v : Log T) (items : List T) → Told v items → v.joined ≡ [] → v.sent ≡ v.got ++ items
  alone v items told none =
      let others = ap (sum_by (sum_by one)) none in
      let n = told.2 one in
      let long : length v.got ≡ length told.0 = omega (arith, ones v.got, ones told.0) in
      told.1 ∙ ap (λ l. l ++ items) (sym (IsPicked-whole v.got told.0 told.3.0 long))

  pub pops : (port : ℕ) (v : Log T) → port ≡ 0 → 0 < v.parts
      → Takes Dealt port v 1 (λ xs w. (w ≡ log v.parts v.sent (v.got ++ xs) v.joined) × (length v.got + length xs ≤ length v.sent) × IsSubsequence w.got w.sent × ((rest : List T) × TookAlone w rest))
  pops port v first some_part xs items views a b h at =
      let t = takes port v some_part xs items views a b h at in
      let sent = h.pushed v (subst (λ (k : ℕ). get_elem? views k ≡ some v) first at) in
      let picked : IsSubsequence (v.got ++ xs) v.sent = subst (IsSubsequence (v.got ++ xs)) (append_assoc h.out xs items ∙ sym sent) (IsPicked-longer (v.got ++ xs) (h.out ++ xs) items (IsPicked-append v.got h.out xs (h.each port v at).0)) in
      let short = IsPicked-short (v.got ++ xs) v.sent picked in
      let front : TookAlone (log v.parts v.sent (v.got ++ xs) v.joined) items = λ all none. alone v (xs ++ items) (tells port v first all (xs ++ items) views h at) none ∙ sym (append_assoc v.got xs items) in
      (t.0, t.1, (t.2, omega (arith, length-append v.got xs), subst (λ (w : Log T). IsSubsequence w.got w.sent) (sym t.2) picked, (items, subst (λ (w : Log T). TookAlone w items) (sym t.2) front)))

  pub empties : (port : ℕ) (v : Log T) → port ≡ 0 → Finds Dealt port v (TookAlone v [])
  empties port v first views h at = λ all none. alone v [] (tells port v first all [] views h at) none

  rest_is : (v : Log T) (out items : List T) → v.sent ≡ out ++ items → weight one v ≡ length out → rest_of v ≡ items
  rest_is v out items s n = ap (λ l. drop (weight one v) l) s ∙ ap (λ k. drop k (out ++ items)) n ∙ drop-append_seam out items

  pub rest_told : (v : Log T) (items : List T) → Told v items → rest_of v ≡ items
  rest_told v items told = rest_is v told.0 items told.1 (told.2 one ∙ ones told.0)

  pub finds : (port : ℕ) (v : Log T) → port ≡ 0 → v.parts ≡ 9 → Finds Dealt port v (rest_of v ≡ [])
  finds port v first all views h at = rest_told v [] (tells port v first all [] views h at)

  pub drains : (port : ℕ) (v : Log T) → port ≡ 0 → v.parts ≡ 9 → Takes Dealt port v 1 (λ xs w. (w ≡ log v.parts v.sent (v.got ++ xs) v.joined) × (rest_of v ≡ xs ++ rest_of w))
  drains port v first all xs items views a b h at =
      let w : Log T = log v.parts v.sent (v.got ++ xs) v.joined in
      let t = takes port v (omega arith) xs items views a b h at in
      let told = tells port v first all (xs ++ items) views h at in
      let n : weight one v ≡ length told.0 = told.2 one ∙ ones told.0 in
      let r = rest_is v told.0 (xs ++ items) told.1 n in
      let m : weight one w ≡ length (told.0 ++ xs) = omega (arith, sum_by-append one v.got xs, ones xs, length-append told.0 xs) in
      let s = rest_is w (told.0 ++ xs) items (told.1 ∙ sym (append_assoc told.0 xs items)) m in
      (t.0, t.1, (t.2, r ∙ ap (λ l. xs ++ l) (sym (ap rest_of t.2 ∙ s))))

  -- room for what the one itself has not taken is enough
  pub rest_short : (v : Log T) → length (rest_of v) ≤ length v.sent - length v.got
  rest_short v = omega (arith, length-drop (weight one v) v.sent, ones v.got)

  pub drained : (v v' w : Log T) (items left : List T) → v' ≡ v → Told v items → rest_of v' ≡ left ++ rest_of w → rest_of w ≡ [] → Told v left
  drained v v' w items left same told rest none = subst (Told v) (sym (rest_told v items told) ∙ ap rest_of (sym same) ∙ rest ∙ ap (λ l. left ++ l) none ∙ append-nil left) told
