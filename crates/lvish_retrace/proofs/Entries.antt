-- Entries of a log that are noted, one after the other.
use Rattle.std.proofs.Common.{◌≡◌, ◌+◌, ◌<◌, ◌≤◌, ℕ, zero, suc, List, [], ◌∷◌, ◌++◌, map, take, drop, length, get_or, refl, sym, ap, ◌∙◌, arith, append_assoc, append-nil}
use Rattle.lvish_variable.specs.declared.entry.Entry.{Entry}
use Rattle.lvish_retrace.specs.declared.bringer.Bringer.{Bringer}
use Rattle.lvish_retrace.specs.Brought.{noted}

module _ {X : Type 0} where
  -- the elements from one place up to another
  abbrev pub between : ℕ → ℕ → List X → List X
  between from to xs = drop from (take to xs)

  none_between : (xs : List X) (n : ℕ) → between n n xs ≡ []
  none_between xs zero = refl
  none_between [] (suc n) = refl
  none_between (x ∷ xs) (suc n) = none_between xs n

  take_more : (xs : List X) (k : ℕ) (d : X) → k < length xs → take (suc k) xs ≡ take k xs ++ get_or xs k d ∷ []
  take_more [] k d less = absurd (omega (arith, less))
  take_more (x ∷ xs) zero d less = refl
  take_more (x ∷ xs) (suc k) d less = ap (λ z. x ∷ z) (take_more xs k d (omega (arith, less)))

  more_between : (xs : List X) (n k : ℕ) (d : X) → n ≤ k → k < length xs → between n (suc k) xs ≡ between n k xs ++ get_or xs k d ∷ []
  more_between xs zero k d le less = take_more xs k d less
  more_between [] (suc n) k d le less = absurd (omega (arith, less))
  more_between (x ∷ xs) (suc n) zero d le less = absurd (omega (arith, le))
  more_between (x ∷ xs) (suc n) (suc k) d le less = more_between xs n k d (omega (arith, le)) (omega (arith, less))

  all_taken : (xs : List X) (k : ℕ) → length xs ≤ k → take k xs ≡ xs
  all_taken [] zero le = refl
  all_taken [] (suc k) le = refl
  all_taken (x ∷ xs) zero le = absurd (omega (arith, le))
  all_taken (x ∷ xs) (suc k) le = ap (λ z. x ∷ z) (all_taken xs k (omega (arith, le)))

module _ {E : Type 0} (v step : ℕ) (log : List (Entry E)) (from : ℕ) (before : List (Bringer E)) where
  abbrev note : Entry E → Bringer E
  note e = record { variable = v; event = e.event; task = e.task; number = e.number; step = step }

  map_more : (es : List (Entry E)) (e : Entry E) → map note (es ++ e ∷ []) ≡ map note es ++ note e ∷ []
  map_more [] e = refl
  map_more (x ∷ es) e = ap (λ z. note x ∷ z) (map_more es e)

  -- the entries up to a place are noted
  abbrev pub AreNoted : ℕ → List (Bringer E) → Type 0
  AreNoted k bs = bs ≡ before ++ noted v step (between from k log)

  pub none_yet : AreNoted from before
  none_yet = sym (append-nil before) ∙ ap (λ zs. before ++ noted v step zs) (sym (none_between log from))

  pub one_more : (k : ℕ) (bs : List (Bringer E)) (d : Entry E) → from ≤ k → k < length log → AreNoted k bs → AreNoted (k + 1) (bs ++ note (get_or log k d) ∷ [])
  one_more k bs d le less is =
      ap (λ zs. zs ++ note (get_or log k d) ∷ []) is ∙ append_assoc before (noted v step (between from k log)) (note (get_or log k d) ∷ [])
      ∙ ap (λ zs. before ++ zs) (sym (map_more (between from k log) (get_or log k d)))
      ∙ ap (λ zs. before ++ noted v step zs) (sym (more_between log from k d le less) ∙ ap (λ m. between from m log) more)
    where
      more : suc k ≡ k + 1
      more = omega arith

  pub all_noted : (k : ℕ) (bs : List (Bringer E)) → length log ≤ k → AreNoted k bs → bs ≡ before ++ noted v step (drop from log)
  all_noted k bs le is = is ∙ ap (λ zs. before ++ noted v step (drop from zs)) (all_taken log k le)
