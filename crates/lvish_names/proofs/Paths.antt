-- How the order of two names comes of their parts from the last one on.
use Rattle.std.proofs.Common.{◌≡◌, ◌<◌, ◌-◌, ℕ, List, [], ◌∷◌, ◌++◌, length, take, drop, take-append-drop, reverse, refl, sym, ap, ◌∙◌, arith}
use Rattle.std.proofs.lemmas.List.{reverse-append, length-reverse, length-drop, length-take-le}
use Rattle.std.specs.declared.cmp.Ordering.{Ordering}
use Rattle.std.specs.declared.cmp.Ordering.TheVariants.{Less, Equal, Greater}
use Rattle.std.specs.Ordering.{nat_cmp, ordering_then}
use Rattle.std.specs.Cmp.{ranked}
use Rattle.std.specs.Cmp.Lexicographic.{slice_cmp}
use Rattle.lvish_names.specs.Names.{Name}
use Rattle.lvish_names.specs.NameOrder.{part_cmp, name_cmp}
use Rattle.lvish_names.specs.declared.name_part.NamePart.{NamePart}

then_assoc : (a b c : Ordering) → ordering_then (ordering_then a b) c ≡ ordering_then a (ordering_then b c)
then_assoc Less b c = refl
then_assoc Equal b c = refl
then_assoc Greater b c = refl

pub then_equal : (a : Ordering) → ordering_then a Equal ≡ a
then_equal Less = refl
then_equal Equal = refl
then_equal Greater = refl

module _ {K : Type 0} (cmp : K → K → Ordering) where
  -- one more at the end of each of two lists of one length
  slice_cmp-snoc : (xs ys : List K) (x y : K) → length xs ≡ length ys → slice_cmp cmp (xs ++ x ∷ []) (ys ++ y ∷ []) ≡ ordering_then (slice_cmp cmp xs ys) (cmp x y)
  slice_cmp-snoc [] [] x y e = then_equal (cmp x y)
  slice_cmp-snoc [] (b ∷ ys) x y e = absurd (omega (arith, e))
  slice_cmp-snoc (a ∷ xs) [] x y e = absurd (omega (arith, e))
  slice_cmp-snoc (a ∷ xs) (b ∷ ys) x y e =
      ap (ordering_then (cmp a b)) (slice_cmp-snoc xs ys x y (omega (arith, e))) ∙ sym (then_assoc (cmp a b) (slice_cmp cmp xs ys) (cmp x y))

  -- more at the end of the second of two lists of one length
  slice_cmp-shorter : (xs ys zs : List K) → length xs ≡ length ys → 0 < length zs → slice_cmp cmp xs (ys ++ zs) ≡ ordering_then (slice_cmp cmp xs ys) Less
  slice_cmp-shorter [] [] [] e h = absurd (omega (arith, h))
  slice_cmp-shorter [] [] (z ∷ zs) e h = refl
  slice_cmp-shorter [] (b ∷ ys) zs e h = absurd (omega (arith, e))
  slice_cmp-shorter (a ∷ xs) [] zs e h = absurd (omega (arith, e))
  slice_cmp-shorter (a ∷ xs) (b ∷ ys) zs e h =
      ap (ordering_then (cmp a b)) (slice_cmp-shorter xs ys zs (omega (arith, e)) h) ∙ sym (then_assoc (cmp a b) (slice_cmp cmp xs ys) Less)

  -- and of the first
  slice_cmp-longer : (xs ys zs : List K) → length xs ≡ length ys → 0 < length zs → slice_cmp cmp (xs ++ zs) ys ≡ ordering_then (slice_cmp cmp xs ys) Greater
  slice_cmp-longer [] [] [] e h = absurd (omega (arith, h))
  slice_cmp-longer [] [] (z ∷ zs) e h = refl
  slice_cmp-longer [] (b ∷ ys) zs e h = absurd (omega (arith, e))
  slice_cmp-longer (a ∷ xs) [] zs e h = absurd (omega (arith, e))
  slice_cmp-longer (a ∷ xs) (b ∷ ys) zs e h =
      ap (ordering_then (cmp a b)) (slice_cmp-longer xs ys zs (omega (arith, e)) h) ∙ sym (then_assoc (cmp a b) (slice_cmp cmp xs ys) Greater)

reverse_cons : {A : Type 0} (x : A) (xs : List A) → reverse (x ∷ xs) ≡ reverse xs ++ x ∷ []
reverse_cons x xs = reverse-append (x ∷ []) xs

-- a list from its end is the end of what stands behind, and then of what stands before
reverse_parts : {A : Type 0} (k : ℕ) (xs : List A) → reverse xs ≡ reverse (drop k xs) ++ reverse (take k xs)
reverse_parts k xs = ap reverse (sym (take-append-drop k xs)) ∙ reverse-append (take k xs) (drop k xs)

same_length : {A : Type 0} (xs ys : List A) → length xs ≡ length ys → length (reverse xs) ≡ length (reverse ys)
same_length xs ys e = length-reverse xs ∙ e ∙ sym (length-reverse ys)

module _ {E : Type 0} (cmp : E → E → Ordering) where
  -- the last parts of two names of one length, and then the rest of the order
  pub name_cmp-cons : (t u : Name E) (x y : NamePart E) (rest : Ordering) → length t ≡ length u → ordering_then (name_cmp cmp (x ∷ t) (y ∷ u)) rest ≡ ordering_then (name_cmp cmp t u) (ordering_then (part_cmp cmp x y) rest)
  name_cmp-cons t u x y rest e =
      let split : name_cmp cmp (x ∷ t) (y ∷ u) ≡ ordering_then (name_cmp cmp t u) (part_cmp cmp x y) =
      (λ i. slice_cmp (part_cmp cmp) (reverse_cons x t i) (reverse_cons y u i)) ∙ slice_cmp-snoc (part_cmp cmp) (reverse t) (reverse u) x y (same_length t u e) in
      ap (λ o. ordering_then o rest) split ∙ then_assoc (name_cmp cmp t u) (part_cmp cmp x y) rest

  -- a name of d parts and a longer one of e
  pub name_cmp-shorter : (t u : Name E) (d e : ℕ) → d ≡ length t → e ≡ length u → Less ≡ nat_cmp d e → name_cmp cmp t u ≡ ordering_then (name_cmp cmp t (drop (e - d) u)) Less
  name_cmp-shorter t u d e own others less =
      let k = e - d in
      let below : d < e = ranked d e Less less in
      let behind : length t ≡ length (drop k u) = omega (arith, own, others, below, length-drop k u) in
      let some : 0 < length (take k u) = rw (length-take-le k u (omega (arith, others))) (omega (arith, below)) in
      ap (slice_cmp (part_cmp cmp) (reverse t)) (reverse_parts k u)
      ∙ slice_cmp-shorter (part_cmp cmp) (reverse t) (reverse (drop k u)) (reverse (take k u)) (same_length t (drop k u) behind) (omega (arith, some, length-reverse (take k u)))

  -- and a shorter one
  pub name_cmp-longer : (t u : Name E) (d e : ℕ) → d ≡ length t → e ≡ length u → Greater ≡ nat_cmp d e → name_cmp cmp t u ≡ ordering_then (name_cmp cmp (drop (d - e) t) u) Greater
  name_cmp-longer t u d e own others greater =
      let k = d - e in
      let above : e < d = ranked d e Greater greater in
      let behind : length (drop k t) ≡ length u = omega (arith, own, others, above, length-drop k t) in
      let some : 0 < length (take k t) = rw (length-take-le k t (omega (arith, own))) (omega (arith, above)) in
      ap (λ l. slice_cmp (part_cmp cmp) l (reverse u)) (reverse_parts k t)
      ∙ slice_cmp-longer (part_cmp cmp) (reverse (drop k t)) (reverse u) (reverse (take k t)) (same_length (drop k t) u behind) (omega (arith, some, length-reverse (take k t)))
