-- Events of one key and kind, kept by their numbers alone.
use Rattle.std.proofs.Common.{◌≡◌, ℕ, ℤ, ◌+◌, ◌<◌, ◌≤◌, Bool, false, not, ◌&&◌, List, [], ◌∷◌, ◌++◌, take, drop, length, get_or, sym, ◌∙◌, ap}
use Rattle.std.specs.Cmp.Lexicographic.{pointwise}
use Rattle.std.specs.Cmp.Derive.Mapped.{pointwise-map}
use Rattle.std.specs.Ordering.{int_eq}
use Rattle.std.proofs.lemmas.Cmp.{int_eq_equiv}
use Rattle.std.proofs.lemmas.List.{take_more, take_all, map-append, drop-map}
use Rattle.lvish_compound.specs.declared.event.Event.{Event}
use Rattle.lvish_compound.specs.declared.kind.Kind.{Kind}
use Rattle.lvish_compound.specs.Kinds.{same_kind}
use Rattle.lvish_compound.specs.laws.KindLaws.{kinds_identical, kind_itself}
use Rattle.lvish_task.specs.Remaining.{alike}
use Rattle.lvish_task.proofs.Pairs.{told}

-- kinds that aren't told apart are the same
pub told_kind : (k l : Kind) → false ≡ not (same_kind k l) → k ≡ l
told_kind k l e = kinds_identical k l (told (same_kind k l) e)

-- numbers that were gathered from the first events
module _ (key : ℤ) (kind : Kind) (es : List Event) (i : ℕ) (ns : List ℤ) (h : alike key kind ns ≡ take i es) where
  -- one event more
  pub alike_more : (d : Event) (n : ℤ) (ms : List ℤ) → i < length es → (get_or es i d).key ≡ key → (get_or es i d).kind ≡ kind → n ≡ (get_or es i d).number → ms ≡ ns ++ n ∷ [] → alike key kind ms ≡ take (i + 1) es
  alike_more d n ms lt same_key kind_is same_number new =
      ap (alike key kind) new
      ∙ map-append _ ns (n ∷ [])
      ∙ (λ j. h j ++ record { key = sym same_key j; kind = sym kind_is j; number = same_number j } ∷ [])
      ∙ sym (take_more es i d lt)

  -- all events
  pub alike_all : (ms : List ℤ) → length es ≤ i → ms ≡ ns → alike key kind ms ≡ es
  alike_all ms le same = ap (alike key kind) same ∙ h ∙ take_all i es le

module _ (key : ℤ) (kind : Kind) (eq : Event → Event → Bool) (is : (d e : Event) → eq d e ≡ (int_eq d.key e.key && (same_kind d.kind e.kind && int_eq d.number e.number))) where
  -- the event with this number
  abbrev event : ℤ → Event
  event n = record { key = key; kind = kind; number = n }

  -- two events are equal where their numbers are
  by_number : (m n : ℤ) → int_eq m n ≡ eq (event m) (event n)
  by_number m n = sym (is (event m) (event n) ∙ λ j. int_eq_equiv.refl key j && (kind_itself kind j && int_eq m n))

  -- so are lists of them, from any places on
  by_numbers : (i j : ℕ) (xs ys : List ℤ) → pointwise int_eq (drop i xs) (drop j ys) ≡ pointwise eq (drop i (alike key kind xs)) (drop j (alike key kind ys))
  by_numbers i j xs ys =
      (λ k. pointwise (λ m n. by_number m n k) (drop i xs) (drop j ys))
      ∙ sym (pointwise-map event eq (drop i xs) (drop j ys))
      ∙ λ k. pointwise eq (sym (drop-map event i xs) k) (sym (drop-map event j ys) k)

  -- the same, where the others have an equal key and an equal kind
  pub alike_equal : (i j : ℕ) (xs ys : List ℤ) (other_key : ℤ) (other_kind : Kind) (a b : List Event) → a ≡ drop i (alike key kind xs) → b ≡ drop j (alike other_key other_kind ys) → key ≡ other_key → kind ≡ other_kind → pointwise int_eq (drop i xs) (drop j ys) ≡ pointwise eq a b
  alike_equal i j xs ys other_key other_kind a b first second keys kinds = by_numbers i j xs ys ∙ λ k. pointwise eq (sym first k) ((ap (drop j) (λ l. alike (keys l) (kinds l) ys) ∙ sym second) k)
