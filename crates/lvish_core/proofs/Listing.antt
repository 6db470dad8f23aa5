-- What is listed of a list's entries, one for each that has something to list, in their order.
use Rattle.std.proofs.Common.{◌≡◌, ◌⊎◌, inl, inr, Bool, true, false, if◌then◌else◌, List, [], ◌∷◌, ◌++◌, map, Ordering, refl, sym, ap, subst, ◌∙◌, append_assoc, append-nil, Less}
use Rattle.std.specs.List.{AllByRecursion, IsDistinct}
use Rattle.std.specs.List.Sorted.{IsStrictlySortedBy}
use Rattle.std.proofs.lemmas.Bool.{cases_Bool}
use Rattle.lvish_calculus.specs.Handing.{IsAmong}
use Rattle.lvish_core.specs.laws.Lists.{all_always}

-- ---- lists

all_append : {X : Type 0} (P : X → Type 0) (xs ys : List X) → AllByRecursion P xs → AllByRecursion P ys → AllByRecursion P (xs ++ ys)
all_append P [] ys a b = b
all_append P (x ∷ xs) ys a b = (a.0, all_append P xs ys a.1 b)

pub all_at : {X : Type 0} (P : X → Type 0) (xs : List X) → AllByRecursion P xs → (x : X) → IsAmong x xs → P x
all_at P [] all x i = absurd i
all_at P (y ∷ xs) all x (inl e) = subst P (sym e) all.0
all_at P (y ∷ xs) all x (inr i) = all_at P xs all.1 x i

pub sorted_append : {X : Type 0} (cmp : X → X → Ordering) (xs ys : List X) → IsStrictlySortedBy cmp xs → IsStrictlySortedBy cmp ys → ((x y : X) → IsAmong x xs → IsAmong y ys → cmp x y ≡ Less) → IsStrictlySortedBy cmp (xs ++ ys)
unfolding IsStrictlySortedBy
sorted_append cmp [] ys s t between = t
sorted_append cmp (x ∷ xs) ys s t between = (
  all_append (λ y. cmp x y ≡ Less) xs ys s.0 (all_always (λ y. cmp x y ≡ Less) ys (λ y i. between x y (inl refl) i)),
  sorted_append cmp xs ys s.1 t (λ z y i j. between z y (inr i) j),
)

-- ---- a table, and what is found in it under a key

module _ {K V W : Type 0} (same : K → K → Bool) (itself : (k : K) → same k k ≡ true) (find : List (K × V) → K → W) (found : V → W)
    (step : (x : K × V) (xs : List (K × V)) (k : K) → find (x ∷ xs) k ≡ (if same k x.0 then found x.1 else find xs k)) where
  -- in a table without repeats each entry is found under its key
  pub each_found : ((k q : K) → same k q ≡ same q k) → (xs : List (K × V)) → IsDistinct same (map (λ x. x.0) xs) → AllByRecursion (λ x. find xs x.0 ≡ found x.1) xs
  unfolding IsDistinct
  each_found symm [] d = tt
  each_found symm (x ∷ xs) d = (
    step x xs x.0 ∙ ap (λ b. if b then found x.1 else find xs x.0) (itself x.0),
    behind xs d.0 (each_found symm xs d.1),
  )
    where
      behind : (ys : List (K × V)) → AllByRecursion (λ k. same x.0 k ≡ false) (map (λ y. y.0) ys) → AllByRecursion (λ y. find xs y.0 ≡ found y.1) ys → AllByRecursion (λ y. find (x ∷ xs) y.0 ≡ found y.1) ys
      behind [] other all = tt
      behind (y ∷ ys) other all = (
        step x xs y.0 ∙ ap (λ b. if b then found x.1 else find xs y.0) (symm y.0 x.0 ∙ other.0) ∙ all.0,
        behind ys other.1 all.1,
      )

  -- what is found is an entry of the table
  pub found_there : ((k q : K) → same k q ≡ true → k ≡ q) → (xs : List (K × V)) (k : K) → (find [] k ≡ find xs k) ⊎ ((v : V) × (find xs k ≡ found v) × IsAmong (k, v) xs)
  found_there is [] k = inl refl
  found_there is (x ∷ xs) k = elim (cases_Bool (same k x.0)) [
    | inl b ↦ inr (x.1, step x xs k ∙ ap (λ q. if q then found x.1 else find xs k) b, inl (λ i. (is k x.0 b i, x.1)))
    | inr b ↦
        let on = step x xs k ∙ ap (λ q. if q then found x.1 else find xs k) b in
        elim (found_there is xs k) [
          | inl none ↦ inl (none ∙ sym on)
          | inr there ↦ inr (there.0, on ∙ there.1, inr there.2)
        ]
  ]

-- ---- what the entries of a list have to list

module _ {X Y : Type 0} (Item : X → Y → Type 0) where
  -- an item of each entry that has one, in their order
  abbrev pub AreOf : List X → List Y → Type 0
  AreOf [] ls = ls ≡ []
  AreOf (x ∷ xs) ls = ((l : Y) × Item x l × ((ms : List Y) × (ls ≡ l ∷ ms) × AreOf xs ms)) ⊎ (((l : Y) → Item x l → ⊥) × AreOf xs ls)

  -- with those of the rest, the items so far are the first ones and those of all
  pub record Listed (all rest : List X) (first so_far : List Y) : Type 0 where
    pub more : (ms : List Y) → AreOf rest ms → (ls : List Y) × AreOf all ls × (so_far ++ ms ≡ first ++ ls)

  -- no entry is listed yet
  pub none_listed : (all : List X) (first : List Y) → Listed all all first first
  none_listed all first = record { more = λ ms z. (ms, z, refl) }

  -- one entry more, which has an item or none
  pub one_listed : (all : List X) (x : X) (rest : List X) (first ls : List Y) → Listed all (x ∷ rest) first ls → (l : Y) → Item x l → Listed all rest first (ls ++ l ∷ [])
  one_listed all x rest first ls so_far l item = record { more = λ ms z. let q = so_far.more (l ∷ ms) (inl (l, item, (ms, refl, z))) in (q.0, q.1, append_assoc ls (l ∷ []) ms ∙ q.2) }

  pub one_passed : (all : List X) (x : X) (rest : List X) (first ls : List Y) → Listed all (x ∷ rest) first ls → ((l : Y) → Item x l → ⊥) → Listed all rest first ls
  one_passed all x rest first ls so_far none = record { more = λ ms z. so_far.more ms (inr (none, z)) }

  pub all_listed : (all rest : List X) (first ls : List Y) → Listed all rest first ls → rest ≡ [] → (hs : List Y) × AreOf all hs × (ls ≡ first ++ hs)
  all_listed all rest first ls so_far none = let q = so_far.more [] (subst (λ xs. AreOf xs []) (sym none) refl) in (q.0, q.1, sym (append-nil ls) ∙ q.2)

  -- what is listed is an entry's item
  pub listed_of : (xs : List X) (ls : List Y) → AreOf xs ls → (l : Y) → IsAmong l ls → (x : X) × IsAmong x xs × Item x l
  listed_of [] ls z l i = absurd (subst (λ ys. IsAmong l ys) z i)
  listed_of (x ∷ xs) ls (inl (k, item, ms)) l i = by (listed_of xs ms.0 ms.2 l) (subst (λ ys. IsAmong l ys) ms.1 i)
    where
      by : (IsAmong l ms.0 → (y : X) × IsAmong y xs × Item y l) → IsAmong l (k ∷ ms.0) → (y : X) × IsAmong y (x ∷ xs) × Item y l
      by later (inl e) = (x, inl refl, subst (λ q. Item x q) (sym e) item)
      by later (inr j) = let z = later j in (z.0, inr z.1, z.2)
  listed_of (x ∷ xs) ls (inr (none, z)) l i = let q = listed_of xs ls z l i in (q.0, inr q.1, q.2)

  -- and the one item of an entry is listed
  pub item_listed : (xs : List X) (ls : List Y) → AreOf xs ls → (x : X) (l : Y) → IsAmong x xs → Item x l → ((m : Y) → Item x m → l ≡ m) → IsAmong l ls
  item_listed [] ls z x l i item one = absurd i
  item_listed (y ∷ xs) ls (inl (k, other, ms)) x l (inl e) item one = subst (λ ys. IsAmong l ys) (sym ms.1) (inl (one k (subst (λ q. Item q k) (sym e) other)))
  item_listed (y ∷ xs) ls (inl (k, other, ms)) x l (inr i) item one = subst (λ ys. IsAmong l ys) (sym ms.1) (inr (item_listed xs ms.0 ms.2 x l i item one))
  item_listed (y ∷ xs) ls (inr (none, z)) x l (inl e) item one = absurd (none l (subst (λ q. Item q l) e item))
  item_listed (y ∷ xs) ls (inr (none, z)) x l (inr i) item one = item_listed xs ls z x l i item one

  module _ {K : Type 0} (key : X → K) (cmp : K → K → Ordering) (order : Y → Y → Ordering) (by_key : (x y : X) (l m : Y) → Item x l → Item y m → cmp (key x) (key y) ≡ Less → order l m ≡ Less) where
    above : (x : X) (l : Y) → Item x l → (xs : List X) (ls : List Y) → AreOf xs ls → AllByRecursion (λ k. cmp (key x) k ≡ Less) (map key xs) → AllByRecursion (λ m. order l m ≡ Less) ls
    above x l item [] ls z a = subst (λ ys. AllByRecursion (λ m. order l m ≡ Less) ys) (sym z) tt
    above x l item (y ∷ xs) ls (inl (k, other, ms)) a = subst (λ ys. AllByRecursion (λ m. order l m ≡ Less) ys) (sym ms.1) (by_key x y l k item other a.0, above x l item xs ms.0 ms.2 a.1)
    above x l item (y ∷ xs) ls (inr (none, z)) a = above x l item xs ls z a.1

    -- the items of entries that ascend by their keys ascend
    pub listed_ascend : (xs : List X) (ls : List Y) → AreOf xs ls → IsStrictlySortedBy cmp (map key xs) → IsStrictlySortedBy order ls
    unfolding IsStrictlySortedBy
    listed_ascend [] ls z a = subst (λ ys. IsStrictlySortedBy order ys) (sym z) tt
    listed_ascend (x ∷ xs) ls (inl (l, item, ms)) a = subst (λ ys. IsStrictlySortedBy order ys) (sym ms.1) (above x l item xs ms.0 ms.2 a.0, listed_ascend xs ms.0 ms.2 a.1)
    listed_ascend (x ∷ xs) ls (inr (none, z)) a = listed_ascend xs ls z a.1
