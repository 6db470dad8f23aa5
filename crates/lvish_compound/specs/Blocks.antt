-- Entries in blocks, each of the keys with one high part: a block is a key and the list of its entries.
use Rattle.std.specs.Prelude.{◌≡◌, ℕ, List, [], ◌∷◌, ◌++◌, length, unwrap_or, map}
use Rattle.std.specs.Bool.{⊤}
use Rattle.std.specs.List.{flat_map}
use Rattle.std.specs.List.Sorted.{IsStrictlySortedBy}
use Rattle.std.specs.Map.{lookup}
use Rattle.std.specs.BTreeMap.{is_at}
use Rattle.lvish_compound.specs.Vocabulary.{Ordering, Less, Equal, Greater}
use Rattle.lvish_compound.specs.Keyed.{key}
use Rattle.lvish_compound.specs.declared.block.Held.{Held}
use Rattle.lvish_compound.specs.declared.block.Held.TheVariants as kept

-- the entries of a block, as they are stored
abbrev pub stored_entries : {K L : Type 0} → Held K L → List (K × L)
stored_entries (kept.One e) = e ∷ []
stored_entries (kept.Many es) = es.items

-- there are entries
abbrev pub IsFull : {X : Type 0} → List X → Type 0
IsFull [] = ⊥
IsFull (x ∷ xs) = ⊤

-- the entries of all blocks
abbrev pub flat : {K X : Type 0} → List (K × List X) → List X
flat bs = flat_map (λ b. b.1) bs

-- no block is empty
abbrev pub AllFull : {K X : Type 0} → List (K × List X) → Type 0
AllFull [] = ⊤
AllFull (b ∷ bs) = IsFull b.1 × AllFull bs

module _ {K : Type 0} (R : K → K → Ordering) where
  -- the key is below the first of the entries
  abbrev pub Before : {X : Type 0} → K → List (K × X) → Type 0
  Before k [] = ⊤
  Before k (e ∷ es) = R k e.0 ≡ Less

  -- the key is above each of the entries
  abbrev pub Past : {X : Type 0} → K → List (K × X) → Type 0
  Past k [] = ⊤
  Past k (e ∷ es) = (R k e.0 ≡ Greater) × Past k es

  -- the key stands at the place
  abbrev pub IsAt : {X : Type 0} → K → List (K × X) → ℕ → Type 0
  IsAt {X} k es i = (xs : List (K × X)) × (e : K × X) × (ys : List (K × X)) × (es ≡ xs ++ e ∷ ys) × (length xs ≡ i) × Past k xs × (R k e.0 ≡ Equal)

  -- the key isn't there, and would stand at the place
  abbrev pub IsGap : {X : Type 0} → K → List (K × X) → ℕ → Type 0
  IsGap {X} k es i = (xs : List (K × X)) × (ys : List (K × X)) × (es ≡ xs ++ ys) × (length xs ≡ i) × Past k xs × Before k ys

  -- the entries under a high part
  abbrev pub block_at : {X : Type 0} → K → List (K × List X) → List X
  block_at h bs = unwrap_or (lookup (is_at (R h)) bs) []

module _ {K : Type 0} (R : K → K → Ordering) (high : K → K) where
  -- each of the entries has the high part
  abbrev pub AreOf : {X : Type 0} → K → List (K × X) → Type 0
  AreOf h [] = ⊤
  AreOf h (e ∷ es) = (high e.0 ≡ h) × AreOf h es

  -- the blocks ascend, none is empty, and each has the keys of its high part alone
  abbrev pub Sound : {X : Type 0} → List (K × List (K × X)) → Type 0
  Sound [] = ⊤
  Sound (b ∷ bs) = IsFull b.1 × AreOf b.0 b.1 × Before R b.0 bs × Sound bs

  -- what is true of the blocks of a tree, and of the count of their entries
  abbrev pub AreBlocks : {X : Type 0} → List (K × List (K × X)) → ℕ → Type 0
  AreBlocks bs count = Sound bs × IsStrictlySortedBy R (map key (flat bs)) × (count ≡ length (flat bs))
