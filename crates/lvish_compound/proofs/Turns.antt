-- One entry is taken from what is left of the entries of some blocks.
use Rattle.std.proofs.Common.{◌≡◌, ℕ, ◌-◌, List, ◌∷◌, ◌++◌, length, arith, ap, subst, sym, ◌∙◌}
use Rattle.std.proofs.lemmas.List.{nil_from_length}
use Rattle.lvish_compound.specs.Blocks.{flat, AllFull, IsFull}

module _ {K L : Type 0} (ps qs : List (K × L)) (bs : List (K × List (K × L))) where
  -- no block that is left is empty, and the entries are counted
  abbrev IsCounted : List (K × L) → List (K × List (K × L)) → ℕ → Type 0
  IsCounted es cs count = AllFull cs × (count ≡ length (es ++ flat cs))

  -- of the block that has been begun
  module _ (e : K × L) (is : ps ≡ e ∷ qs) where
    pub part_taken : (count : ℕ) → IsCounted ps bs count → IsCounted qs bs (count - 1)
    part_taken count all = (all.0, (let n : count ≡ length (e ∷ (qs ++ flat bs)) = all.1 ∙ ap (λ xs. length (xs ++ flat bs)) is in omega arith))

    pub part_shown : (all : List (K × L)) → ps ++ flat bs ≡ all → all ≡ e ∷ (qs ++ flat bs)
    part_shown all shown = sym shown ∙ ap (λ xs. xs ++ flat bs) is

  -- of the next block, as nothing was left of the one before
  module _ (none : length ps ≡ 0) (b : K × List (K × L)) (cs : List (K × List (K × L))) (next : bs ≡ b ∷ cs) where
    before : ps ++ flat bs ≡ b.1 ++ flat cs
    before = ap (λ xs. xs ++ flat bs) (nil_from_length ps none) ∙ ap flat next

    pub block_full : (count : ℕ) → IsCounted ps bs count → IsFull b.1
    block_full count all = (subst AllFull next all.0).0

    module _ (e : K × L) (is : b.1 ≡ e ∷ qs) where
      pub block_taken : (count : ℕ) → IsCounted ps bs count → IsCounted qs cs (count - 1)
      block_taken count all = ((subst AllFull next all.0).1, (let n : count ≡ length (e ∷ (qs ++ flat cs)) = all.1 ∙ ap length before ∙ ap (λ es. length (es ++ flat cs)) is in omega arith))

      pub block_shown : (all : List (K × L)) → ps ++ flat bs ≡ all → all ≡ e ∷ (qs ++ flat cs)
      block_shown all shown = sym shown ∙ before ∙ ap (λ es. es ++ flat cs) is
