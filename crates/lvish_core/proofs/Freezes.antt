-- The order of freezes grows with a run.
use Rattle.std.proofs.Common.{◌≡◌, ◌++◌, ℕ, Bool, true, false, List, [], ◌∷◌, Option, Some, None, refl, sym, ap, subst, ◌∙◌, if◌then◌else◌}
use Rattle.lvish_core.specs.Vocabulary.{Label}
use Rattle.lvish_calculus.specs.Machine.{Machine}
use Rattle.lvish_calculus.specs.Calculus.{State, Configuration, Running, Error, IsRun, effect, start, step}
use Rattle.lvish_calculus.specs.FreezeOrder.{froze_by, first_frozen, freezes_from, freeze_order}
use Rattle.lvish_calculus.specs.Laws.{Reaches}
use Rattle.lvish_core.specs.Changes.{more_frozen}

-- a variable in front of all that are frozen later stays there
first_before : {S E L : Type 0} (c : State S E L) (o : Option ℕ) (vs : List ℕ) (frozen : ℕ → Bool) (q : Option ℕ) → first_frozen c o (more_frozen vs frozen q) ≡ more_frozen (first_frozen c o vs) frozen q
first_before c None vs frozen q = refl
first_before c (Some v) vs frozen None = refl
first_before c (Some v) vs frozen (Some w) = by (c.frozen v) (frozen w)
  where
    by : (a b : Bool) → (if a then (if b then vs else vs ++ w ∷ []) else v ∷ (if b then vs else vs ++ w ∷ []))
        ≡ (if b then (if a then vs else v ∷ vs) else (if a then vs else v ∷ vs) ++ w ∷ [])
    by true true = refl
    by true false = refl
    by false true = refl
    by false false = refl

-- what the last step freezes
last_freezes : {S E L : Type 0} (c : State S E L) (o : Option ℕ) → first_frozen c o [] ≡ more_frozen [] c.frozen o
last_freezes c None = refl
last_freezes c (Some v) = refl

module _ {S E R A L : Type 0} (M : Machine S E R A L) where
  freezes_append : (d : Configuration S E L) (xs : List (Label E)) (c : State S E L) (l : Label E) → IsRun M d xs (Running c) → freezes_from M d (xs ++ l ∷ []) ≡ more_frozen (freezes_from M d xs) c.frozen (froze_by (effect M c l))
  freezes_append d [] c l r = ap (λ e. freezes_from M e (l ∷ [])) r ∙ last_freezes c (froze_by (effect M c l))
  freezes_append (Running s) (k ∷ xs) c l r =
      ap (first_frozen s (froze_by (effect M s k))) (freezes_append (step M s k) xs c l r.1)
      ∙ first_before s (froze_by (effect M s k)) (freezes_from M (step M s k) xs) c.frozen (froze_by (effect M c l))
  freezes_append (Error kind v t) (k ∷ xs) c l r = absurd r

  -- one step more
  pub freezes_more : (xs : List (Label E)) (c : State S E L) (l : Label E) → Reaches M xs c → freeze_order M (xs ++ l ∷ []) ≡ more_frozen (freeze_order M xs) c.frozen (froze_by (effect M c l))
  freezes_more xs c l r = freezes_append (Running (start M)) xs c l r
