-- Freezes that come once all have ended that could write to what is frozen.
use Rattle.std.specs.Prelude.{◌≡◌, ℕ, true, List, [], ◌∷◌, Some, Contains}
use Rattle.lvish_names.specs.Names.{Name}
use Rattle.lvish_calculus.specs.declared.label.Label.{Label}
use Rattle.lvish_calculus.specs.declared.request.Request.{Request}
use Rattle.lvish_calculus.specs.declared.request.Request.TheVariants.{Put, Add, Freeze}
use Rattle.lvish_calculus.specs.Machine.{Machine}
use Rattle.lvish_calculus.specs.Calculus.{State, Live, IsIn}
use Rattle.lvish_calculus.specs.Laws.{Reaches}

module _ {S E R A L : Type 0} (M : Machine S E R A L) where
  -- the request puts into the variable, or adds a handler to it
  abbrev pub Writes : Request S R L → ℕ → Type 0
  Writes (Put w d) v = w ≡ v
  Writes (Add pool procedure) v = M.pool_variable pool ≡ Some v
  Writes r v = ⊥

  -- the task belongs to a pool for which each freeze of a variable waits that is frozen already
  pub record IsOver (waited : ℕ → List ℕ) (c : State S E L) (t : Name E) : Type 0 where
    pub variable : ℕ
    pub frozen : c.frozen variable ≡ true
    pub pool : ℕ
    pub listed : Contains (waited variable) pool
    pub in_pool : IsIn c t (pool ∷ [])

  -- each freeze of a variable waits for these pools of it, and whoever asks to write to a frozen variable belongs to a pool that was waited for
  pub record IsStratified (waited : ℕ → List ℕ) : Type 0 where
    pub waits : (xs : List (Label E)) (c : State S E L) → Reaches M xs c → (t : Name E) (l : L) (f a p v : ℕ) (pools : List ℕ) → c.tasks t ≡ Live l f a p → M.request l ≡ Freeze v pools
        → (q : ℕ) → Contains (waited v) q → Contains pools q
    pub writers : (xs : List (Label E)) (c : State S E L) → Reaches M xs c → (t : Name E) (l : L) (f a p v : ℕ) → c.tasks t ≡ Live l f a p → Writes (M.request l) v → c.frozen v ≡ true → IsOver waited c t
