-- Which procedures tasks can run.
use Rattle.std.specs.Prelude.{◌≡◌, ◌⊎◌, ℕ, List}
use Rattle.lvish_calculus.specs.Handing.{IsAmong}

-- from a one comes to this procedure, by procedures that name one another
pub data Leads (names : ℕ → List ℕ) (a : ℕ) : ℕ → Type 0 where
  at_once : Leads names a a
  further : {j k : ℕ} → Leads names a j → IsAmong k (names j) → Leads names a k

-- what the procedures name, have run by other tasks and freeze, and which of them is `main`
pub record Outline : Type 0 where
  pub main : ℕ
  pub names : ℕ → List ℕ
  pub starts : ℕ → List ℕ
  pub freezes : ℕ → List ℕ

module _ (o : Outline) where
  -- a task can run the procedure
  abbrev pub CanRun : ℕ → Type 0
  CanRun k = Leads o.names o.main k

  -- a task other than main can run it
  abbrev pub OtherCanRun : ℕ → Type 0
  OtherCanRun k = (i : ℕ) × (j : ℕ) × CanRun i × IsAmong j (o.starts i) × Leads o.names j k

  -- tasks freeze one variable at most
  abbrev pub FreezesOne : Type 0
  FreezesOne = (j k v w : ℕ) → CanRun j → CanRun k → IsAmong v (o.freezes j) → IsAmong w (o.freezes k) → v ≡ w

  -- no task but main freezes
  abbrev pub MainFreezes : Type 0
  MainFreezes = (k v : ℕ) → OtherCanRun k → IsAmong v (o.freezes k) → ⊥

  -- either of the two
  abbrev pub HasOneOrder : Type 0
  HasOneOrder = FreezesOne ⊎ MainFreezes
