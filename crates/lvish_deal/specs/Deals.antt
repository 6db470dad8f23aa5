-- What stands for a deque while the seats are made.
use Rattle.std.specs.Prelude.{◌≡◌, ℕ, ◌+◌, ◌-◌, ◌<◌, ◌≤◌, min, List, [], length, map, slice_index_or}
use Rattle.crossbeam_deque.specs.declared.handles.Worker.{Worker}
use Rattle.crossbeam_deque.specs.Handles.{worker_deque, worker_view, worker_port, worker_flavor, worker_capacity, worker_index}
use Rattle.std.specs.Global.{Global, Vec}
use Rattle.lvish_deal.specs.declared.log.Log.{Log}
use Rattle.lvish_deal.specs.declared.rule.InOrder.{InOrder}
use Rattle.lvish_deal.specs.Rule.{log}
use Rattle.lvish_deal.specs.declared.reach.Reach.{Reach}
use Rattle.lvish_deal.specs.Reaches.{reach_deque, reach_got, HasParts}
use Rattle.lvish_deal.specs.Place.{Deal}

-- the owner's end of a deque
abbrev pub Own : Type 0 → Type 0
Own T = Worker T Global (Log T) InOrder

-- the parts of the owner of the deque k once that many seats have their passes: each took one, except of its own deque
abbrev pub parts_after : ℕ → ℕ → ℕ
parts_after seats k = 9 - seats + min 1 (seats - k)

module _ {T : Type 0} where
  -- an owner that has n parts, and has pushed and taken nothing
  pub record IsNew (n : ℕ) (w : Own T) : Type 0 where
    pub port : worker_port w ≡ 0
    pub flavor : worker_flavor w ≡ 0
    pub view : worker_view w ≡ log n [] [] []
    pub slots : 16 ≤ worker_capacity w
    pub index : worker_index w ≡ 0

  -- the names of the deques
  abbrev pub deques : List (Own T) → Deal
  deques ws = map worker_deque ws

  -- the owners, once that many seats have their passes
  abbrev pub AreCut : ℕ → List (Own T) → Type 0
  AreCut seats ws = (k : ℕ) (w : Own T) → k < length ws → IsNew (parts_after seats k) (slice_index_or ws k w)

  -- what the seat `number` uses to take from each deque, before it took any item
  abbrev pub IsNewRow : Deal → ℕ → Vec (Reach T) → Type 0
  IsNewRow deal number row = (map reach_deque row.items ≡ deal) × (map reach_got row.items ≡ map (λ _. []) deal) × HasParts number row.items

  -- the same of each seat
  abbrev pub AreNewRows : Deal → List (Vec (Reach T)) → Type 0
  AreNewRows deal rows = (k : ℕ) (row : Vec (Reach T)) → k < length rows → IsNewRow deal k (slice_index_or rows k row)
