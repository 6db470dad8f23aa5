-- How many tasks run in each pool.
use Rattle.std.specs.Prelude.{◌≡◌, ◌↔◌, ◌<◌, ◌≤◌, ◌+◌, ◌-◌, ℕ, Bool, false, List, [], Option, Some, None, All, length, nat_eq, if◌then◌else◌, option_and_then, option_map, slice_get, slice_index, slice_set}
use Rattle.lvish_calculus.specs.declared.label.Label.{Label}
use Rattle.lvish_calculus.specs.Machine.{Machine, IsOf}
use Rattle.lvish_calculus.specs.Calculus.{Task, Live, Ended, State, IsLive, IsIn, IsQuiescent, start}
use Rattle.lvish_names.specs.Names.{Name, handed, Handler, handler_of}
use Rattle.lvish_calculus.specs.Handing.{IsAmong, NoRepeats}
use Rattle.lvish_variable.specs.Variable.{VariableView as Variable}
use Rattle.lvish_handlers.specs.declared.held.Held.{Held}
use Rattle.lvish_handlers.specs.Handlers.{HandlersView as Handlers}
use Rattle.lvish_picture.specs.Picture.{Table, table_picture, IsPictured}
use Rattle.lvish_picture.specs.Steps.{IsPlainStep, IsHandStep, IsTableBegun}

-- the pool of a task: that of the handler to which its name leads
abbrev pub pool_of : {S E L : Type 0} → State S E L → Name E → Option ℕ
pool_of c t = option_and_then (λ h. option_map (λ post. post.pool) (c.handlers h)) (handler_of t)

-- n live tasks are in the pool: n is the length of a list, without repeats, of exactly their names
pub record PoolHasRunning {S E L : Type 0} (c : State S E L) (pool n : ℕ) : Type 0 where
  pub names : List (Name E)
  pub once : NoRepeats names
  pub just : (t : Name E) → IsAmong t names ↔ (IsLive (c.tasks t) × (pool_of c t ≡ Some pool))
  pub count : length names ≡ n

module _ {S E R A L : Type 0} (M : Machine S E R A L) where
  -- each variable counts the tasks that run in its pools
  abbrev pub CountsRunning : Table S E L → Type 0
  CountsRunning c = (v : ℕ) (hs : Handlers E) (p : ℕ) → slice_get c.handlers v ≡ Some hs → M.pool_variable p ≡ Some v → (p < length hs.running) × PoolHasRunning (table_picture M c) p (slice_index hs.running p)

-- whether this is the pool, of a task that may be in none
abbrev pub is_this_pool : Option ℕ → ℕ → Bool
is_this_pool None p = false
is_this_pool (Some q) p = nat_eq q p

-- 1 where this is the task's pool, else 0
abbrev pub one_in : {S E L : Type 0} → State S E L → Name E → ℕ → ℕ
one_in c t p = if is_this_pool (pool_of c t) p then 1 else 0

-- how many tasks of the pool start, where this one is made
abbrev pub starts : {S E L : Type 0} → State S E L → Option (Name E × Task L) → ℕ → ℕ
starts c None p = 0
starts c (Some (t, k)) p = one_in c t p

-- how many tasks of the pool end, where the acting task goes on so
abbrev pub ends : {S E L : Type 0} → State S E L → Option (Name E × Task L) → ℕ → ℕ
ends c (Some (t, Ended)) p = one_in c t p
ends c _ p = 0

module _ {S E R A L : Type 0} (M : Machine S E R A L) where
  -- from the old counts to the new ones: the made task's pool has one more, and an ended task's pool one less
  abbrev pub AreCounts : State S E L → Option (Name E × Task L) → Option (Name E × Task L) → List (Handlers E) → List (Handlers E) → Type 0
  AreCounts c own made old new = (v : ℕ) (ks : Handlers E) (p : ℕ) → slice_get new v ≡ Some ks → M.pool_variable p ≡ Some v
      → (hs : Handlers E) × (slice_get old v ≡ Some hs) × (length ks.running ≡ length hs.running) × (slice_index ks.running p ≡ slice_index hs.running p + starts c made p - ends c own p)

-- what a task does keeps the counts, where it is of this kind
abbrev pub ActCounted : {S E R A L : Type 0} → (Machine S E R A L → Table S E L → Name E → Table S E L → Type 0) → Machine S E R A L → Type 0
ActCounted {S} {E} {R} {A} {L} IsOfKind M = (xs : List (Label E)) (c d : Table S E L) (t : Name E) → IsPictured M c xs → CountsRunning M c → IsOfKind M c t d → CountsRunning M d

module _ {S E R A L : Type 0} (M : Machine S E R A L) where
  -- a get, a fork, a pause or an end keeps the counts, where they follow the tasks that it makes and ends
  abbrev pub PlainCounted : Type 0
  PlainCounted = (xs : List (Label E)) (c d : Table S E L) (t : Name E) → IsPictured M c xs → CountsRunning M c → (s : IsPlainStep M c t d)
      → AreCounts M (table_picture M c) s.own s.made c.handlers d.handlers → CountsRunning M d

  -- a handing keeps the counts, where they follow the task that starts
  abbrev pub HandCounted : Type 0
  HandCounted = (xs : List (Label E)) (c d : Table S E L) (h : Handler E) (e : E) → IsPictured M c xs → CountsRunning M c → (s : IsHandStep M c h e d)
      → AreCounts M (table_picture M c) None (Some (handed h.adder h.number e, Live (M.start_handler s.advanced.handler.procedure e) 0 0 0)) c.handlers d.handlers → CountsRunning M d

  -- a freeze can be made exactly where v's cursors are at the log's end and the counts of the pools are 0
  abbrev pub FreezesByCounts : Type 0
  FreezesByCounts = (xs : List (Label E)) (c : Table S E L) (v : ℕ) (x : Variable S E) (hs : Handlers E) (pools : List ℕ) → IsPictured M c xs → CountsRunning M c
      → slice_get c.variables v ≡ Some x → slice_get c.handlers v ≡ Some hs → IsOf M pools v
      → (All (λ h. h.handed ≡ length x.log) hs.held × All (λ p. slice_index hs.running p ≡ 0) pools) ↔ IsQuiescent M (table_picture M c) v pools

  -- the counts of the pools are 0 exactly where every task of these pools has ended
  abbrev pub EndedByCounts : Type 0
  EndedByCounts = (c : Table S E L) (v : ℕ) (hs : Handlers E) (pools : List ℕ) → CountsRunning M c → slice_get c.handlers v ≡ Some hs → IsOf M pools v
      → All (λ p. slice_index hs.running p ≡ 0) pools ↔ ((t : Name E) → IsIn (table_picture M c) t pools → IsLive ((table_picture M c).tasks t) → ⊥)

  -- a table at the start stands for the calculus's start, which the empty run leads to, and its counts are right
  abbrev pub BegunIsPictured : Type 0
  BegunIsPictured = (pools : ℕ) (c : Table S E L) → IsTableBegun M pools c → (table_picture M c ≡ start M) × IsPictured M c [] × CountsRunning M c

  -- no more tasks run in a pool than steps were made
  abbrev pub FewRun : Type 0
  FewRun = (xs : List (Label E)) (c : Table S E L) (p n : ℕ) → IsPictured M c xs → PoolHasRunning (table_picture M c) p n → n ≤ length xs

  -- where a live task is in a pool, some task runs in it
  abbrev pub SomeRun : Type 0
  SomeRun = (c : Table S E L) (t : Name E) (p n : ℕ) → PoolHasRunning (table_picture M c) p n → IsLive ((table_picture M c).tasks t) → pool_of (table_picture M c) t ≡ Some p → 0 < n

  -- a task that starts in the pool q of v is followed where v counts one more in q
  abbrev pub StartIsFollowed : Type 0
  StartIsFollowed = (c : State S E L) (own : Option (Name E × Task L)) (t : Name E) (k : Task L) (old : List (Handlers E)) (v : ℕ) (hs : Handlers E) (held : List (Held E)) (q : ℕ)
      → pool_of c t ≡ Some q → M.pool_variable q ≡ Some v → slice_get old v ≡ Some hs → q < length hs.running → ((p : ℕ) → ends c own p ≡ 0)
      → AreCounts M c own (Some (t, k)) old (slice_set old v (record { held = held; running = slice_set hs.running q (slice_index hs.running q + 1) }))

  -- a task that ends in the pool q of v is followed where v counts one less in q
  abbrev pub EndIsFollowed : Type 0
  EndIsFollowed = (c : State S E L) (t : Name E) (old : List (Handlers E)) (v : ℕ) (hs : Handlers E) (held : List (Held E)) (q : ℕ)
      → pool_of c t ≡ Some q → M.pool_variable q ≡ Some v → slice_get old v ≡ Some hs → q < length hs.running
      → AreCounts M c (Some (t, Ended)) None old (slice_set old v (record { held = held; running = slice_set hs.running q (slice_index hs.running q - 1) }))

  -- where no task starts or ends in a pool, the counts stay
  abbrev pub RestIsFollowed : Type 0
  RestIsFollowed = (c : State S E L) (own made : Option (Name E × Task L)) (old : List (Handlers E)) → ((p : ℕ) → starts c made p ≡ 0) → ((p : ℕ) → ends c own p ≡ 0) → AreCounts M c own made old old
