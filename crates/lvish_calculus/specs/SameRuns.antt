-- Two programs over one lattice that do the same, with local states of different forms.
use Rattle.std.specs.Prelude.{◌≡◌, ℕ, List}
use Rattle.lvish_calculus.specs.Machine.{Machine, Request, Put, Get, Fork, Add, Freeze, Pause, End, Fault, Reply}
use Rattle.lvish_calculus.specs.Program.{Functions, IsReplyTo}
use Rattle.lvish_calculus.specs.Calculus.{Label, Task, Absent, Live, Ended, State, Configuration, Running, Error, IsRun, start}
use Rattle.lvish_names.specs.Names.{Name, Handler}

-- ---- the same, step by step

-- the same request, but that a fork's local states are only related
abbrev pub SameRequest : {S R L K : Type 0} → (L → K → Type 0) → Request S R L → Request S R K → Type 0
SameRequest P (Put v d) (Put w e) = (v ≡ w) × (d ≡ e)
SameRequest P (Get v r) (Get w q) = (v ≡ w) × (r ≡ q)
SameRequest P (Fork l) (Fork m) = P l m
SameRequest P (Add k p) (Add j q) = (k ≡ j) × (p ≡ q)
SameRequest P (Freeze v ks) (Freeze w js) = (v ≡ w) × (ks ≡ js)
SameRequest P Pause Pause = Unit {0}
SameRequest P End End = Unit {0}
SameRequest P (Fault k) (Fault j) = k ≡ j
SameRequest P _ _ = ⊥

-- related local states ask for the same and go on to related ones; Q holds of the procedures that handlers begin
pub record IsMatch {S E R A L K : Type 0} (f : Functions S E R A L) (g : Functions S E R A K) (P : L → K → Type 0) (Q : ℕ → Type 0) : Type 0 where
  pub pools : (p : ℕ) → f.pool_variable p ≡ g.pool_variable p
  pub start : P f.start g.start
  pub start_handler : (procedure : ℕ) (e : E) → Q procedure → P (f.start_handler procedure e) (g.start_handler procedure e)
  pub request : (l : L) (k : K) → P l k → SameRequest P (f.request l) (g.request k)
  pub adds : (l : L) (k : K) → P l k → (pool procedure : ℕ) → f.request l ≡ Add pool procedure → Q procedure
  pub at : (l : L) (k : K) → P l k → P (f.at l) (g.at k)
  pub resume : (l : L) (k : K) (r : Reply S A) → P l k → IsReplyTo (f.request l) r → P (f.resume (f.at l) r) (g.resume (g.at k) r)

-- ---- the same, seen from outside

-- a request without the local state of a fork's child
abbrev pub without_child : {S R L : Type 0} → Request S R L → Request S R (Unit {0})
without_child (Put v d) = Put v d
without_child (Get v r) = Get v r
without_child (Fork l) = Fork tt
without_child (Add k p) = Add k p
without_child (Freeze v ks) = Freeze v ks
without_child Pause = Pause
without_child End = End
without_child (Fault k) = Fault k

-- both absent, both live or both ended; live tasks have the same numbers of forks, adds and puts and the same request, whatever the local state of a fork's child
abbrev pub SameTask : {S E R A L K : Type 0} → Machine S E R A L → Machine S E R A K → Task L → Task K → Type 0
SameTask M N Absent Absent = Unit {0}
SameTask M N (Live l f a p) (Live k g b q) = (without_child (M.request l) ≡ without_child (N.request k)) × (f ≡ g) × (a ≡ b) × (p ≡ q)
SameTask M N Ended Ended = Unit {0}
SameTask M N _ _ = ⊥

-- equal contents, marks, handlers and handed events, and the same tasks under the same names
pub record SameState {S E R A L K : Type 0} (M : Machine S E R A L) (N : Machine S E R A K) (c : State S E L) (d : State S E K) : Type 0 where
  pub content : (v : ℕ) → c.content v ≡ d.content v
  pub frozen : (v : ℕ) → c.frozen v ≡ d.frozen v
  pub tasks : (t : Name E) → SameTask M N (c.tasks t) (d.tasks t)
  pub handlers : (h : Handler E) → c.handlers h ≡ d.handlers h
  pub handed : (h : Handler E) (e : E) → c.handed h e ≡ d.handed h e

-- the same states, or equal errors
abbrev pub SameConfiguration : {S E R A L K : Type 0} → Machine S E R A L → Machine S E R A K → Configuration S E L → Configuration S E K → Type 0
SameConfiguration M N (Running c) (Running d) = SameState M N c d
SameConfiguration M N (Error kind v t) (Error other w u) = (kind ≡ other) × (v ≡ w) × (t ≡ u)
SameConfiguration M N _ _ = ⊥

-- each run of M is one of N: the same labels lead it to the same configuration
abbrev pub RunsAreOf : {S E R A L K : Type 0} → Machine S E R A L → Machine S E R A K → Type 0
RunsAreOf {S} {E} {R} {A} {L} {K} M N = (xs : List (Label E)) (d : Configuration S E L) → IsRun M (Running (start M)) xs d
    → (e : Configuration S E K) × IsRun N (Running (start N)) xs e × SameConfiguration M N d e

-- each run of the one is one of the other
pub record HaveSameRuns {S E R A L K : Type 0} (M : Machine S E R A L) (N : Machine S E R A K) : Type 0 where
  pub pools : (p : ℕ) → M.pool_variable p ≡ N.pool_variable p
  pub there : RunsAreOf M N
  pub back : RunsAreOf N M
