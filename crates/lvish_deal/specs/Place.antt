-- What contracts see of a seat.
use Rattle.std.specs.Prelude.{◌≡◌, ℕ, suc, ◌+◌, ◌<◌, List, [], ◌∷◌, ◌++◌, length, map, All, slice_index_or, sum_by}
use Rattle.std.specs.Global.{Global, Vec}
use Rattle.lvish_deal.specs.Order.{IsSubsequence}

-- the deques of a deal, in the order of their seats
abbrev pub Deal : Type 0
Deal = List ((ℕ × ℕ) × Global)

-- a seat: the deal, its number, what it pushed and popped, and what it stole from each deque, each list in the order of its calls
pub record SeatPlace (T : Type 0) : Type 0 where
  pub deal : Deal
  pub number : ℕ
  pub pushed : List T
  pub popped : List T
  pub stolen : List (List T)

module _ {T : Type 0} where
  -- the seat `number` of a deal, before any of its moves
  abbrev pub IsFresh : Deal → ℕ → SeatPlace T → Type 0
  IsFresh deal number s = (s.deal ≡ deal) × (s.number ≡ number) × (s.pushed ≡ []) × (s.popped ≡ []) × (s.stolen ≡ map (λ _. []) deal)

  -- the same seat of the same deal
  abbrev pub IsSameSeat : SeatPlace T → SeatPlace T → Type 0
  IsSameSeat old new = (new.deal ≡ old.deal) × (new.number ≡ old.number)

  -- what the seat took from the deque `from`
  abbrev pub taken_from : SeatPlace T → ℕ → List T
  taken_from s from = slice_index_or s.stolen from []

  -- the seat is the only one of its deal
  abbrev pub IsAlone : SeatPlace T → Type 0
  IsAlone s = length s.deal ≡ 1

  -- all seats of one deal, in the order of their numbers
  abbrev pub IsWholeDeal : List (SeatPlace T) → Type 0
  IsWholeDeal seats = (deal : Deal) × (0 < length deal) × (length seats ≡ length deal) × ((k : ℕ) (s : SeatPlace T) → k < length seats → ((slice_index_or seats k s).deal ≡ deal) × ((slice_index_or seats k s).number ≡ k))

  -- the seats from the number k on, of a deal of which nothing was pushed
  abbrev pub AreFreshFrom : Deal → ℕ → List (SeatPlace T) → Type 0
  AreFreshFrom deal k [] = k ≡ length deal
  AreFreshFrom deal k (s ∷ ss) = IsFresh deal k s × AreFreshFrom deal (suc k) ss

  -- n seats of one deal, in the order of their numbers, before any move
  abbrev pub IsFreshDeal : ℕ → List (SeatPlace T) → Type 0
  IsFreshDeal n seats = (deal : Deal) × (length deal ≡ n) × AreFreshFrom deal 0 seats

  -- what each seat stole from the deque k
  abbrev pub thefts : ℕ → List (SeatPlace T) → List (List T)
  thefts k seats = map (λ s. taken_from s k) seats

  -- Of all that was pushed, some were taken, and the others are left. What was taken was popped or stolen, as often, and each seat took in that order.
  abbrev pub IsSettled : List T → List T → List (List T) → List T → Type 0
  IsSettled pushed popped stolen left = (taken : List T) × (pushed ≡ taken ++ left)
      × ((h : T → ℕ) → sum_by h popped + sum_by (sum_by h) stolen ≡ sum_by h taken) × IsSubsequence popped taken × All (λ r. IsSubsequence r taken) stolen

  -- `left` is what is left in each deque of the seats
  abbrev pub AreSettled : List (SeatPlace T) → List (Vec T) → Type 0
  AreSettled seats left = (length left ≡ length seats) × ((k : ℕ) (s : SeatPlace T) (l : Vec T) → k < length seats
      → IsSettled (slice_index_or seats k s).pushed (slice_index_or seats k s).popped (thefts k seats) (slice_index_or left k l).items)
