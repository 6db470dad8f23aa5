-- The rule of one deque.
use Rattle.std.specs.Prelude.{◌≡◌, ℕ, ◌+◌, List, [], ◌++◌, All, drop, sum_by}
use mathlib.Core.Option.{some}
use lib.ListN.{get_elem?}
use Rattle.lvish_deal.specs.declared.log.Log.{Log}
use Rattle.lvish_deal.specs.Order.{IsSubsequence}

-- the log with these parts, what was sent, got, and got by those that joined
abbrev pub log : {T : Type 0} → ℕ → List T → List T → List (List T) → Log T
log n sent got joined = record { parts = n; sent = sent; got = got; joined = joined }

module _ {T : Type 0} where
  -- its share of the right to take
  abbrev pub parts : Log T → ℕ
  parts v = v.parts

  -- what the pass has taken
  abbrev pub got : Log T → List T
  got v = v.got

  -- what the pass has taken, and those that joined it, added up
  abbrev pub weight : (T → ℕ) → Log T → ℕ
  weight h v = sum_by h v.got + sum_by (sum_by h) v.joined

  -- the pass knows of the items that left: those that it took left in that order, and with no part it took none
  abbrev pub Fits : List T → Log T → Type 0
  Fits out v = IsSubsequence v.got out × All (λ r. IsSubsequence r out) v.joined × (v.parts ≡ 0 → (v.got ≡ []) × (v.joined ≡ []))

  -- `out` are the items that left. The pass 0 has pushed all.
  pub record Dealt (items : List T) (views : List (Log T)) : Type 0 where
    pub out : List T
    pub whole : sum_by parts views ≡ 9
    pub often : (h : T → ℕ) → sum_by (weight h) views ≡ sum_by h out
    pub pushed : (v : Log T) → get_elem? views 0 ≡ some v → v.sent ≡ out ++ items
    pub each : (port : ℕ) (v : Log T) → get_elem? views port ≡ some v → Fits out v

  -- what a pass with every part learns
  abbrev pub Told : Log T → List T → Type 0
  Told v items = (out : List T) × (v.sent ≡ out ++ items) × ((h : T → ℕ) → weight h v ≡ sum_by h out) × Fits out v

  -- what a pass with every part knows where no other joined it: it took what left, and these items are there
  abbrev pub TookAlone : Log T → List T → Type 0
  TookAlone v items = v.parts ≡ 9 → v.joined ≡ [] → v.sent ≡ v.got ++ items

  -- of all that was pushed, what is not known to be taken
  abbrev pub rest_of : Log T → List T
  rest_of v = drop (weight (λ _. 1) v) v.sent
