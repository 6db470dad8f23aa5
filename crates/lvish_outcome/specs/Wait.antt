-- What a blocked task waits for, in words.
use Rattle.std.specs.Prelude.{ℕ, ℤ, List, [], ◌++◌, ◌==◌, codes, if◌then◌else◌}
use Rattle.std.specs.Fmt.{decimal, signed_decimal}
use Rattle.lvish_outcome.specs.declared.spot.Spot.{Spot}
use Rattle.lvish_outcome.specs.declared.wait.Wait.{Wait}
use Rattle.lvish_outcome.specs.declared.wait.Wait.TheVariants.{Any, In, Has, Least, Total, Pools, OwnPool, Handlers, Other}
use Rattle.lvish_outcome.specs.Spot.{spot_text}

-- what stands before a spot, the spot, and what it comes to
abbrev pub until_text : List ℕ → Spot → List ℕ → List ℕ
until_text until s is = until ++ (spot_text s ++ is)

-- the same with a number
abbrev pub level_text : List ℕ → Spot → List ℕ → ℤ → List ℕ
level_text until s is n = until ++ (spot_text s ++ (is ++ signed_decimal n))

-- that so many tasks have ended
abbrev pub has_ended : ℕ → List ℕ
has_ended n = if n == 1 then codes " task of these pools has ended" else codes " tasks of these pools have ended"

-- how many tasks run in pools, and which
abbrev pub pools_text : ℕ → List ℕ → List ℕ
pools_text n which = codes "until " ++ (decimal n ++ (has_ended n ++ which))

-- until when it waits
abbrev pub wait_text : Wait → List ℕ
wait_text (Any s) = until_text (codes "until ") s (codes " has a number")
wait_text (In s) = until_text (codes "until ") s (codes " has one of these numbers")
wait_text (Has s n) = level_text (codes "until ") s (codes " has ") n
wait_text (Least s n) = level_text (codes "until ") s (codes " is at least ") n
wait_text (Total s n) = level_text (codes "until the total of ") s (codes " is at least ") n
wait_text (Pools n) = pools_text n []
wait_text (OwnPool n) = pools_text n (codes ", of which it is one")
wait_text (Handlers s) = until_text (codes "until handlers were handed all of ") s []
wait_text Other = codes "until this line can go on"
