-- What a task does by which a run errs.
use Rattle.std.specs.Prelude.{ℕ, ℤ, List, ◌++◌, codes}
use Rattle.std.specs.Fmt.{signed_decimal}
use Rattle.lvish_syntax.specs.declared.operator.Operator.{Operator}
use Rattle.lvish_syntax.specs.declared.operator.Operator.TheVariants.{Add, Subtract, Multiply, Divide, Remainder, Less, Equal}
use Rattle.lvish_calculus.specs.declared.request.ErrorKind.{ErrorKind}
use Rattle.lvish_calculus.specs.declared.request.ErrorKind.TheVariants as error
use Rattle.lvish_outcome.specs.declared.spot.Spot.{Spot}
use Rattle.lvish_outcome.specs.declared.trouble.Sum.{Sum}
use Rattle.lvish_outcome.specs.declared.trouble.Trouble.{Trouble}
use Rattle.lvish_outcome.specs.declared.trouble.Trouble.TheVariants.{Other, Total, Frozen, Late, Overflow, Zero, Range, Frames, Parts}
use Rattle.lvish_outcome.specs.Spot.{spot_text}

-- the kind of error that it is
abbrev pub kind_of : Trouble → ErrorKind
kind_of (Other s n m) = error.Conflict
kind_of (Total s n) = error.Conflict
kind_of (Frozen s n) = error.Frozen
kind_of (Late s) = error.Late
kind_of (Overflow m) = error.Overflow
kind_of (Zero m) = error.Zero
kind_of (Range s n h) = error.Range
kind_of Frames = error.Deep
kind_of Parts = error.Deep

abbrev pub operator_sign : Operator → List ℕ
operator_sign Add = codes "+"
operator_sign Subtract = codes "-"
operator_sign Multiply = codes "*"
operator_sign Divide = codes "/"
operator_sign Remainder = codes "%"
operator_sign Less = codes "<"
operator_sign Equal = codes "="

-- two numbers that are combined, and why that fails
abbrev pub sum_text : Sum → List ℕ → List ℕ
sum_text s fails = codes "computes " ++ (signed_decimal s.left ++ (codes " " ++ (operator_sign s.operator ++ (codes " " ++ (signed_decimal s.right ++ (codes ", " ++ fails))))))

-- a number is put where another one is
abbrev pub other_text : Spot → ℤ → ℤ → List ℕ
other_text s n there = codes "puts " ++ (signed_decimal n ++ (codes " into " ++ (spot_text s ++ (codes ", where " ++ (signed_decimal there ++ codes " is")))))

-- the total of a tally would be too great
abbrev pub total_text : Spot → ℤ → List ℕ
total_text s n = codes "puts " ++ (signed_decimal n ++ (codes " into " ++ (spot_text s ++ codes ", and the total would be above 10000")))

-- a number is put into what is frozen
abbrev pub frozen_text : Spot → ℤ → List ℕ
frozen_text s n = codes "puts " ++ (signed_decimal n ++ (codes " into " ++ (spot_text s ++ codes ", which is frozen")))

-- a handler is added to what is frozen
abbrev pub late_text : Spot → List ℕ
late_text s = codes "adds a handler to " ++ (spot_text s ++ codes ", which is frozen")

-- that only numbers from 0 to the highest are taken
abbrev pub takes_text : ℤ → List ℕ
takes_text highest = codes "which takes 0 to " ++ signed_decimal highest

-- a number isn't within bounds
abbrev pub range_text : Spot → ℤ → ℤ → List ℕ
range_text s n highest = codes "has " ++ (signed_decimal n ++ (codes " for " ++ (spot_text s ++ (codes ", " ++ takes_text highest))))

-- what the task does, behind its name
abbrev pub trouble_text : Trouble → List ℕ
trouble_text (Other s n there) = other_text s n there
trouble_text (Total s n) = total_text s n
trouble_text (Frozen s n) = frozen_text s n
trouble_text (Late s) = late_text s
trouble_text (Overflow m) = sum_text m (codes "which is outside 64 bits")
trouble_text (Zero m) = sum_text m (codes "where the divisor is 0")
trouble_text (Range s n highest) = range_text s n highest
trouble_text Frames = codes "calls in its 64th frame, which is the last"
trouble_text Parts = codes "starts a task whose name would have 65 parts"
