-- What operators make of numbers of 64 bits.
use Rattle.std.specs.Prelude.{ℤ, pos, ◌+ℤ◌, ◌-ℤ◌, ◌*ℤ◌, int_div, int_rem, int_lt, Bool, true, false, Result, Ok, Err, if◌then◌else◌}
use Rattle.std.specs.Ordering.{int_eq}
use Rattle.lvish_syntax.specs.Written.{is_within}
use Rattle.lvish_syntax.specs.declared.operator.Operator.{Operator}
use Rattle.lvish_syntax.specs.declared.operator.Operator.TheVariants.{Add, Subtract, Multiply, Divide, Remainder, Less, Equal}
use Rattle.lvish_calculus.specs.declared.request.ErrorKind.{ErrorKind}
use Rattle.lvish_calculus.specs.declared.request.ErrorKind.TheVariants.{Overflow, Zero}

-- the number, unless it lies outside
abbrev pub fitting : ℤ → Result ℤ ErrorKind
fitting z = if is_within z then Ok z else Err Overflow

-- by a divisor that isn't 0: a result, where the quotient lies within 64 bits
abbrev pub dividing : ℤ → ℤ → ℤ → Result ℤ ErrorKind
dividing a b z = if int_eq b (pos 0) then Err Zero else if is_within (int_div a b) then Ok z else Err Overflow

-- 1 where it is true, and 0 where it isn't
abbrev pub truth : Bool → ℤ
truth b = if b then pos 1 else pos 0

-- what an operator makes of two numbers, or how it fails
abbrev pub combined : Operator → ℤ → ℤ → Result ℤ ErrorKind
combined Add a b = fitting (a +ℤ b)
combined Subtract a b = fitting (a -ℤ b)
combined Multiply a b = fitting (a *ℤ b)
combined Divide a b = dividing a b (int_div a b)
combined Remainder a b = dividing a b (int_rem a b)
combined Less a b = Ok (truth (int_lt a b))
combined Equal a b = Ok (truth (int_eq a b))

-- whether an operator makes a sum, a difference or a product
abbrev pub accumulates : Operator → Bool
accumulates Add = true
accumulates Subtract = true
accumulates Multiply = true
accumulates o = false

-- whether an operator compares
abbrev pub compares : Operator → Bool
compares Less = true
compares Equal = true
compares o = false
