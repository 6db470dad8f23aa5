-- The checks one after the other.
use Rattle.std.proofs.Common.{◌≡◌, ℕ, zero, suc, Bool, true, false, List, [], ◌∷◌, ◌++◌, map, Option, Some, None, Bor, refl, arith}
use Rattle.std.specs.Prelude.{slice_get}
use Rattle.std.specs.List.{AllByRecursion}
use Rattle.std.specs.Option.{option_map_or}
use Rattle.lvish_checks.specs.Vocabulary.{TooLong, NotAscii, BadLine, BadNumber, DoubleName, UnknownName, WrongKind, WrongCount, OpenBlock, Compatible, NoMain, TooMany, Memory, Word, Line}
use Rattle.lvish_checks.specs.Checks.{Parts, Passes, line_fails, on_whole, IsLowest, IsAccepted}

pub whole_passes : (b : Bool) → b ≡ false → (l : ℕ) → on_whole b l ≡ false
whole_passes b e zero = e
whole_passes b e (suc l) = refl

pub whole_lowest : (b : Bool) → b ≡ true → IsLowest (on_whole b) 0
whole_lowest b e = record { at = e; below = λ m lt. absurd (omega arith) }

-- the parts of a text, as its check has them
abbrev pub parts_read : List ℕ → List (Bor (List ℕ)) → List (List Word) → List Line → Parts
parts_read bytes lines words said = record { bytes = bytes; lines = map (λ w. w.now) lines; words = words; said = said }

pub one_more : {X : Type 0} (P : X → Type 0) (xs : List X) (x : X) → AllByRecursion P xs → P x → AllByRecursion P (xs ++ x ∷ [])
one_more P [] x all h = (h, tt)
one_more P (y ∷ xs) x all h = (all.0, one_more P xs x all.1 h)

-- no check fails where memory is refused
pub memory_passes : (p : Parts) → Passes p Memory
memory_passes p zero = refl
memory_passes p (suc k) = on_none (slice_get p.said k)
  where
    on_none : (o : Option Line) → option_map_or (line_fails Memory p.said k) o false ≡ false
    on_none None = refl
    on_none (Some l) = refl

pub accepted_by : (p : Parts) → Passes p TooLong → Passes p NotAscii → Passes p BadLine → Passes p BadNumber → Passes p DoubleName → Passes p UnknownName → Passes p WrongKind → Passes p WrongCount → Passes p OpenBlock → Passes p Compatible → Passes p NoMain → Passes p TooMany → IsAccepted p
accepted_by p p0 p1 p2 p3 p4 p5 p6 p7 p8 p9 p10 p11 = (p0, (p1, (p2, (p3, (p4, (p5, (p6, (p7, (p8, (p9, (p10, (p11, tt))))))))))))

-- what an accepted text's lines keep to
pub lines_well_placed : (p : Parts) → IsAccepted p → Passes p BadLine
lines_well_placed p accepted = accepted.1.1.0

pub blocks_closed : (p : Parts) → IsAccepted p → Passes p OpenBlock
blocks_closed p accepted = accepted.1.1.1.1.1.1.1.1.0
