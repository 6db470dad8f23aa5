-- Where instructions lead.
use Rattle.std.specs.Prelude.{◌≡◌, ℕ, ◌+◌, ◌<◌, ◌^◌, true, List, length, Some}
use Rattle.std.specs.List.{slice_get}
use Rattle.lvish_task.specs.Vocabulary.{Instruction, SkipIfZero, GoOn}
use Rattle.lvish_code.specs.Sound.{lands}

-- each jump leads to an instruction
abbrev pub JumpsStay : List Instruction → Type 0
JumpsStay is = (place n : ℕ) → slice_get is place ≡ Some (GoOn n) → place + 1 + n < length is

-- each instruction leads to instructions
abbrev pub AllLand : List Instruction → Type 0
AllLand is = (place : ℕ) (i : Instruction) → slice_get is place ≡ Some i → lands (length is) place i ≡ true

-- the places to which an instruction leads are numbers of 64 bits
abbrev pub HasPlaces : ℕ → Instruction → Type 0
HasPlaces place (SkipIfZero a n) = place + 1 + n < 2 ^ 64
HasPlaces place (GoOn n) = place + 1 + n < 2 ^ 64
HasPlaces place i = place + 1 < 2 ^ 64
