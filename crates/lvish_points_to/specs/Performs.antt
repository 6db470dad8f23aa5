-- What the program does with a reader and a writer, by what comes of it.
use Rattle.std.specs.Prelude.{◌≡◌, ℕ, Bool, true, false, List, Option, IfSome}
use Rattle.std.specs.Io.KnownBytes.{Appends, Keeps}
use Rattle.lvish_console.specs.Writing.{TakesFront}
use Rattle.lvish_pointing.specs.declared.fault.Expected.{Expected}
use Rattle.lvish_pointing.specs.declared.fault.PointFault.{PointFault}
use Rattle.lvish_pointing.specs.declared.fault.PointFault.TheVariants as fault
use Rattle.lvish_pointing.specs.Facts.{IsAccepted, IsEmpty, IsFirstFault}
use Rattle.lvish_pointing.specs.Answers.{IsAnswer}
use Rattle.lvish_points_to.specs.declared.performing.Outcome.{Outcome}
use Rattle.lvish_points_to.specs.declared.performing.Outcome.TheVariants.{Whole, Stopped, Line, Unreadable, Empty, Erring, Memory, NoThread, Unwritten}

-- the text names as many as are pointed to, and answers the bytes that were read, which are those that the reader gave
pub record IsAnswerTo (given : Option (List ℕ)) (is_whole : Bool) (text : List ℕ) (count : ℕ) : Type 0 where
  pub input : List ℕ
  pub read : IfSome given (λ bytes. input ≡ bytes)
  pub accepted : IsAccepted input
  pub answer : IsAnswer input is_whole text count

module _ (given : Option (List ℕ)) (old new : Option (List ℕ)) where
  -- the answer was written, and nothing else
  abbrev pub Writes : Bool → ℕ → Type 0
  Writes is_whole count = (text : List ℕ) × IsAnswerTo given is_whole text count × Appends old new text

  -- nothing was written, since this is missing on this line of the bytes that were read
  abbrev pub Refuses : ℕ → Expected → Type 0
  Refuses number expected = (input : List ℕ) × IfSome given (λ bytes. input ≡ bytes) × IsFirstFault input number expected × Keeps old new

  -- nothing was written, since the bytes that were read state no fact
  abbrev pub RefusesEmpty : Type 0
  RefusesEmpty = (input : List ℕ) × IfSome given (λ bytes. input ≡ bytes) × IsEmpty input × Keeps old new

  -- from a reader that gives `given`, the writer comes from `old` to `new`
  abbrev pub Performs : Outcome → Type 0
  Performs (Whole stats) = Writes true stats.facts
  Performs (Stopped stats) = Writes false stats.facts
  Performs (Line number expected) = Refuses number expected
  Performs Unreadable = Keeps old new
  Performs Empty = RefusesEmpty
  Performs Erring = Keeps old new
  Performs Memory = Keeps old new
  Performs NoThread = Keeps old new
  Performs Unwritten = (is_whole : Bool) × (text : List ℕ) × (count : ℕ) × IsAnswerTo given is_whole text count × TakesFront old new text

-- ---- its parts

-- what comes of an input without an answer
abbrev pub outcome_of : PointFault → Outcome
outcome_of (fault.Line number expected) = Line number expected
outcome_of fault.Empty = Empty
outcome_of (fault.Erring kind) = Erring
outcome_of fault.Memory = Memory
outcome_of fault.NoThread = NoThread

-- the text was written, and the outcome says whether it is whole, and how many names are pointed to; or a front of it was
abbrev pub IsWritten : Option (List ℕ) → Option (List ℕ) → Bool → List ℕ → ℕ → Outcome → Type 0
IsWritten old new is_whole text count (Whole stats) = (is_whole ≡ true) × (count ≡ stats.facts) × Appends old new text
IsWritten old new is_whole text count (Stopped stats) = (is_whole ≡ false) × (count ≡ stats.facts) × Appends old new text
IsWritten old new is_whole text count Unwritten = TakesFront old new text
IsWritten old new is_whole text count outcome = ⊥
