-- What comes of an answer and of its writing.
use Rattle.std.proofs.Common.{◌≡◌, ℕ, Bool, true, false, List, Option, subst}
use Rattle.std.specs.Prelude.{IfSome}
use Rattle.std.proofs.KnownBytes.{Keeps-refl}
use Rattle.lvish_pointing.specs.Answers.{IsRefused}
use Rattle.lvish_pointing.specs.declared.fault.PointFault.{PointFault}
use Rattle.lvish_pointing.specs.declared.fault.PointFault.TheVariants as fault
use Rattle.lvish_points_to.specs.declared.performing.Outcome.{Outcome}
use Rattle.lvish_points_to.specs.declared.performing.Outcome.TheVariants.{Whole, Stopped, Line, Unreadable, Empty, Erring, Memory, NoThread, Unwritten}
use Rattle.lvish_points_to.specs.Performs.{IsAnswerTo, Performs, IsWritten, outcome_of}

module _ (given : Option (List ℕ)) (old : Option (List ℕ)) where
  pub refused : (input : List ℕ) → IfSome given (λ bytes. input ≡ bytes) → (why : PointFault) → IsRefused input why → Performs given old old (outcome_of why)
  refused input read (fault.Line number expected) is = (input, read, is, Keeps-refl old)
  refused input read fault.Empty is = (input, read, is, Keeps-refl old)
  refused input read (fault.Erring kind) is = Keeps-refl old
  refused input read fault.Memory is = Keeps-refl old
  refused input read fault.NoThread is = Keeps-refl old

  same_answer : (text : List ℕ) (a b : Bool) (m n : ℕ) → a ≡ b → m ≡ n → IsAnswerTo given a text m → IsAnswerTo given b text n
  same_answer text a b m n e f is = subst (λ w. IsAnswerTo given w text n) e (subst (λ k. IsAnswerTo given a text k) f is)

  pub written : (new : Option (List ℕ)) (is_whole : Bool) (text : List ℕ) (count : ℕ)
      → IsAnswerTo given is_whole text count → (outcome : Outcome) → IsWritten old new is_whole text count outcome
      → Performs given old new outcome
  written new is_whole text count is (Whole stats) h = (text, same_answer text is_whole true count stats.facts h.0 h.1 is, h.2)
  written new is_whole text count is (Stopped stats) h = (text, same_answer text is_whole false count stats.facts h.0 h.1 is, h.2)
  written new is_whole text count is Unwritten h = (is_whole, text, count, is, h)
  written new is_whole text count is (Line number expected) h = absurd h
  written new is_whole text count is Unreadable h = absurd h
  written new is_whole text count is Empty h = absurd h
  written new is_whole text count is Erring h = absurd h
  written new is_whole text count is Memory h = absurd h
  written new is_whole text count is NoThread h = absurd h
