-- What the explanation of a fault is.
use Rattle.std.specs.Prelude.{◌≡◌, ℕ, List, Option, None, Some}
use Rattle.lvish_syntax.specs.Words.{Word}
use Rattle.lvish_checks.specs.declared.fault.Fault.{Fault}
use Rattle.lvish_checks.specs.declared.fault.Fault.TheVariants.{NotAscii}
use Rattle.lvish_checks.specs.declared.script_fault.ScriptFault.{ScriptFault}
use Rattle.lvish_checks.specs.Text.{lines_of, words_of}
use Rattle.lvish_explain.specs.declared.reason.Reason.{Reason}
use Rattle.lvish_explain.specs.declared.hint.Hint.{Hint}
use Rattle.lvish_explain.specs.declared.hint.Hint.TheVariants.{Near}
use Rattle.lvish_explain.specs.declared.known.Known.{Known}
use Rattle.lvish_explain.specs.declared.mark.Mark.{Mark}
use Rattle.lvish_explain.specs.Reasons.{fault_of}
use Rattle.lvish_explain.specs.Near.{IsNearName}
use Rattle.lvish_explain.specs.Mark.{mark_of, first_foreign}
use Rattle.lvish_explain.specs.Place.{line_at}
use Rattle.lvish_explain.specs.Text.{explanation}

-- under the first byte that no script has, or under a word of the line
abbrev pub mark_on : Fault → List ℕ → List Word → ℕ → Option Mark
mark_on NotAscii line words k = first_foreign 1 line
mark_on f line words k = mark_of line words k

-- the declared name that is near, or else what was found
abbrev pub hint_with : Option Known → Hint → Hint
hint_with None hint = hint
hint_with (Some k) hint = Near k

-- its text tells a reason of the fault at a word of its line, and the nearest declared name where one was meant
pub record IsExplained (file script : List ℕ) (e : ScriptFault) (told : List ℕ) : Type 0 where
  pub reason : Reason
  pub word : ℕ
  pub near : Option Known
  pub hint : Hint
  pub fault : fault_of reason ≡ e.fault
  pub nearest : IsNearName reason (words_of (line_at (lines_of script) e.line)) word (lines_of script) e.line near
  pub is : told ≡ explanation file e.line (line_at (lines_of script) e.line) (mark_on e.fault (line_at (lines_of script) e.line) (words_of (line_at (lines_of script) e.line)) word) reason (hint_with near hint)
