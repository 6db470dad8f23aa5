-- What is answered of a script that is checked.
use Rattle.std.specs.Prelude.{◌≡◌, ℕ, Bool, true, false, List, [], ◌++◌, Option, Some, None}
use Rattle.lvish_syntax.specs.declared.script.Script.{Script}
use Rattle.lvish_alike.specs.Alike.{ShowsAlike}
use Rattle.lvish_json.specs.declared.alike.Alike.{Alike}
use Rattle.lvish_json.specs.declared.alike.Alike.TheVariants.{Always, Ends, Unknown}
use Rattle.lvish_json.specs.Answers.{check_value}
use Rattle.lvish_json.specs.Shape.{IsLineOf}
use Rattle.lvish_run.specs.declared.scripts.RunMeaning as runs
use Rattle.lvish_cli.specs.declared.order.CheckOrder.{CheckOrder}
use Rattle.lvish_cli.specs.declared.status.Status.{Status}
use Rattle.lvish_cli.specs.declared.status.Status.TheVariants.{Done}
use Rattle.lvish_cli.specs.Lines.{ok_text, bound_text, alike_text}

-- where it is asked for, after how many steps all runs of the script have ended
abbrev pub IsEndsKnown : (Script → ℕ → Option ℕ → Type 0) → Script → Bool → ℕ → Option (Option ℕ) → Type 0
IsEndsKnown is_bound script false budget known = known ≡ None
IsEndsKnown is_bound script true budget None = ⊥
IsEndsKnown is_bound script true budget (Some bound) = is_bound script budget bound

-- after how many steps all its runs come to the same end, or where that isn't known, whether all ends without an error are the same
abbrev pub IsAlikeOf : (Script → ℕ → Option ℕ → Type 0) → Script → ℕ → Alike → Type 0
IsAlikeOf is_alike_bound script budget (Always n) = is_alike_bound script budget (Some n)
IsAlikeOf is_alike_bound script budget Ends = is_alike_bound script budget None × ShowsAlike script true
IsAlikeOf is_alike_bound script budget Unknown = is_alike_bound script budget None × ShowsAlike script false

-- the same, where it is asked for
abbrev pub IsAlikeKnown : (Script → ℕ → Option ℕ → Type 0) → Script → Bool → ℕ → Option Alike → Type 0
IsAlikeKnown is_alike_bound script false budget known = known ≡ None
IsAlikeKnown is_alike_bound script true budget None = ⊥
IsAlikeKnown is_alike_bound script true budget (Some alike) = IsAlikeOf is_alike_bound script budget alike

-- the line on the runs of a script, where it is asked for
abbrev pub ends_line : Option (Option ℕ) → List ℕ
ends_line None = []
ends_line (Some bound) = bound_text bound

-- the line on its ends, where it is asked for
abbrev pub alike_line : Option Alike → List ℕ
alike_line None = []
alike_line (Some alike) = alike_text alike

-- what is printed of a script
abbrev pub checked_text : Option (Option ℕ) → Option Alike → List ℕ
checked_text ends alike = ok_text ++ ends_line ends ++ alike_line alike

-- the same, or where it is asked for, as JSON
abbrev pub IsCheckText : (json : Bool) → Option (Option ℕ) → Option Alike → List ℕ → Type 0
IsCheckText false ends alike text = text ≡ checked_text ends alike
IsCheckText true ends alike text = IsLineOf (check_value ends alike) text

-- the answer to a script that is checked
abbrev pub IsCheckAnswer : runs.Ghosts Script → Script → CheckOrder → Status → List ℕ → Type 0
IsCheckAnswer of script asked status text = (status ≡ Done)
    × ((ends : Option (Option ℕ)) × (alike : Option Alike) × IsEndsKnown of.is_bound script asked.ends asked.budget ends × IsAlikeKnown of.is_alike_bound script asked.alike asked.budget alike × IsCheckText asked.json ends alike text)
