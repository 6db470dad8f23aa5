use Rattle.std.proofs.Common.{◌≡◌, false, take, [], length}
use Rattle.std.specs.Prelude.{filter}
use Rattle.std.specs.List.{list_any}
use Rattle.lvish_checks.specs.Checks.{open_after, is_procedure}
use Rattle.lvish_script.specs.Spells.{says_something}
use Rattle.lvish_script.specs.Nested.{draft_lines, openers, HasNone}
use Rattle.lvish_script.proofs.nest.nest.Given as goal

abbrev pub invariant-loop-line : goal.invariant-loop-line
invariant-loop-line l = record {
  lines : draft_lines l.draft ≡ filter says_something (take (length l.yielded) l.fn.said.items);
  opened : openers l.draft.opened ≡ open_after [] (take (length l.yielded) l.fn.said.items);
  none : list_any is_procedure (take (length l.yielded) l.fn.said.items) ≡ false → HasNone l.draft.procedures.items l.draft.opened;
}
