use Rattle.std.proofs.Common.{◌≡◌, ◌++◌, ◌≤◌, length, map, drop}
use Rattle.std.specs.List.{flat_map}
use Rattle.lvish_syntax.specs.declared.limits.TheConstants.{MOST_BYTES}
use Rattle.lvish_format.specs.Format.{ended, formatted_lines}
use Rattle.lvish_format.proofs.format.format_script.Given as goal

-- what is written, and what is still to be written of the lines left
abbrev pub invariant-loop-line : goal.invariant-loop-line
invariant-loop-line l = record {
  open_blocks : l.depth ≤ l.line-index;
  short : length l.formatted.items ≤ MOST_BYTES;
  all : flat_map ended (formatted_lines 0 (map (λ w. w.now) l.line-items)) ≡ l.formatted.items ++ flat_map ended (formatted_lines l.depth (map (λ w. w.now) (drop l.line-index l.line-items)));
}
