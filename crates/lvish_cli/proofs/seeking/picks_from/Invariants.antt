-- The numbers before this one are the picks.
use Rattle.std.proofs.Common.{◌≡◌, take, map}
use Rattle.std.specs.Prelude.{pos}
use Rattle.lvish_cli.proofs.seeking.picks_from.Given as goal

abbrev pub invariant-loop-number : goal.invariant-loop-number
invariant-loop-number l = take l.number-index l.numbers ≡ map pos l.picks.items
