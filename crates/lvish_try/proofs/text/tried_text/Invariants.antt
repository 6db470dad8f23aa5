use Rattle.std.proofs.Common.{◌≡◌, ◌++◌, take, flat_map}
use Rattle.std.specs.Prelude.{string_bytes}
use Rattle.lvish_try.specs.Text.{found_text}
use Rattle.lvish_try.proofs.text.tried_text.Given as goal

abbrev pub invariant-loop-found : goal.invariant-loop-found
invariant-loop-found l = string_bytes l.text ≡ string_bytes l.initial.text ++ flat_map (found_text l.script l.tried.times) (take l.found-index l.founds)
