use Rattle.std.proofs.Common.{◌≡◌, take, string_bytes}
use Rattle.std.specs.List.{flat_map}
use Rattle.lvish_again.specs.Text.{pick_text}
use Rattle.lvish_again.proofs.text.picks_text.Given as goal

abbrev pub invariant-loop-pick : goal.invariant-loop-pick
invariant-loop-pick l = string_bytes l.text ≡ flat_map pick_text (take l.pick-index l.picks)
