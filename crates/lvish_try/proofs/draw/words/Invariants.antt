use Rattle.std.proofs.Common.{◌≡◌, ◌++◌, ◌-◌}
use Rattle.lvish_try.specs.Drawn.{words}
use Rattle.lvish_try.proofs.draw.words.Given as goal

-- the words so far and those that are left are all
abbrev pub invariant-loop-done : goal.invariant-loop-done
invariant-loop-done l = l.picks.items ++ words (l.count - l._done) l.generator ≡ words l.count l.initial.generator
