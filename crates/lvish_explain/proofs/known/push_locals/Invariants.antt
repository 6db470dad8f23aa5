use Rattle.std.proofs.Common.{◌≡◌, ◌++◌, map, take}
use Rattle.lvish_explain.specs.Known.{seen}
use Rattle.lvish_explain.proofs.known.push_locals.Given as goal

abbrev pub invariant-loop-name : goal.invariant-loop-name
invariant-loop-name l = map seen l.known.items ≡ map seen l.initial.known.items ++ map (λ x. (x, l.line)) (map (λ w. w.now) (take l.name-index l.rest))
