use Rattle.std.proofs.Common.{◌≡◌, [], suc, map, drop}
use Rattle.lvish_explain.specs.Known.{seen, locals_from}
use Rattle.lvish_explain.proofs.known.locals.Given as goal

abbrev pub invariant-loop-k : goal.invariant-loop-k
invariant-loop-k l = locals_from 1 l.number [] (map (λ x. x.now) l.lines) ≡ locals_from (suc l.k) l.number (map seen l.known.items) (map (λ x. x.now) (drop l.k l.lines))
