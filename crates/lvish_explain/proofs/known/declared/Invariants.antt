use Rattle.std.proofs.Common.{◌≡◌, ◌++◌, suc, map, drop}
use Rattle.lvish_explain.specs.Known.{seen, declared_from}
use Rattle.lvish_explain.proofs.known.declared.Given as goal

abbrev pub invariant-loop-k : goal.invariant-loop-k
invariant-loop-k l = declared_from 1 l.space (map (λ x. x.now) l.lines) ≡ map seen l.known.items ++ declared_from (suc l.k) l.space (map (λ x. x.now) (drop l.k l.lines))
