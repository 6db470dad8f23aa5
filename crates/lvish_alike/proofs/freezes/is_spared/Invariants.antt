use Rattle.lvish_alike.specs.Deciding.{Spares}
use Rattle.lvish_alike.proofs.Spared.{AllBefore}
use Rattle.lvish_alike.proofs.freezes.is_spared.Given as goal

abbrev pub invariant-loop-other : goal.invariant-loop-other
invariant-loop-other l = AllBefore (Spares l.pools l.place l.variable l.waits) l.own l.other
