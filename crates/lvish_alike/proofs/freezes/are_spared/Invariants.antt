use Rattle.lvish_alike.specs.Deciding.{IsFreezeSpared}
use Rattle.lvish_alike.proofs.Spared.{AllBefore}
use Rattle.lvish_alike.proofs.freezes.are_spared.Given as goal

abbrev pub invariant-loop-place : goal.invariant-loop-place
invariant-loop-place l = AllBefore (IsFreezeSpared l.own l.pools) l.own l.place
