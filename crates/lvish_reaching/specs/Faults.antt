-- Which faults say nothing of the input.
use Rattle.lvish_reaching.specs.declared.fault.ReachFault.{ReachFault}
use Rattle.lvish_reaching.specs.declared.fault.ReachFault.TheVariants.{Alone, Empty, Erring, Memory, NoThread}

-- the fault came about after all lines were read
abbrev pub IsOfRun : ReachFault → Type 0
IsOfRun (Alone number) = ⊥
IsOfRun Empty = ⊥
IsOfRun (Erring kind) = Unit {0}
IsOfRun Memory = Unit {0}
IsOfRun NoThread = Unit {0}
