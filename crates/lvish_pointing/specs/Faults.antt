-- Which faults are of no text.
use Rattle.lvish_pointing.specs.declared.fault.PointFault.{PointFault}
use Rattle.lvish_pointing.specs.declared.fault.PointFault.TheVariants.{Line, Empty, Erring, Memory, NoThread}

-- the fault is of a run, and not of a text
abbrev pub IsOfRun : PointFault → Type 0
IsOfRun (Line number expected) = ⊥
IsOfRun Empty = ⊥
IsOfRun (Erring kind) = Unit {0}
IsOfRun Memory = Unit {0}
IsOfRun NoThread = Unit {0}
