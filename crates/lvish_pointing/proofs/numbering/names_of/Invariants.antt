use Rattle.std.proofs.Common.{◌≡◌, map, take}
use Rattle.lvish_facts.specs.Names.{names_in}
use Rattle.lvish_pointing.specs.Numbers.{spelled, names_of}
use Rattle.lvish_pointing.proofs.numbering.names_of.Given as goal

abbrev pub invariant-loop-fact : goal.invariant-loop-fact
invariant-loop-fact l = names_in l.words.items ≡ names_of (map spelled (take l.fact-index l.facts))
