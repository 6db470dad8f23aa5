use Rattle.lvish_try.proofs.Gathering.{IsGathered}
use Rattle.lvish_try.proofs.gather.found_runs.Given as goal

abbrev pub invariant-loop-number : goal.invariant-loop-number
invariant-loop-number l = IsGathered l.script l.seed l.budget l.number l.texts.items l.found.items
