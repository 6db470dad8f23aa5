use Rattle.lvish_graph.proofs.Declared.{deeds_are_told, targets_are_done, handlers_are_added}
use Rattle.lvish_graph.proofs.laws.what_is_done_is_told.Goals as goal

pub returns-clause-all : goal.returns-clause-all
returns-clause-all c = deeds_are_told

pub returns-clause-only : goal.returns-clause-only
returns-clause-only c = targets_are_done

pub returns-clause-handlers : goal.returns-clause-handlers
returns-clause-handlers c = handlers_are_added
