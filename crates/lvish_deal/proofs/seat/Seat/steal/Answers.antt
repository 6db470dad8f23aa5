use Rattle.lvish_deal.proofs.Places.{after_steal, same_steal, within, if_taken, if_not}
use Rattle.lvish_deal.proofs.seat.Seat.steal.Goals as goal

pub returns-clause-taken : goal.returns-clause-taken
returns-clause-taken g c = if_taken c.take.result _ _ (after_steal c.self.inside c.args.from c.index_mut.result.now c.take.new.self c.take.result c.args.self.now (within c.self.inside c.args.self.now c.args.from c.self.view_is c.requires.among) c.index_mut.ensures.value c.take.ensures.same c.take.ensures.taken c.self.view_is)

pub returns-clause-none : goal.returns-clause-none
returns-clause-none g c = if_not c.take.result _ _ (after_steal c.self.inside c.args.from c.index_mut.result.now c.take.new.self c.take.result c.args.self.now (within c.self.inside c.args.self.now c.args.from c.self.view_is c.requires.among) c.index_mut.ensures.value c.take.ensures.same c.take.ensures.taken c.self.view_is)

pub returns-clause-same : goal.returns-clause-same
returns-clause-same g c = same_steal c.self.inside c.args.from c.index_mut.result.now c.take.new.self c.args.self.now c.index_mut.ensures.value c.take.ensures.same c.self.view_is
