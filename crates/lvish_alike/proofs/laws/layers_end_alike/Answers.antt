use Rattle.lvish_alike.proofs.Ends.{layers_one_end, layers_show_all}
use Rattle.lvish_alike.proofs.laws.layers_end_alike.Goals as goal

pub returns-clause-one_end : goal.returns-clause-one_end
returns-clause-one_end c = λ s code is layered.
    layers_one_end _ _ _ _ _ _ _ s code (c.lawful.ensures code) (c.same_runs.ensures s code is) layered (λ waited strata. c.one_end_shows_all.ensures code (c.strata_keep_time.ensures code waited strata))

pub returns-clause-shows_all : goal.returns-clause-shows_all
returns-clause-shows_all c = λ s code is layered.
    layers_show_all _ _ _ _ _ _ _ s code (c.lawful.ensures code) (c.same_runs.ensures s code is) layered (λ waited strata. c.one_end_shows_all.ensures code (c.strata_keep_time.ensures code waited strata))
