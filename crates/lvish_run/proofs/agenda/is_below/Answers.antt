use Rattle.std.proofs.Common.{sym, ◌∙◌}
use Rattle.std.proofs.lemmas.Bool.{false≢true}
use Rattle.lvish_names.specs.laws.OrderLaws.{name_total}
use Rattle.lvish_names.proofs.NameLaws.{name_cmp-iff}
use Rattle.lvish_run.proofs.FirstTask.{below_least, below_none}
use Rattle.lvish_run.proofs.agenda.is_below.Goals as goal

pub returns-in-Less : goal.returns-in-Less
returns-in-Less g c =
    let exact = name_cmp-iff g.P.Lat.Event.Ord.cmp g.met.P.Lat.Event.Plain.identical g.met.P.Lat.Event.Ord.matches_eq g.met.P.Lat.Event.Ord.total in
    λ _. below_least g.P.Lat.Event.Ord.cmp (name_total g.met.P.Lat.Event.Ord.total) exact c.args.name.now c.in-Some.least.now c.args.others.now.entries (sym c.cmp.ensures ∙ c.in-Less.is) c.in-Some.ensures.least

pub returns-in-None : goal.returns-in-None
returns-in-None g c =
    let exact = name_cmp-iff g.P.Lat.Event.Ord.cmp g.met.P.Lat.Event.Plain.identical g.met.P.Lat.Event.Ord.matches_eq g.met.P.Lat.Event.Ord.total in
    λ _. below_none g.P.Lat.Event.Ord.cmp (name_total g.met.P.Lat.Event.Ord.total) exact c.args.name.now c.args.others.now.entries (λ some. false≢true (c.in-None.ensures.variant.1 some))
