use Rattle.std.proofs.lemmas.Result.{IfOk-weaker}
use Rattle.lvish_calculus.specs.Program.{machine_of}
use Rattle.lvish_rules.specs.Ruled.{functions_of}
use Rattle.lvish_rules.proofs.Solved.{answer_is_exact, answer_is_sound, error_is_due}
use Rattle.lvish_rules.proofs.solving.answer_of.Goals as goal

pub returns-clause-exact : goal.returns-clause-exact
returns-clause-exact g c =
    let rules = g.R.Rules.rule_set c.args._analysis.now.rules in
    let M = machine_of g.R.Lat.PartialEq.eq g.R.Lat.Event.PartialEq.eq g.R.Lat.Event.Ord.cmp g.R.Lat.Lattice.least g.R.Lat.Lattice.joined g.R.Lat.Lattice.events_of g.R.Lat.Reads.answer_of (functions_of rules) in
    IfOk-weaker c.answer_of_report.result _ _ (λ a is. answer_is_exact M rules c.args._workers c.args._budget c.args.report c.requires a is (c.computes_what_follows.ensures.exact c.args._analysis.now)) c.answer_of_report.ensures.told

pub returns-clause-sound : goal.returns-clause-sound
returns-clause-sound g c =
    let rules = g.R.Rules.rule_set c.args._analysis.now.rules in
    let M = machine_of g.R.Lat.PartialEq.eq g.R.Lat.Event.PartialEq.eq g.R.Lat.Event.Ord.cmp g.R.Lat.Lattice.least g.R.Lat.Lattice.joined g.R.Lat.Lattice.events_of g.R.Lat.Reads.answer_of (functions_of rules) in
    IfOk-weaker c.answer_of_report.result _ _ (λ a is. answer_is_sound M rules c.args._workers c.args._budget c.args.report c.requires a is (c.computes_what_follows.ensures.sound c.args._analysis.now)) c.answer_of_report.ensures.told

pub returns-clause-erring : goal.returns-clause-erring
returns-clause-erring g c = λ kind e.
    let rules = g.R.Rules.rule_set c.args._analysis.now.rules in
    let M = machine_of g.R.Lat.PartialEq.eq g.R.Lat.Event.PartialEq.eq g.R.Lat.Event.Ord.cmp g.R.Lat.Lattice.least g.R.Lat.Lattice.joined g.R.Lat.Lattice.events_of g.R.Lat.Reads.answer_of (functions_of rules) in
    error_is_due M rules c.args._workers c.args._budget c.args.report c.requires (c.deterministic.ensures.erring c.args._analysis.now) kind (c.answer_of_report.ensures.erring kind e)
