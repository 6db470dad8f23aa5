use Rattle.std.proofs.Common.{rules, ◌≡◌, ◌∙◌, sym, vec_len, length, eq-eqb}
use Rattle.std.proofs.lemmas.Bool.{both_ways}
use Rattle.std.proofs.lemmas.Result.{IfOk-weaker}
use Rattle.lvish_calculus.specs.Program.{machine_of}
use Rattle.lvish_run.proofs.Reports.{some_label, stuck_at_end}
use Rattle.lvish_run.proofs.account.outcome_of.Goals as goal

pub returns-in-Some : goal.returns-in-Some
returns-in-Some g c = IfOk-weaker c.failed.result _ _ (λ o same. rw same (sym c.in-Some.ensures)) c.failed.ensures

pub returns-then-ended : goal.returns-then-ended
returns-then-ended g c =
    let M = machine_of g.P.Lat.PartialEq.eq g.P.Lat.Event.PartialEq.eq g.P.Lat.Event.Ord.cmp g.P.Lat.Lattice.least g.P.Lat.Lattice.joined g.P.Lat.Lattice.events_of g.P.Lat.Reads.answer_of (g.P.Program.functions c.args.core.now.program) in
    (search rules, stuck_at_end M c.args.core.now (c.in_ok-ended.ensures.0 c.if-ended.true))

pub returns : goal.returns
returns g c = some_label _ c.args.core.now _ c.in_ok-labels.labels.items (search rules) c.in_ok-labels.ensures
    (λ e. let many : vec_len c.in_ok-labels.labels ≡ length c.in_ok-labels.labels.items = search rules in both_ways _ (sym c.is_empty.ensures ∙ c.if-is_empty.false) (eq-eqb _ _ (many ∙ e)))
