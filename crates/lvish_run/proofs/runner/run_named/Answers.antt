use Rattle.std.proofs.Common.{rules, ◌≡◌, length}
use Rattle.std.specs.Option.{unwrap_or}
use Rattle.std.proofs.lemmas.Result.{IfOk-weaker}
use Rattle.lvish_calculus.specs.Program.{machine_of}
use Rattle.lvish_run.proofs.Reports.{by_workers, walked_over, walked_counts}
use Rattle.lvish_run.proofs.runner.run_named.Goals as goal

pub report_over-requires-clause-over : goal.report_over-requires-clause-over
report_over-requires-clause-over g c = walked_over g.P.Lat.Event.Ord.cmp (λ p. machine_of g.P.Lat.PartialEq.eq g.P.Lat.Event.PartialEq.eq g.P.Lat.Event.Ord.cmp g.P.Lat.Lattice.least g.P.Lat.Lattice.joined g.P.Lat.Lattice.events_of g.P.Lat.Reads.answer_of (g.P.Program.functions p)) (unwrap_or g.N.Naming.program g.P.Runnable.blank) c.args.picks.now g.N.Naming.budget c.in_ok-board.board c.in_ok-board.ensures
    c.core-core.result.now c.in_ok-outcome.outcome (c.takes_something.ensures (unwrap_or g.N.Naming.program g.P.Runnable.blank)) c.core-core.ensures.core c.in_ok-outcome.ensures

pub report_over-requires-clause-counts : goal.report_over-requires-clause-counts
report_over-requires-clause-counts g c = walked_counts g.P.Lat.Event.Ord.cmp (λ p. machine_of g.P.Lat.PartialEq.eq g.P.Lat.Event.PartialEq.eq g.P.Lat.Event.Ord.cmp g.P.Lat.Lattice.least g.P.Lat.Lattice.joined g.P.Lat.Lattice.events_of g.P.Lat.Reads.answer_of (g.P.Program.functions p)) (unwrap_or g.N.Naming.program g.P.Runnable.blank) c.args.picks.now g.N.Naming.budget c.in_ok-board.board c.in_ok-board.ensures
    c.core-core.result.now _ c.core-core.ensures.core (search rules)

pub returns-clause-honest : goal.returns-clause-honest
returns-clause-honest g c =
    let one : length c.from.result ≡ 1 = search rules in
    IfOk-weaker c.report_over.result _ _ (λ r z. by_workers _ _ _ _ _ r one z.honest) c.report_over.ensures.told

pub returns-clause-picked : goal.returns-clause-picked
returns-clause-picked g c = IfOk-weaker c.report_over.result _ _ (λ r same. rw same c.in_ok-board.ensures.walk.picked) c.report_over.ensures.trace

pub returns-clause-handed : goal.returns-clause-handed
returns-clause-handed g c = IfOk-weaker c.report_over.result _ _ (λ r z. z.handed) c.report_over.ensures.told

pub returns-clause-alike : goal.returns-clause-alike
returns-clause-alike g c = IfOk-weaker c.report_over.result _ _ (λ r z. z.alike) c.report_over.ensures.told

pub returns-clause-least : goal.returns-clause-least
returns-clause-least g c = IfOk-weaker c.report_over.result _ _ (λ r z. z.least) c.report_over.ensures.told

pub returns-clause-closed : goal.returns-clause-closed
returns-clause-closed g c = IfOk-weaker c.report_over.result _ _ (λ r z. z.closed) c.report_over.ensures.told
