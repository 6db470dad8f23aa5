use Rattle.std.proofs.Common.{rules, ◌≡◌, ◌<◌, ap, sum, sym, length, ◌∙◌, arith}
use Rattle.lvish_run.proofs.Counted.{counts_of, one_more, all_counted, never_over, none_is_left}
use Rattle.lvish_run.proofs.count_by_worker.count_by_worker.Goals as goal

pub loop-worker-preserved : goal.loop-worker-preserved
loop-worker-preserved c =
    let m = one_more c.args.noted.now c.loop-worker.by_worker.items c.push.new.self.items c.made_by-steps.result c.loop-worker.worker c.loop-worker.invariant.are c.made_by-steps.ensures (search rules) in
    record { are = m.0; total = omega (arith, m.1, c.loop-worker.invariant.total, c.in-Some.ensures) }

pub returns-then-total-noted-clause-counts : goal.returns-then-total-noted-clause-counts
returns-then-total-noted-clause-counts c =
    let all : c.loop-worker.worker ≡ c.args.workers = omega arith in
    all_counted c.args.noted.now c.from.result c.args.workers (c.from.ensures ∙ c.loop-worker.invariant.are ∙ ap (counts_of c.args.noted.now) all) (ap sum c.from.ensures ∙ c.loop-worker.invariant.total ∙ c.if-total-noted.true)

pub returns-in_default-clause-mixed : goal.returns-in_default-clause-mixed
returns-in_default-clause-mixed c _ _ =
    let most = never_over c.args.noted.now c.loop-worker.by_worker.items c.made_by-steps.result c.loop-worker.worker c.loop-worker.invariant.are c.made_by-steps.ensures in
    let long : length c.args.noted.now < 18446744073709551616 = search rules in
    c.in_default.ensures (omega (arith, most, long, c.loop-worker.invariant.total))

pub returns-else-total-noted-clause-mixed : goal.returns-else-total-noted-clause-mixed
returns-else-total-noted-clause-mixed c _ all =
    c.if-total-noted.false (sym c.loop-worker.invariant.total ∙ none_is_left c.args.noted.now c.loop-worker.by_worker.items c.loop-worker.worker c.args.workers c.loop-worker.invariant.are c.loop-worker-test.false all c.loop-worker.auto.worker-end)
