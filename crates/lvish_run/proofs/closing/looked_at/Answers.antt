use Rattle.std.proofs.Common.{rules, ◌≡◌, ◌<◌, Err, inr, sym, subst}
use Rattle.std.specs.List.{AllByRecursion}
use Rattle.lvish_run.specs.declared.fault.RunFault.TheVariants.{Mixed}
use Rattle.lvish_run.specs.Honest.{IsCountByWorker}
use Rattle.lvish_run.proofs.Counted.{counted, of_entries}
use Rattle.lvish_run.proofs.Reports.{board_over}
use Rattle.lvish_run.proofs.closing.looked_at.Goals as goal

pub returns-clause-over : goal.returns-clause-over
returns-clause-over g c = board_over _ g.B.BoardBrand.program g.B.BoardBrand.budget c.args.board.now _ _ c.over.ensures.sound (sym c.in-Some.ensures.over) c.in_ok-outcome.ensures

pub returns-clause-workers : goal.returns-clause-workers
returns-clause-workers g c = c.in_ok-by_worker.ensures.counts.count

pub returns-clause-counts : goal.returns-clause-counts
returns-clause-counts g c =
    let counted = subst (λ t. IsCountByWorker c.args.workers t c.in_ok-by_worker.by_worker) (sym c.noted.ensures.trace) (counted _ _ _ _ c.in_ok-by_worker.ensures.counts) in
    subst (λ n. IsCountByWorker n c.args.board.now.trace c.in_ok-by_worker.by_worker) (sym c.in_ok-by_worker.ensures.counts.count) counted

pub returns-in_err-by_worker-clause-mixed : goal.returns-in_err-by_worker-clause-mixed
returns-in_err-by_worker-clause-mixed g c same =
    let answered : c.count_by_worker.result ≡ Err Mixed = search rules in
    inr (λ all. c.count_by_worker.ensures.mixed answered (of_entries _ _ _ (subst (AllByRecursion (λ e. e.worker < c.args.workers)) c.noted.ensures.trace all)))
