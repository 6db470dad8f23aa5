use Rattle.std.proofs.Common.{◌≡◌, false, sym, ap, ◌∙◌}
use Rattle.std.proofs.lemmas.Bool.{not-true}
use Rattle.lvish_names.specs.Names.{handler_of}
use Rattle.lvish_names.specs.Summaries.{summary_of}
use Rattle.lvish_names.specs.declared.summary.Summary.{Summary}
use Rattle.lvish_names.proofs.Summaries.{no_event-no_pool}
use Rattle.lvish_names.proofs.task_name.TaskName.last_event.Goals as goal

pub returns-then-not-summary-clause-pool : goal.returns-then-not-summary-clause-pool
returns-then-not-summary-clause-pool g c =
    let none : (summary_of c.args.self.now).has_event ≡ false = ap (λ (s : Summary). s.has_event) (sym c.summary.ensures.of) ∙ not-true _ c.if-not-summary.true in
    sym (no_event-no_pool c.args.self.now none)

pub loop-path-init : goal.loop-path-init
loop-path-init g c = record {
  same_pool = ap handler_of c.link-path.ensures.parts;
  summed = c.link-path.ensures.summed;
  few = c.link-path.ensures.few;
}
