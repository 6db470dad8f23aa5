use Rattle.std.proofs.Common.{◌≡◌, ◌∙◌, length, sym, subst}
use Rattle.std.proofs.lemmas.Result.{IfOk-weaker}
use Rattle.lvish_alike.specs.Sought.{instruction_stays, instruction_writes, linked, AreLed, AreGiven}
use Rattle.lvish_alike.proofs.Written.{are_written}
use Rattle.lvish_alike.proofs.Adding.{written_back}
use Rattle.lvish_alike.proofs.layered.written_by_tasks.Goals as goal

pub returns : goal.returns
returns c =
    let routines = c.args.routines.now in
    let started = c.in_ok-reached.reached in
    let given = c.in_ok-reached.ensures in
    let count : length c.lead.new.marks ≡ started.len = c.lead.ensures.count ∙ sym given.count_is ∙ sym started.ok.0 in
    let led = subst (λ m. AreLed instruction_stays routines m c.lead.new.marks) c.deref_mut.ensures.value c.lead.ensures in
    let same : c.deref.result.now ≡ c.lead.new.marks = c.deref.ensures.value ∙ written_back started.len c.lead.new.marks started.items count in
    IfOk-weaker c.written_from.result _ _
    (λ written writes.
    are_written (linked c.args.link) c.args.pools.now routines c.args.marks.now c.args.variables started.items c.lead.new.marks written.items given led
    (subst (λ m. AreGiven (instruction_writes c.args.pools.now) routines m c.args.variables written.items) same writes))
    c.written_from.ensures
