use Rattle.std.proofs.Common.{◌≡◌, ◌∙◌, true, false, length, set, replicate, sym, ap, subst, rules}
use Rattle.std.proofs.lemmas.List.{length-replicate}
use Rattle.lvish_alike.specs.Sought.{linked, AreLed, AreReached}
use Rattle.lvish_alike.proofs.Marks.{reached_alone}
use Rattle.lvish_alike.proofs.Adding.{written_back}
use Rattle.lvish_alike.proofs.reached.reached_from.Goals as goal

pub returns : goal.returns
returns c =
    let f = linked c.args.link in
    let routines = c.args.routines.now in
    let marks = c.in_ok-marks.marks in
    let made : marks.items ≡ replicate (length routines) false = search rules in
    let count : length c.lead.new.marks ≡ marks.len = c.lead.ensures.count ∙ sym (length-replicate (length routines) false) ∙ sym (ap length made) ∙ sym marks.ok.0 in
    let led = subst (λ m. AreLed f routines m c.lead.new.marks) (c.deref_mut.ensures.value ∙ ap (λ l. set l c.args.from true) made) c.lead.ensures in
    subst (AreReached f routines c.args.from) (sym (written_back marks.len c.lead.new.marks (set marks.items c.args.from true) count)) (reached_alone f routines c.args.from c.lead.new.marks c.requires led)
