use Rattle.std.proofs.Common.{◌++◌, ap, ◌∙◌}
use Rattle.lvish_variable.specs.Variable.{entries}
use Rattle.lvish_variable.proofs.Kept.{cut_back, kept, log_stays, put_is, stays}
use Rattle.lvish_variable.proofs.variable.Variable.put_listed.Goals as goal

pub invariant_of-self-in_default : goal.invariant_of-self-in_default
invariant_of-self-in_default g c =
    kept g.met.L.Event.Plain.identical g.met.L.Event.Eq.laws g.L.Lattice.joined g.L.Lattice.events_of g.met.L.Event.Ord.total g.met.L.Lattice.has_events _ c.args.put.now _ _ _ c.args.task.now c.args.number
    c.in_default.ensures.ok c.self.invariant
    (c.in_ok-note.ensures.ok ∙ ap (λ z. c.self.inside.log.items ++ entries c.args.task.now c.args.number z) (c.deref.ensures.value ∙ c.in_ok-fresh.ensures))

pub returns-clause-ok : goal.returns-clause-ok
returns-clause-ok g c =
    let l = g.L.Lattice in
    put_is l.joined g.L.Event.PartialEq.eq l.events_of c.args.task.now c.args.number c.args.put.now c.self.inside.state _ c.self.inside.frozen c.self.inside.log.items _ c.args.self.now c.self.view_is c.in_default.ensures.ok
    (c.in_ok-note.ensures.ok ∙ ap (λ z. c.self.inside.log.items ++ entries c.args.task.now c.args.number z) (c.deref.ensures.value ∙ c.in_ok-fresh.ensures)) (ap (λ v. v.frozen) c.self.view_is ∙ c.requires.unfrozen)

pub invariant_of-self-in-Err : goal.invariant_of-self-in-Err
invariant_of-self-in-Err g c =
    let back = cut_back c.self.inside.log.items _ _ _ _ (c.len-before.ensures ∙ c.self.inside.log.ok.0) c.in_ok-note.ensures.ok c.truncate.ensures.items in
    log_stays _ _ _ _ c.in-Err.ensures.refused back g.L.Lattice.events_of c.self.invariant

pub returns-in-Err-clause-refused : goal.returns-in-Err-clause-refused
returns-in-Err-clause-refused g c =
    let back = cut_back c.self.inside.log.items _ _ _ _ (c.len-before.ensures ∙ c.self.inside.log.ok.0) c.in_ok-note.ensures.ok c.truncate.ensures.items in
    stays _ _ _ _ c.in-Err.ensures.refused back c.self.inside.frozen _ c.self.view_is
