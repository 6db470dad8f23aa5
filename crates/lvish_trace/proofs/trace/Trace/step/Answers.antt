use Rattle.std.proofs.Common.{refl, sym, ◌∙◌}
use Rattle.std.proofs.lemmas.Option.{slice_get_read}
use Rattle.lvish_trace.proofs.Noting.{run_shown, hand_shown}
use Rattle.lvish_trace.proofs.trace.Trace.step.Goals as goal

pub returns-in_ok-get-in-Act : goal.returns-in_ok-get-in-Act
returns-in_ok-get-in-Act g c =
    let noted = slice_get_read c.deref.result.now _ c.args.number c.in_ok-noted.noted.now refl c.in_ok-noted.ensures.lookup.3.0 c.in_ok-noted.ensures.lookup.1 in
    let name = slice_get_read c.deref-in-Act.result.now _ c.in-Act.index c.in_ok-get-in-Act.field-0.now refl c.in_ok-get-in-Act.ensures.lookup.3.0 c.in_ok-get-in-Act.ensures.lookup.1 in
    rw (← c.self.view_is)
    (run_shown c.self.inside.names.items c.self.inside.noted.items c.args.number c.in_ok-noted.noted.now (rw c.deref.ensures.value at noted) c.in-Act.index c.in_ok-get-in-Act.field-0 (sym c.step.ensures ∙ c.in-Act.is) (rw c.deref-in-Act.ensures.value at name))

pub returns-in_ok-get-in-Hand : goal.returns-in_ok-get-in-Hand
returns-in_ok-get-in-Hand g c =
    let noted = slice_get_read c.deref.result.now _ c.args.number c.in_ok-noted.noted.now refl c.in_ok-noted.ensures.lookup.3.0 c.in_ok-noted.ensures.lookup.1 in
    let name = slice_get_read c.deref-in-Hand.result.now _ c.in-Hand.index c.in_ok-get-in-Hand.field-0.now refl c.in_ok-get-in-Hand.ensures.lookup.3.0 c.in_ok-get-in-Hand.ensures.lookup.1 in
    rw (← c.self.view_is)
    (hand_shown c.self.inside.names.items c.self.inside.noted.items c.args.number c.in_ok-noted.noted.now (rw c.deref.ensures.value at noted) c.self.invariant c.in-Hand.index c.in_ok-get-in-Hand.field-0 (sym c.step.ensures ∙ c.in-Hand.is) (rw c.deref-in-Hand.ensures.value at name))
