use Rattle.std.proofs.Common.{◌∙◌, sym, true≢false}
use Rattle.lvish_lattice.specs.Ascending.{ties_are_same}
use Rattle.lvish_compound.specs.laws.MapLaws.{events_by_ties}
use Rattle.lvish_compound.proofs.Brought.{brings_all, brings_top, no_length}
use Rattle.lvish_compound.proofs.keyed.fresh_at.Goals as goal

pub returns-in_default : goal.returns-in_default
returns-in_default g c =
    let e = g.met.L.Event in
    brings_all g.L.Event.Ord.cmp e.Ord.total (ties_are_same g.L.Event.Ord.cmp e.Plain.identical e.Ord.matches_eq) g.met.L.Lattice.is_join (events_by_ties e.Ord.matches_eq g.met.L.Lattice.has_events) g.L.Event.PartialEq.eq e.Ord.matches_eq
    _ c.args.part.now _ c.in_default.ensures c.in_ok-events.ensures

pub returns-then-not-leq : goal.returns-then-not-leq
returns-then-not-leq g c =
    let e = g.met.L.Event in
    brings_top g.L.Event.Ord.cmp e.Ord.total (ties_are_same g.L.Event.Ord.cmp e.Plain.identical e.Ord.matches_eq) g.met.L.Lattice.is_join (events_by_ties e.Ord.matches_eq g.met.L.Lattice.has_events) g.L.Event.PartialEq.eq e.Ord.matches_eq
    _ c.in-Some.held.now c.args.part.now c.in_ok-fresh.fresh.items c.in-Some.ensures c.in_ok-fresh.ensures (no_length c.in_ok-fresh.fresh.items _ (sym c.in_ok-fresh.fresh.ok.0) c.if-is_empty.ensures) (λ b. true≢false (sym (c.leq.ensures.1 b) ∙ c.if-not-leq.true))
