use Rattle.std.proofs.Common.{sym, refl}
use Rattle.std.proofs.lemmas.Result.{err_from_is_err_and}
use Rattle.lvish_lattice.specs.Ascending.{ties_are_same}
use Rattle.lvish_compound.specs.laws.MapLaws.{events_by_ties}
use Rattle.lvish_compound.specs.MapOf.{same_map}
use Rattle.lvish_compound.proofs.Maps.{merged_one, fresh_one}
use Rattle.lvish_compound.proofs.Outcomes.{outcome_named}
use Rattle.lvish_compound.proofs.map_of.MapOfLattice.merge_one.Goals as goal

pub returns-clause-merged : goal.returns-clause-merged
returns-clause-merged g c =
    let R = g.K.Ord.cmp in
    let k = g.met.K in
    let l = g.met.L.Lattice in
    let e = g.met.L.Event in
    rw c.at_key.ensures (outcome_named (λ event. (c.in-Some.key.now, event)) _ _ _ _ _ _ _ _
    (λ done m. merged_one c.args.self.now c.args.put.now _ _ _ done c.in-Some.ensures m.0 m.1)
    (λ same. same_map _ _ same)
    (sym (fresh_one k.Ord.total (ties_are_same R k.Plain.identical k.Ord.matches_eq) l.is_join g.met.L.Eq.laws.refl l.identical
    e.Ord.total (ties_are_same g.L.Event.Ord.cmp e.Plain.identical e.Ord.matches_eq) (events_by_ties e.Ord.matches_eq l.has_events) g.K.PartialEq.eq g.L.Event.PartialEq.eq k.Ord.matches_eq e.Ord.matches_eq
    c.args.self.now c.args.put.now _ _ _ c.in-Some.ensures refl))
    _ c.in_ok-brought.ensures.merged)

pub returns-in_err-brought-clause-refused : goal.returns-in_err-brought-clause-refused
returns-in_err-brought-clause-refused g c = let p = err_from_is_err_and c.from_residual.result c.from_residual.ensures.1 in rw p.1 (same_map _ _ c.in_err-brought.ensures.refused)
