use Rattle.std.proofs.Common.{rules, refl}
use Rattle.std.proofs.lemmas.Option.{slice_get_read}
use Rattle.std.specs.List.{slice_set}
use Rattle.lvish_lattice.specs.Ascending.{ties_are_same}
use Rattle.lvish_compound.proofs.Placed.{insert_at_gap, lookup_at_gap, set_at, lookup_at_place}
use Rattle.lvish_compound.proofs.Parts.{outcome_written, outcome_new}
use Rattle.lvish_compound.proofs.block.merge_one_among.Goals as goal

pub returns-in-Ok-clause-merged : goal.returns-in-Ok-clause-merged
returns-in-Ok-clause-merged g c =
    let R = g.K.Ord.cmp in
    let same = ties_are_same R g.met.K.Plain.identical g.met.K.Ord.matches_eq in
    let es = c.args.entries.now.items in
    let x = c.index_mut.result.now in
    let place = rw c.as_slice.ensures.value at c.in-Ok.ensures.found in
    let there = slice_get_read es _ c.in-Ok.at x refl (rw c.as_slice.ensures.value at c.in-Ok.ensures.bound) c.index_mut.ensures.value in
    outcome_written R g.L.Lattice.least g.L.Lattice.joined g.met.K.Ord.total g.L.Event.PartialEq.eq g.L.Lattice.events_of c.args.of c.args.part.now x.1 c.merge_one.new.self es (slice_set es c.in-Ok.at (x.0, c.merge_one.new.self)) _ c.merge_one.result c.requires
    (lookup_at_place R (λ x. x) g.met.K.Ord.total same (λ x y e. e) c.args.of es c.in-Ok.at x place there)
    (set_at R (λ x. x) g.met.K.Ord.total same (λ x y e. e) c.args.of c.merge_one.new.self es c.in-Ok.at x place there)
    (search rules) c.merge_one.ensures.merged

pub returns-in_ok-insert-in_default : goal.returns-in_ok-insert-in_default
returns-in_ok-insert-in_default g c =
    let R = g.K.Ord.cmp in
    let same = ties_are_same R g.met.K.Plain.identical g.met.K.Ord.matches_eq in
    let es = c.args.entries.now.items in
    let w = c.first_part-first.result.0 in
    let place = rw c.as_slice.ensures.value at c.in-Err.ensures.gap in
    record {
      merged = outcome_new R g.L.Lattice.least g.L.Lattice.joined g.L.Event.PartialEq.eq g.L.Lattice.events_of g.met.L.Lattice.is_join c.args.of c.args.part.now w es _ c.insert.new.self.items
          (lookup_at_gap R (λ x. x) g.met.K.Ord.total same (λ x y e. e) c.args.of es c.in-Err.at place c.requires)
          (insert_at_gap R (λ x. x) g.met.K.Ord.total same (λ x y e. e) c.args.of w es c.in-Err.at place)
          c.in_ok-insert-in_default.ensures.items c.first_part-first.result.1 c.in_default.not-Listed c.first_part-first.ensures;
      refused = tt;
    }
