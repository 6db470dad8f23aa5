use Rattle.std.proofs.Common.{◌∙◌, refl}
use Rattle.std.proofs.lemmas.Option.{slice_get_read}
use Rattle.lvish_lattice.specs.Ascending.{ties_are_same}
use Rattle.lvish_compound.proofs.Placed.{insert_at_gap, set_at}
use Rattle.lvish_compound.proofs.block.put_among.Goals as goal

pub returns-in-Ok-clause-inserted : goal.returns-in-Ok-clause-inserted
returns-in-Ok-clause-inserted g c =
    let es = c.args.entries.now.items in
    let there = slice_get_read es _ c.in-Ok.at c.index_mut.result.now refl (rw c.as_slice.ensures.value at c.in-Ok.ensures.bound) c.index_mut.ensures.value in
    set_at g.K.Ord.cmp (λ x. x) g.met.K.Ord.total (ties_are_same g.K.Ord.cmp g.met.K.Plain.identical g.met.K.Ord.matches_eq) (λ x y e. e) c.args.of c.args.part es c.in-Ok.at c.index_mut.result.now (rw c.as_slice.ensures.value at c.in-Ok.ensures.found) there

pub returns-in_ok-insert-in-Err-clause-inserted : goal.returns-in_ok-insert-in-Err-clause-inserted
returns-in_ok-insert-in-Err-clause-inserted g c =
    c.in_ok-insert-in-Err.ensures.items
    ∙ insert_at_gap g.K.Ord.cmp (λ x. x) g.met.K.Ord.total (ties_are_same g.K.Ord.cmp g.met.K.Plain.identical g.met.K.Ord.matches_eq) (λ x y e. e) c.args.of c.args.part c.args.entries.now.items c.in-Err.at (rw c.as_slice.ensures.value at c.in-Err.ensures.gap)
