use Rattle.std.proofs.Common.{refl, ◌∙◌}
use Rattle.std.proofs.lemmas.Result.{IfOk-weaker}
use Rattle.lvish_compound.specs.laws.StateEvents.{by_name}
use Rattle.lvish_compound.proofs.StateCalls.{parts_fresh_by, maps_fresh, pairs_fresh_by, tallies_fresh, part_to, other_to_part}
use Rattle.lvish_compound.proofs.any.AnyLattice.fresh.Goals as goal

pub returns-in-Part-Part : goal.returns-in-Part-Part
returns-in-Part-Part c = IfOk-weaker c.fresh_in_part.result _ _
    (λ v e. e ∙ parts_fresh_by _ _ _ c.args.old.now c.args.put.now _ _ c.in-Part-Part.is-0 c.in-Part-Part.is-1 refl
    (record { cells = λ x z. refl; sets = λ x z. refl; maxes = λ x z. refl; one_two = λ x y. refl; two_one = λ x y. refl; set_max = λ x y. refl; max_set = λ x y. refl })
    (by_name _ (λ d e. refl)))
    c.fresh_in_part.ensures

pub returns-in_ok-fresh-in-Map-Map : goal.returns-in_ok-fresh-in-Map-Map
returns-in_ok-fresh-in-Map-Map c = IfOk-weaker c.entry_events.result _ _
    (λ v e. e ∙ maps_fresh _ (by_name _ (λ d e. refl)) _ c.args.old.now c.args.put.now _ _ _ _ c.in-Map-Map.is-0 c.in-Map-Map.is-1 refl refl (c.deref.ensures.value ∙ c.in_ok-fresh-in-Map-Map.ensures))
    c.entry_events.ensures

pub returns-in_ok-fresh-in-Sides-Sides : goal.returns-in_ok-fresh-in-Sides-Sides
returns-in_ok-fresh-in-Sides-Sides c = IfOk-weaker c.side_events.result _ _
    (λ v e. e ∙ pairs_fresh_by _ _ _ _ c.args.old.now c.args.put.now _ _ _ _ c.in-Sides-Sides.is-0 c.in-Sides-Sides.is-1 c.pair.ensures c.pair-in-Sides-Sides.ensures (c.deref-in-Sides-Sides.ensures.value ∙ c.in_ok-fresh-in-Sides-Sides.ensures)
    (record { cells = λ x z. refl; sets = λ x z. refl; maxes = λ x z. refl; one_two = λ x y. refl; two_one = λ x y. refl; set_max = λ x y. refl; max_set = λ x y. refl })
    (record { ones = λ d e. refl; twos = λ d e. refl; one_two = λ d e. refl; two_one = λ d e. refl })
    (by_name _ (λ d e. refl)))
    c.side_events.ensures

pub returns-in-Part-Map : goal.returns-in-Part-Map
returns-in-Part-Map c = IfOk-weaker c.fresh_to_part.result _ _
    (λ v e. e ∙ other_to_part _ (by_name _ (λ d e. refl)) c.args.old.now c.args.put.now _ _ c.in-Part-Map.is-0 c.in-Part-Map.is-1 refl)
    c.fresh_to_part.ensures

pub returns-in-Part-Sides : goal.returns-in-Part-Sides
returns-in-Part-Sides c = IfOk-weaker c.fresh_to_part-in-Part-Sides.result _ _
    (λ v e. e ∙ other_to_part _ (by_name _ (λ d e. refl)) c.args.old.now c.args.put.now _ _ c.in-Part-Sides.is-0 c.in-Part-Sides.is-1 refl)
    c.fresh_to_part-in-Part-Sides.ensures

pub returns-in-Map-Part : goal.returns-in-Map-Part
returns-in-Map-Part c = c.new.ensures.items ∙ part_to _ (by_name _ (λ d e. refl)) c.args.old.now c.args.put.now _ _ c.in-Map-Part.is-0 c.in-Map-Part.is-1 refl

pub returns-in-Sides-Part : goal.returns-in-Sides-Part
returns-in-Sides-Part c = c.new-in-Sides-Part.ensures.items ∙ part_to _ (by_name _ (λ d e. refl)) c.args.old.now c.args.put.now _ _ c.in-Sides-Part.is-0 c.in-Sides-Part.is-1 refl

pub returns-in_ok-fresh-in-Tally-Tally : goal.returns-in_ok-fresh-in-Tally-Tally
returns-in_ok-fresh-in-Tally-Tally c = IfOk-weaker c.tally_events.result _ _
    (λ v e. e ∙ tallies_fresh _ (by_name _ (λ d e. refl))
    _ c.args.old.now c.args.put.now _ _ _ _ c.in-Tally-Tally.is-0 c.in-Tally-Tally.is-1 refl refl (c.deref-in-Tally-Tally.ensures.value ∙ c.in_ok-fresh-in-Tally-Tally.ensures))
    c.tally_events.ensures

pub returns-in-Part-Tally : goal.returns-in-Part-Tally
returns-in-Part-Tally c = IfOk-weaker c.fresh_to_part-in-Part-Tally.result _ _
    (λ v e. e ∙ other_to_part _ (by_name _ (λ d e. refl)) c.args.old.now c.args.put.now _ _ c.in-Part-Tally.is-0 c.in-Part-Tally.is-1 refl)
    c.fresh_to_part-in-Part-Tally.ensures

pub returns-in-Tally-Part : goal.returns-in-Tally-Part
returns-in-Tally-Part c = c.new-in-Tally-Part.ensures.items ∙ part_to _ (by_name _ (λ d e. refl)) c.args.old.now c.args.put.now _ _ c.in-Tally-Part.is-0 c.in-Tally-Part.is-1 refl
