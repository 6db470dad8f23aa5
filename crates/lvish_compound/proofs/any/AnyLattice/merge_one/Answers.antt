use Rattle.std.proofs.Common.{refl}
use Rattle.std.proofs.lemmas.Result.{IfOk-weaker}
use Rattle.lvish_compound.specs.laws.StateEvents.{by_name}
use Rattle.lvish_compound.proofs.StateCalls.{part_outcome, map_outcome}
use Rattle.lvish_compound.proofs.any.AnyLattice.merge_one.Goals as goal

pub returns-in-Part-put-clause-merged : goal.returns-in-Part-put-clause-merged
returns-in-Part-put-clause-merged c = IfOk-weaker c.merge_part.result _ _ (part_outcome _ _
    (record { cells = λ x z. refl; sets = λ x z. refl; maxes = λ x z. refl; one_two = λ x y. refl; two_one = λ x y. refl; set_max = λ x y. refl; max_set = λ x y. refl })
    (by_name _ (λ d e. refl)) c.args.self.now c.args.put.now _ _ _ c.in-Part.is c.in-Part-put.is)
    c.merge_part.ensures.merged

pub returns-in_ok-merge_one-in-Map-put-clause-merged : goal.returns-in_ok-merge_one-in-Map-put-clause-merged
returns-in_ok-merge_one-in-Map-put-clause-merged c = rw c.entry_brought.ensures (map_outcome _ (by_name _ (λ d e. refl))
    c.args.self.now c.args.put.now _ _ _ _ c.in-Map.is c.in-Map-put.is refl c.in_ok-merge_one-in-Map-put.field-0 c.in_ok-merge_one-in-Map-put.ensures.merged)
