use Rattle.std.proofs.Common.{refl}
use Rattle.lvish_compound.proofs.PartCalls.{set_outcome, max_outcome}
use Rattle.lvish_compound.proofs.any_events.merge_part.Goals as goal

pub returns-in_ok-merge_one-in-Set-put-clause-merged : goal.returns-in_ok-merge_one-in-Set-put-clause-merged
returns-in_ok-merge_one-in-Set-put-clause-merged c = rw c.number_brought.ensures (set_outcome _
    (record { cells = λ x z. refl; sets = λ x z. refl; maxes = λ x z. refl; one_two = λ x y. refl; two_one = λ x y. refl; set_max = λ x y. refl; max_set = λ x y. refl })
    c.args.old.now c.args.put.now _ _ _ _ c.in-Set.is c.in-Set-put.is refl c.in_ok-merge_one-in-Set-put.field-0 c.in_ok-merge_one-in-Set-put.ensures.merged)

pub returns-in_ok-merge_one-in-Max-put-clause-merged : goal.returns-in_ok-merge_one-in-Max-put-clause-merged
returns-in_ok-merge_one-in-Max-put-clause-merged c = rw c.number_brought-in-Max-put.ensures (max_outcome _
    (record { cells = λ x z. refl; sets = λ x z. refl; maxes = λ x z. refl; one_two = λ x y. refl; two_one = λ x y. refl; set_max = λ x y. refl; max_set = λ x y. refl })
    c.args.old.now c.args.put.now _ _ _ _ c.in-Max.is c.in-Max-put.is refl c.in_ok-merge_one-in-Max-put.field-0 c.in_ok-merge_one-in-Max-put.ensures.merged)
