use Rattle.std.proofs.Common.{refl, ◌∙◌}
use Rattle.std.proofs.lemmas.Result.{IfOk-weaker}
use Rattle.lvish_compound.proofs.PartCalls.{first_fresh, nothing_fresh, sets_fresh, maxes_fresh}
use Rattle.lvish_compound.proofs.part.PartLattice.fresh.Goals as goal

pub returns-in-Empty-default : goal.returns-in-Empty-default
returns-in-Empty-default c = IfOk-weaker c.events.result _ _ (λ v e. e ∙ first_fresh _ (record { cells = λ x z. refl; sets = λ x z. refl; maxes = λ x z. refl; one_two = λ x y. refl; two_one = λ x y. refl; set_max = λ x y. refl; max_set = λ x y. refl }) _ _ c.in-Empty-default.is-0) c.events.ensures

pub returns-in-Empty : goal.returns-in-Empty
returns-in-Empty c = c.new.ensures.items ∙ nothing_fresh _ (record { cells = λ x z. refl; sets = λ x z. refl; maxes = λ x z. refl; one_two = λ x y. refl; two_one = λ x y. refl; set_max = λ x y. refl; max_set = λ x y. refl }) c.args.old.now c.args.put.now c.in-Empty.is

pub returns-in_ok-fresh-in-Set-Set : goal.returns-in_ok-fresh-in-Set-Set
returns-in_ok-fresh-in-Set-Set c = IfOk-weaker c.set_events.result _ _
    (λ v e. e ∙ sets_fresh _ (record { cells = λ x z. refl; sets = λ x z. refl; maxes = λ x z. refl; one_two = λ x y. refl; two_one = λ x y. refl; set_max = λ x y. refl; max_set = λ x y. refl }) _ c.args.old.now c.args.put.now _ _ _ _ c.in-Set-Set.is-0 c.in-Set-Set.is-1 refl refl (c.deref.ensures.value ∙ c.in_ok-fresh-in-Set-Set.ensures))
    c.set_events.ensures

pub returns-in_ok-fresh-in-Max-Max : goal.returns-in_ok-fresh-in-Max-Max
returns-in_ok-fresh-in-Max-Max c = IfOk-weaker c.max_events.result _ _
    (λ v e. e ∙ maxes_fresh _ (record { cells = λ x z. refl; sets = λ x z. refl; maxes = λ x z. refl; one_two = λ x y. refl; two_one = λ x y. refl; set_max = λ x y. refl; max_set = λ x y. refl }) _ c.args.old.now c.args.put.now _ _ _ _ c.in-Max-Max.is-0 c.in-Max-Max.is-1 refl refl (c.deref-in-Max-Max.ensures.value ∙ c.in_ok-fresh-in-Max-Max.ensures))
    c.max_events.ensures
