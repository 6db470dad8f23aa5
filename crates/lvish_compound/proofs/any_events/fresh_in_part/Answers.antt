use Rattle.std.proofs.Common.{pos, map, refl, ◌∙◌, ap}
use Rattle.std.proofs.lemmas.Result.{IfOk-weaker}
use Rattle.lvish_compound.specs.EventNames.{part_event}
use Rattle.lvish_compound.proofs.PartCalls.{sets_fresh, maxes_fresh, set_names, max_names}
use Rattle.lvish_compound.proofs.any_events.fresh_in_part.Goals as goal

pub returns-in_ok-numbers-in-Set-Set : goal.returns-in_ok-numbers-in-Set-Set
returns-in_ok-numbers-in-Set-Set c = IfOk-weaker c.numbered.result _ _
    (λ v e. e ∙ set_names _ ∙ ap (map (part_event (pos 0))) (sets_fresh _ (record { cells = λ x z. refl; sets = λ x z. refl; maxes = λ x z. refl; one_two = λ x y. refl; two_one = λ x y. refl; set_max = λ x y. refl; max_set = λ x y. refl }) _ c.args.old.now c.args.put.now _ _ _ _ c.in-Set-Set.is-0 c.in-Set-Set.is-1 refl refl (c.deref.ensures.value ∙ c.in_ok-numbers-in-Set-Set.ensures)))
    c.numbered.ensures

pub returns-in_ok-numbers-in-Max-Max : goal.returns-in_ok-numbers-in-Max-Max
returns-in_ok-numbers-in-Max-Max c = IfOk-weaker c.numbered-in-Max-Max.result _ _
    (λ v e. e ∙ max_names _ ∙ ap (map (part_event (pos 0))) (maxes_fresh _ (record { cells = λ x z. refl; sets = λ x z. refl; maxes = λ x z. refl; one_two = λ x y. refl; two_one = λ x y. refl; set_max = λ x y. refl; max_set = λ x y. refl }) _ c.args.old.now c.args.put.now _ _ _ _ c.in-Max-Max.is-0 c.in-Max-Max.is-1 refl refl (c.deref-in-Max-Max.ensures.value ∙ c.in_ok-numbers-in-Max-Max.ensures)))
    c.numbered-in-Max-Max.ensures
