use Rattle.std.proofs.Common.{subst}
use Rattle.lvish_run.specs.Crew.{MakesBy}
use Rattle.lvish_run.proofs.Made.{by_act, of_slot, still_ours}
use Rattle.lvish_run.proofs.staffed.Staffed.act.Goals as goal

pub invariant_of-self : goal.invariant_of-self
invariant_of-self g c =
    still_ours g.B.Staff.workers c.number-number.result _ _ c.number-number.ensures.ours
    (of_slot _ c.requires.there (λ a is. by_act _ _ _ _ _ _ _ _ _ a (c.act_into-came.ensures.comes a is))) c.self.invariant

pub returns : goal.returns
returns g c =
    subst (λ w. MakesBy w c.args.self.now.trace c.act_into-came.new.self.trace) c.number-number.ensures.number
    (subst (λ s. MakesBy c.number-number.result s.trace c.act_into-came.new.self.trace) c.self.view_is
    (of_slot _ c.requires.there (λ a is. by_act _ _ _ _ _ _ _ _ _ a (c.act_into-came.ensures.comes a is))))
