use Rattle.std.proofs.Common.{◌≡◌, ap, sym, subst, Some, w64}
use Rattle.std.proofs.lemmas.Int.{to_z-of_z}
use mir.Val.{SFits}
use Rattle.lvish_compound.specs.StateReads.{state_of}
use Rattle.lvish_task.proofs.states.state_of.Goals as goal

pub returns-in_ok-set-in-Set : goal.returns-in_ok-set-in-Set
returns-in_ok-set-in-Set c =
    let fits : SFits w64 c.args.n = c.ranges.n in
    let is = simp to_z-of_z at c.in_ok-set-in-Set.ensures in
    subst (λ k. Some c.in_ok-set-in-Set.field-0 ≡ state_of k c.args.n) (sym c.in-Set.is) (ap Some is)
