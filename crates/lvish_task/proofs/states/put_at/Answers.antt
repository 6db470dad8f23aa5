use Rattle.std.proofs.Common.{◌≡◌, IfOk, rules, ap, sym, subst, Some, w64}
use Rattle.std.proofs.lemmas.Int.{to_z-of_z}
use mir.Val.{SFits}
use Rattle.lvish_task.specs.States.{put_at}
use Rattle.lvish_task.proofs.states.put_at.Goals as goal

pub returns-in-Set : goal.returns-in-Set
unfolding put_at
returns-in-Set c =
    let fits : SFits w64 c.args.n = c.ranges.n in
    let is = simp to_z-of_z at c.state_of-in-Set.ensures in
    subst (λ p. IfOk c.state_of-in-Set.result (λ s. s ≡ put_at p c.args.n)) (sym c.in-Set.is) is

pub returns-in_ok-entry-in-Key : goal.returns-in_ok-entry-in-Key
unfolding put_at
returns-in_ok-entry-in-Key c =
    let fits : SFits w64 c.args.n = c.ranges.n in
    let key : SFits w64 c.in-Key.key = search rules in
    let is = simp to_z-of_z at c.in_ok-entry-in-Key.ensures in
    subst (λ p. Some c.in_ok-entry-in-Key.field-0 ≡ put_at p c.args.n) (sym c.in-Key.is) (ap Some is)
