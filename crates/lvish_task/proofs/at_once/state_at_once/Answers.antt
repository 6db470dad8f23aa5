use Rattle.std.proofs.Common.{◌≡◌, IfOk, IfSome, Some, rules, sym, ap, subst, w64}
use Rattle.std.proofs.lemmas.Int.{to_z-of_z}
use mir.Val.{SFits}
use Rattle.lvish_compound.specs.States.{cell, set, counter, entry}
use Rattle.lvish_compound.specs.declared.place.Place.TheVariants as place
use Rattle.lvish_task.specs.States.{put_at}
use Rattle.lvish_task.specs.Run.{target_place}
use Rattle.lvish_task.proofs.AtOnce.{given, given_there}
use Rattle.lvish_task.proofs.at_once.state_at_once.Goals as goal

pub returns-in-Whole-Cell : goal.returns-in-Whole-Cell
unfolding put_at
returns-in-Whole-Cell c =
    let at : place.Cell ≡ target_place c.args.values.now c.args.target = search rules in
    let is : c.cell.result ≡ cell c.args.n = search rules in
    subst (λ p. put_at p c.args.n ≡ Some c.cell.result) at (ap Some (sym is))

pub returns-in-Whole-Set : goal.returns-in-Whole-Set
unfolding put_at
returns-in-Whole-Set c =
    let at : place.Set ≡ target_place c.args.values.now c.args.target = search rules in
    let fits : SFits w64 c.args.n = c.ranges.n in
    let is : IfOk c.set.result (λ s. s ≡ set c.args.n) = simp to_z-of_z at c.set.ensures in
    subst (λ p. IfSome c.ok.result (λ s. put_at p c.args.n ≡ Some s)) at (given c.set.result c.ok.result (set c.args.n) c.ok.ensures.value is)

pub returns-in-Whole-Max : goal.returns-in-Whole-Max
unfolding put_at
returns-in-Whole-Max c =
    let at : place.Max ≡ target_place c.args.values.now c.args.target = search rules in
    let is : IfOk c.counter.result (λ s. counter c.args.n ≡ Some s) = search rules in
    subst (λ p. IfSome c.ok-in-Whole-Max.result (λ s. put_at p c.args.n ≡ Some s)) at (given_there c.counter.result c.ok-in-Whole-Max.result (counter c.args.n) c.ok-in-Whole-Max.ensures.value is)

pub returns-in-Entry : goal.returns-in-Entry
unfolding put_at
returns-in-Entry c =
    let fits : SFits w64 c.args.n = c.ranges.n in
    let key : SFits w64 c.operand.result = search rules in
    let is : IfOk c.entry.result (λ s. s ≡ entry c.operand.result c.args.n) = simp to_z-of_z at c.entry.ensures in
    subst (λ t. IfSome c.ok-in-Entry.result (λ s. put_at (target_place c.args.values.now t) c.args.n ≡ Some s)) (sym c.in-Entry.is) (subst (λ k. IfSome c.ok-in-Entry.result (λ s. Some (entry k c.args.n) ≡ Some s)) c.operand.ensures (given c.entry.result c.ok-in-Entry.result (entry c.operand.result c.args.n) c.ok-in-Entry.ensures.value is))
