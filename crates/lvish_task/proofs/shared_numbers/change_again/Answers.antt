use Rattle.std.proofs.Common.{◌≡◌, ◌+◌, ◌-◌, length, pos, drop, refl, sym, ap, ◌∙◌, subst, arith}
use Rattle.std.proofs.lemmas.List.{drop_all}
use Rattle.lvish_task.specs.Changes.{changed}
use Rattle.lvish_task.proofs.Changes.{LeaveAlone, alone_more, changed_again, made}
use Rattle.lvish_task.proofs.shared_numbers.change_again.Goals as goal

pub loop-place-init : goal.loop-place-init
loop-place-init c = record {
  same = refl;
  within = omega arith;
  alone = subst (LeaveAlone c.args.change.local) (sym (drop_all (length c.args.changes.now) c.args.changes.now (omega arith))) tt;
}

pub returns-then-changes-place : goal.returns-then-changes-place
returns-then-changes-place c =
    let some = c.loop-place-test.true in
    let within = c.loop-place.invariant.within in
    let at = c.loop-place.place - 1 in
    let same : at + 1 ≡ c.loop-place.place = omega (arith, some) in
    let alone = subst (λ n. LeaveAlone c.args.change.local (drop n c.loop-place.changes)) (sym same) c.loop-place.invariant.alone in
    λ numbers.
    changed_again numbers c.loop-place.changes at (record { local = 0; value = pos 0 }) c.args.change (omega (arith, some, within)) c.if-changes-place.true alone
    ∙ ap (λ cs. made (changed numbers cs) c.args.change) c.loop-place.invariant.same

pub loop-place-preserved : goal.loop-place-preserved
loop-place-preserved c =
    let some = c.loop-place-test.true in
    let within = c.loop-place.invariant.within in
    let at = c.loop-place.place - 1 in
    let same : at + 1 ≡ c.loop-place.place = omega (arith, some) in
    let alone = subst (λ n. LeaveAlone c.args.change.local (drop n c.loop-place.changes)) (sym same) c.loop-place.invariant.alone in
    record {
      same = c.loop-place.invariant.same;
      within = omega (arith, within);
      alone = alone_more c.args.change.local c.loop-place.changes at (record { local = 0; value = pos 0 }) (omega (arith, some, within)) c.if-changes-place.false alone;
    }
