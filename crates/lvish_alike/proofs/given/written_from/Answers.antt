use Rattle.std.proofs.Common.{◌≡◌, ◌≤◌, ◌+◌, ◌∙◌, true, Some, length, sym, ap, subst, rules}
use Rattle.std.specs.List.{slice_get}
use Rattle.std.proofs.lemmas.Bool.{both_ways}
use Rattle.lvish_alike.specs.Sought.{instruction_writes, given_by, AreAdded}
use Rattle.lvish_alike.proofs.Marks.{marked_at, marked_is, given_read}
use Rattle.lvish_alike.proofs.Adding.{AreGivenBefore, given_begins, given_goes, given_stays, given_all, written_back}
use Rattle.lvish_alike.proofs.given.written_from.Goals as goal
use Rattle.lvish_alike.proofs.given.written_from.Goals.{then-marks-place, else-marks-place}

pub loop-place-init : goal.loop-place-init
loop-place-init c = given_begins (instruction_writes c.args.pools.now) c.args.routines.now c.args.marks.now c.args.variables c.in_ok-written.written.items (search rules)

pub loop-place-preserved : goal.loop-place-preserved
loop-place-preserved c =
    let f = (instruction_writes c.args.pools.now) in
    let place = c.loop-place.place in
    elim c.if-marks-place.branch [
      | then-marks-place w ↦
          let there = marked_at c.args.marks.now place _ c.requires c.loop-place-test.true w.if-marks-place.true in
          let read = given_read f c.args.routines.now place _ _ c.loop-place-test.true w.as_slice.ensures in
          let from = subst (λ ks. AreAdded w.deref_mut.result.now ks w.mark_written.new.marks) (sym read) w.mark_written.ensures in
          let added = subst (λ m. AreAdded m (given_by f c.args.routines.now place) w.mark_written.new.marks) w.deref_mut.ensures.value from in
          let count : length w.mark_written.new.marks ≡ c.loop-place.written.len = w.mark_written.ensures.count ∙ ap length w.deref_mut.ensures.value ∙ sym c.loop-place.written.ok.0 in
          subst (λ v. AreGivenBefore f c.args.routines.now c.args.marks.now c.args.variables (place + 1) v.items) (sym w.written-is)
          (subst (AreGivenBefore f c.args.routines.now c.args.marks.now c.args.variables (place + 1)) (sym (written_back c.loop-place.written.len w.mark_written.new.marks c.loop-place.written.items count))
          (given_goes f c.args.routines.now c.args.marks.now c.args.variables place c.loop-place.written.items w.mark_written.new.marks there c.loop-place.invariant added))
      | else-marks-place w ↦
          let not = λ (e : slice_get c.args.marks.now place ≡ Some true). both_ways _ w.if-marks-place.false (marked_is c.args.marks.now place e) in
          subst (λ v. AreGivenBefore f c.args.routines.now c.args.marks.now c.args.variables (place + 1) v.items) (sym w.written-is)
          (given_stays f c.args.routines.now c.args.marks.now c.args.variables place c.loop-place.written.items not c.loop-place.invariant)
    ]

pub returns : goal.returns
returns c =
    given_all (instruction_writes c.args.pools.now) c.args.routines.now c.args.marks.now c.args.variables c.loop-place.place c.loop-place.written.items (subst (λ n. n ≤ c.loop-place.place) (sym c.requires) c.loop-place-test.false) c.loop-place.invariant
