use Rattle.std.proofs.Common.{◌≡◌, ◌≤◌, ◌+◌, ◌∙◌, true, Some, length, sym, ap, subst, rules}
use Rattle.std.specs.List.{slice_get}
use Rattle.std.proofs.lemmas.Bool.{both_ways}
use Rattle.lvish_alike.specs.Sought.{linked, given_by, AreAdded}
use Rattle.lvish_alike.proofs.Marks.{marked_at, marked_is, given_read}
use Rattle.lvish_alike.proofs.Adding.{AreGivenBefore, given_begins, given_goes, given_stays, given_all, written_back}
use Rattle.lvish_alike.proofs.given.linked_from.Goals as goal
use Rattle.lvish_alike.proofs.given.linked_from.Goals.{then-marks-place, else-marks-place}

pub loop-place-init : goal.loop-place-init
loop-place-init c = given_begins (linked c.args.link) c.args.routines.now c.args.marks.now (length c.args.routines.now) c.in_ok-given.given.items (search rules)

pub loop-place-preserved : goal.loop-place-preserved
loop-place-preserved c =
    let f = (linked c.args.link) in
    let place = c.loop-place.place in
    elim c.if-marks-place.branch [
      | then-marks-place w ↦
          let there = marked_at c.args.marks.now place _ c.requires c.loop-place-test.true w.if-marks-place.true in
          let read = given_read f c.args.routines.now place _ _ c.loop-place-test.true w.as_slice.ensures in
          let from = subst (λ ks. AreAdded w.deref_mut.result.now ks w.mark_linked.new.marks) (sym read) w.mark_linked.ensures in
          let added = subst (λ m. AreAdded m (given_by f c.args.routines.now place) w.mark_linked.new.marks) w.deref_mut.ensures.value from in
          let count : length w.mark_linked.new.marks ≡ c.loop-place.given.len = w.mark_linked.ensures.count ∙ ap length w.deref_mut.ensures.value ∙ sym c.loop-place.given.ok.0 in
          subst (λ v. AreGivenBefore f c.args.routines.now c.args.marks.now (length c.args.routines.now) (place + 1) v.items) (sym w.given-is)
          (subst (AreGivenBefore f c.args.routines.now c.args.marks.now (length c.args.routines.now) (place + 1)) (sym (written_back c.loop-place.given.len w.mark_linked.new.marks c.loop-place.given.items count))
          (given_goes f c.args.routines.now c.args.marks.now (length c.args.routines.now) place c.loop-place.given.items w.mark_linked.new.marks there c.loop-place.invariant added))
      | else-marks-place w ↦
          let not = λ (e : slice_get c.args.marks.now place ≡ Some true). both_ways _ w.if-marks-place.false (marked_is c.args.marks.now place e) in
          subst (λ v. AreGivenBefore f c.args.routines.now c.args.marks.now (length c.args.routines.now) (place + 1) v.items) (sym w.given-is)
          (given_stays f c.args.routines.now c.args.marks.now (length c.args.routines.now) place c.loop-place.given.items not c.loop-place.invariant)
    ]

pub returns : goal.returns
returns c =
    given_all (linked c.args.link) c.args.routines.now c.args.marks.now (length c.args.routines.now) c.loop-place.place c.loop-place.given.items (subst (λ n. n ≤ c.loop-place.place) (sym c.requires) c.loop-place-test.false) c.loop-place.invariant
