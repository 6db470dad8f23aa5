use Rattle.std.proofs.Common.{◌≡◌, ◌∙◌, inl, inr, sym, ap, subst, arith, true, Some}
use Rattle.std.specs.List.{slice_get}
use Rattle.std.proofs.lemmas.Bool.{both_ways}
use Rattle.lvish_calculus.specs.Handing.{IsAmong}
use Rattle.lvish_alike.specs.Sought.{found_in, given_by}
use Rattle.lvish_alike.proofs.Marks.{marked_at, marked_is, marked_within, below_or_at, given_read}
use Rattle.lvish_alike.proofs.Search.{if_some, first_among, none_first}
use Rattle.lvish_alike.proofs.sought.first.Goals as goal
use Rattle.lvish_alike.proofs.sought.first.Goals.{then-marks-place+else-is_some, else-marks-place}

pub returns-then-is_some-clause-found : goal.returns-then-is_some-clause-found
returns-then-is_some-clause-found c =
    let f = found_in c.args.marks.now c.args.sought in
    let lt = c.loop-place-test.true in
    let given = given_read f c.args.routines.now c.loop-place.place _ _ lt c.as_slice.ensures in
    if_some c.first_in-found.result _ (λ k e. (c.loop-place.place, marked_at c.args.marks.now c.loop-place.place _ c.requires.same_length lt c.if-marks-place.true, subst (λ l. IsAmong k l) (sym given) (first_among _ _ c.first_in-found.ensures k e)))

pub loop-place-preserved : goal.loop-place-preserved
loop-place-preserved c = elim c.if-marks-place.branch [
  | then-marks-place+else-is_some w ↦
      let f = found_in c.args.marks.now c.args.sought in
      let none = given_read f c.args.routines.now c.loop-place.place _ _ c.loop-place-test.true w.as_slice.ensures ∙ none_first _ _ w.first_in-found.ensures (sym w.is_some.ensures ∙ w.if-is_some.false) in
      λ j lt e. elim (below_or_at j c.loop-place.place lt) [ inl same ↦ ap (given_by f c.args.routines.now) same ∙ none | inr less ↦ c.loop-place.invariant j less e ]
  | else-marks-place w ↦ λ j lt e. elim (below_or_at j c.loop-place.place lt) [
    | inl same ↦ absurd (both_ways _ w.if-marks-place.false (marked_is c.args.marks.now c.loop-place.place (subst (λ k. slice_get c.args.marks.now k ≡ Some true) same e)))
    | inr less ↦ c.loop-place.invariant j less e
  ]
]

pub returns-clause-nowhere : goal.returns-clause-nowhere
returns-clause-nowhere c = λ j e.
    let inside = marked_within c.args.marks.now j _ c.requires.same_length e in
    let over = c.loop-place-test.false in
    c.loop-place.invariant j (omega (arith, inside, over)) e
