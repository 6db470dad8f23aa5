use Rattle.std.proofs.Common.{◌+◌, ◌-◌, ◌/◌, ◌<◌, ◌∙◌, ap, arith, length, refl, sym}
use Rattle.std.proofs.lemmas.Option.{slice_get_read}
use Rattle.std.specs.Ordering.{partial_gt}
use Rattle.lvish_lattice.specs.Ascending.{ties_are_same}
use Rattle.lvish_compound.proofs.Placed.{narrowed_all, narrowed_up, narrowed_down, narrowed_at, narrowed_end, narrowed_gap, test_above, test_not_above, test_equal, test_other}
use Rattle.lvish_compound.proofs.block.place.Goals as goal

pub loop-low-init : goal.loop-low-init
loop-low-init g c =
    let R = g.K.Ord.cmp in
    let same = ties_are_same R g.met.K.Plain.identical g.met.K.Ord.matches_eq in
    let es = c.args.entries.now in
    narrowed_all R (λ x. x) g.met.K.Ord.total same (λ x y e. e) c.args.of es _ refl

pub loop-low-preserved-then-gt : goal.loop-low-preserved-then-gt
loop-low-preserved-then-gt g c =
    let R = g.K.Ord.cmp in
    let same = ties_are_same R g.met.K.Plain.identical g.met.K.Ord.matches_eq in
    let es = c.args.entries.now in
    let x = c.index-entries-middle.result in
    let n = c.loop-low.invariant in
    let lt = c.loop-low-test.true in
    let middle = c.loop-low.low + (c.loop-low.top - c.loop-low.low) / 2 in
    let under : middle < c.loop-low.top = omega arith in
    let there = slice_get_read es (length es) middle x refl (let t = n.1 in omega arith) c.index-entries-middle.is in
    narrowed_up R (λ x. x) g.met.K.Ord.total same (λ x y e. e) c.args.of es c.requires c.loop-low.low c.loop-low.top middle x n under there (test_above R g.K.PartialOrd.partial_cmp g.met.K.Ord.matches_partial_cmp c.args.of x.0 (ap (λ (y : _ × _). partial_gt g.K.PartialOrd.partial_cmp c.args.of y.0) c.index-entries-middle.is ∙ sym c.gt.ensures ∙ c.if-gt.true))

pub loop-low-preserved : goal.loop-low-preserved
loop-low-preserved g c =
    let R = g.K.Ord.cmp in
    let same = ties_are_same R g.met.K.Plain.identical g.met.K.Ord.matches_eq in
    let es = c.args.entries.now in
    let x = c.index-entries-middle.result in
    let n = c.loop-low.invariant in
    let lt = c.loop-low-test.true in
    let middle = c.loop-low.low + (c.loop-low.top - c.loop-low.low) / 2 in
    let under : middle < c.loop-low.top = omega arith in
    let there = slice_get_read es (length es) middle x refl (let t = n.1 in omega arith) c.index-entries-middle.is in
    narrowed_down R (λ x. x) g.met.K.Ord.total same (λ x y e. e) c.args.of es c.requires c.loop-low.low c.loop-low.top middle x n (omega arith) under there (test_not_above R g.K.PartialOrd.partial_cmp g.met.K.Ord.matches_partial_cmp c.args.of x.0 (ap (λ (y : _ × _). partial_gt g.K.PartialOrd.partial_cmp c.args.of y.0) c.index-entries-middle.is ∙ sym c.gt.ensures ∙ c.if-gt.false))

pub returns-then-low-entries-clause-gap : goal.returns-then-low-entries-clause-gap
returns-then-low-entries-clause-gap g c =
    let R = g.K.Ord.cmp in
    let same = ties_are_same R g.met.K.Plain.identical g.met.K.Ord.matches_eq in
    let es = c.args.entries.now in
    narrowed_end R (λ x. x) g.met.K.Ord.total same (λ x y e. e) c.args.of es c.requires c.loop-low.low c.loop-low.top c.loop-low.invariant c.loop-low-test.false c.if-low-entries.true

pub returns-then-eq-clause-found : goal.returns-then-eq-clause-found
returns-then-eq-clause-found g c =
    let R = g.K.Ord.cmp in
    let same = ties_are_same R g.met.K.Plain.identical g.met.K.Ord.matches_eq in
    let es = c.args.entries.now in
    let x = c.index-entries-low.result in
    let n = c.loop-low.invariant in
    let lt : c.loop-low.low < length es = (let a = n.0 in let b = n.1 in let d = c.if-low-entries.false in omega arith) in
    let there = slice_get_read es (length es) c.loop-low.low x refl lt c.index-entries-low.is in
    narrowed_at R (λ x. x) g.met.K.Ord.total same (λ x y e. e) c.args.of es c.requires c.loop-low.low x lt there (test_equal R g.K.PartialEq.eq g.met.K.Ord.matches_eq c.args.of x.0 (ap (λ (y : _ × _). g.K.PartialEq.eq c.args.of y.0) c.index-entries-low.is ∙ sym c.eq.ensures ∙ c.if-eq.true))

pub returns-clause-gap : goal.returns-clause-gap
returns-clause-gap g c =
    let R = g.K.Ord.cmp in
    let same = ties_are_same R g.met.K.Plain.identical g.met.K.Ord.matches_eq in
    let es = c.args.entries.now in
    let x = c.index-entries-low.result in
    let n = c.loop-low.invariant in
    let lt : c.loop-low.low < length es = (let a = n.0 in let b = n.1 in let d = c.if-low-entries.false in omega arith) in
    let there = slice_get_read es (length es) c.loop-low.low x refl lt c.index-entries-low.is in
    narrowed_gap R (λ x. x) g.met.K.Ord.total same (λ x y e. e) c.args.of es c.requires c.loop-low.low c.loop-low.top x n c.loop-low-test.false there (test_other R g.K.PartialEq.eq g.met.K.Ord.matches_eq c.args.of x.0 (ap (λ (y : _ × _). g.K.PartialEq.eq c.args.of y.0) c.index-entries-low.is ∙ sym c.eq.ensures ∙ c.if-eq.false))
