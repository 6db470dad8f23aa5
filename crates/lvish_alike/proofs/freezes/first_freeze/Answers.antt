use Rattle.std.proofs.lemmas.Bool.{both_ways}
use Rattle.lvish_alike.specs.Deciding.{FreezesOneOf}
use Rattle.lvish_alike.proofs.Spared.{all_none, all_more, freezes_first, freezes_never}
use Rattle.lvish_alike.proofs.freezes.first_freeze.Goals as goal

pub loop-place-init : goal.loop-place-init
loop-place-init c = all_none (λ j n. FreezesOneOf c.args.marks.now n → ⊥) c.args.own.now

pub returns-then-freezes_marked-clause-found : goal.returns-then-freezes_marked-clause-found
returns-then-freezes_marked-clause-found c =
    freezes_first c.args.own.now c.args.marks.now c.loop-place.place _ c.loop-place-test.true c.index-own-place.is (c.freezes_marked.ensures.0 c.if-freezes_marked.true) c.loop-place.invariant

pub loop-place-preserved : goal.loop-place-preserved
loop-place-preserved c =
    all_more (λ j n. FreezesOneOf c.args.marks.now n → ⊥) c.args.own.now c.loop-place.place _ c.loop-place-test.true c.index-own-place.is c.loop-place.invariant
    (λ one. both_ways _ c.if-freezes_marked.false (c.freezes_marked.ensures.1 one))

pub returns-clause-none : goal.returns-clause-none
returns-clause-none c = freezes_never c.args.own.now c.args.marks.now c.loop-place.place c.loop-place-test.false c.loop-place.invariant
