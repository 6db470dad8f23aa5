use Rattle.std.proofs.lemmas.Bool.{both_ways, leb-true, le-leb}
use Rattle.lvish_alike.specs.Deciding.{WaitsFor}
use Rattle.lvish_alike.proofs.Spared.{all_none, all_more, waited_here, waited_no_earlier, waited_never}
use Rattle.lvish_alike.proofs.freezes.is_waited_for.Goals as goal

pub loop-other-init : goal.loop-other-init
loop-other-init c = all_none (λ j n. WaitsFor n c.args.pool → ⊥) c.args.own.now

pub returns-then-waits_for : goal.returns-then-waits_for
returns-then-waits_for c = (
  (λ t. waited_here c.args.own.now c.args.pool c.loop-other.other c.args.place _ c.loop-other-test.true c.index-own-other.is (c.waits_for.ensures.0 c.if-waits_for.true) (leb-true _ _ t)),
  (λ waited. le-leb _ _ (waited_no_earlier c.args.own.now c.args.pool c.loop-other.other c.args.place c.loop-other.invariant waited)),
)

pub loop-other-preserved : goal.loop-other-preserved
loop-other-preserved c =
    all_more (λ j n. WaitsFor n c.args.pool → ⊥) c.args.own.now c.loop-other.other _ c.loop-other-test.true c.index-own-other.is c.loop-other.invariant
    (λ waits. both_ways _ c.if-waits_for.false (c.waits_for.ensures.1 waits))

pub returns : goal.returns
returns c = ((λ t. absurd (cc t)), (λ waited. absurd (waited_never c.args.own.now c.args.pool c.loop-other.other c.args.place c.loop-other-test.false c.loop-other.invariant waited)))
