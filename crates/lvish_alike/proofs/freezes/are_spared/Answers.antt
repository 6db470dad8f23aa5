use Rattle.std.proofs.Common.{refl}
use Rattle.std.proofs.lemmas.Bool.{both_ways}
use Rattle.lvish_alike.specs.Deciding.{IsFreezeSpared}
use Rattle.lvish_alike.proofs.Spared.{all_none, all_more, all_all, not_all, spared_each, each_spared}
use Rattle.lvish_alike.proofs.freezes.are_spared.Goals as goal

pub loop-place-init : goal.loop-place-init
loop-place-init c = all_none (IsFreezeSpared c.args.own.now c.args.pools.now) c.args.own.now

pub returns-then-not-is_freeze_spared : goal.returns-then-not-is_freeze_spared
returns-then-not-is_freeze_spared c =
    let not = λ (s : IsFreezeSpared c.args.own.now c.args.pools.now c.loop-place.place c.index-own-place.result). both_ways _ c.if-not-is_freeze_spared.true (c.is_freeze_spared.ensures.1 s) in
    ((λ t. absurd (cc t)), (λ are. absurd (not_all (IsFreezeSpared c.args.own.now c.args.pools.now) c.args.own.now c.loop-place.place _ c.loop-place-test.true c.index-own-place.is not (spared_each c.args.own.now c.args.pools.now are))))

pub loop-place-preserved : goal.loop-place-preserved
loop-place-preserved c =
    all_more (IsFreezeSpared c.args.own.now c.args.pools.now) c.args.own.now c.loop-place.place _ c.loop-place-test.true c.index-own-place.is c.loop-place.invariant (c.is_freeze_spared.ensures.0 c.if-not-is_freeze_spared.false)

pub returns : goal.returns
returns c = ((λ t. each_spared c.args.own.now c.args.pools.now (all_all (IsFreezeSpared c.args.own.now c.args.pools.now) c.args.own.now c.loop-place.place c.loop-place-test.false c.loop-place.invariant)), (λ are. refl))
