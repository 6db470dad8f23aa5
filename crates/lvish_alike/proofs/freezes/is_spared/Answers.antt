use Rattle.std.proofs.Common.{refl}
use Rattle.std.proofs.lemmas.Bool.{both_ways}
use Rattle.lvish_alike.specs.Deciding.{Spares}
use Rattle.lvish_alike.proofs.Spared.{all_none, all_more, all_all, not_all}
use Rattle.lvish_alike.proofs.freezes.is_spared.Goals as goal

pub loop-other-init : goal.loop-other-init
loop-other-init c = all_none (Spares c.args.pools.now c.args.place c.args.variable c.args.waits.now) c.args.own.now

pub returns-then-not-spares : goal.returns-then-not-spares
returns-then-not-spares c =
    let not = λ (s : Spares c.args.pools.now c.args.place c.args.variable c.args.waits.now c.loop-other.other c.index-own-other.result). both_ways _ c.if-not-spares.true (c.spares.ensures.1 s) in
    ((λ t. absurd (cc t)), (λ are. absurd (not_all (Spares c.args.pools.now c.args.place c.args.variable c.args.waits.now) c.args.own.now c.loop-other.other _ c.loop-other-test.true c.index-own-other.is not are)))

pub loop-other-preserved : goal.loop-other-preserved
loop-other-preserved c = all_more (Spares c.args.pools.now c.args.place c.args.variable c.args.waits.now) c.args.own.now c.loop-other.other _ c.loop-other-test.true c.index-own-other.is c.loop-other.invariant (c.spares.ensures.0 c.if-not-spares.false)

pub returns : goal.returns
returns c = ((λ t. all_all (Spares c.args.pools.now c.args.place c.args.variable c.args.waits.now) c.args.own.now c.loop-other.other c.loop-other-test.false c.loop-other.invariant), (λ are. refl))
