use Rattle.std.proofs.lemmas.Bool.{both_ways}
use Rattle.std.proofs.lemmas.Result.{IfOk-weaker}
use Rattle.lvish_alike.proofs.layered.are_layers.Goals as goal

pub returns-then-not-are_spared : goal.returns-then-not-are_spared
returns-then-not-are_spared c = ((λ t. absurd (cc t)), (λ layers. absurd (both_ways _ c.if-not-are_spared.true (c.are_spared.ensures.1 layers.0))))

pub returns-then-not-alone : goal.returns-then-not-alone
returns-then-not-alone c = ((λ t. absurd (cc t)), (λ layers. absurd (both_ways _ c.if-not-alone.true (c.in_ok-alone.ensures.1 layers.1))))

pub returns-then-not-called : goal.returns-then-not-called
returns-then-not-called c = ((λ t. absurd (cc t)), (λ layers. absurd (both_ways _ c.if-not-called.true (c.in_ok-called.ensures.1 layers.2))))

pub returns-then-not-free : goal.returns-then-not-free
returns-then-not-free c = ((λ t. absurd (cc t)), (λ layers. absurd (both_ways _ c.if-not-free.true (c.in_ok-free.ensures.1 layers.3))))

pub returns : goal.returns
returns c =
    let spared = c.are_spared.ensures.0 c.if-not-are_spared.false in
    let alone = c.in_ok-alone.ensures.0 c.if-not-alone.false in
    let called = c.in_ok-called.ensures.0 c.if-not-called.false in
    let free = c.in_ok-free.ensures.0 c.if-not-free.false in
    IfOk-weaker c.pools_keep.result _ _ (λ b z. ((λ t. (spared, alone, called, free, z.0 t)), (λ layers. z.1 layers.4))) c.pools_keep.ensures
