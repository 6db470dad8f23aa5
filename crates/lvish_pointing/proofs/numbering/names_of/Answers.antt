use Rattle.std.proofs.Common.{◌≡◌, ◌↔◌, ◌∙◌, List, ap, map, take_all, Contains, subst, arith}
use Rattle.std.proofs.lemmas.Result.{IfOk-weaker}
use Rattle.lvish_facts.specs.Names.{Word, names_in}
use Rattle.lvish_pointing.specs.Numbers.{spelled, names_of}
use Rattle.lvish_pointing.proofs.numbering.names_of.Goals as goal

pub returns-clause-same : goal.returns-clause-same
returns-clause-same c =
    let whole = take_all c.loop-fact.fact-index c.args.facts.now (omega (arith, c.loop-fact-test.false)) in
    let words : names_in c.as_slice.result.now ≡ names_of (map spelled c.args.facts.now) = ap names_in c.as_slice.ensures.value ∙ c.loop-fact.invariant ∙ ap (λ fs. names_of (map spelled fs)) whole in
    IfOk-weaker c.sorted.result _ _ (λ v h w. subst (λ (ws : List Word). Contains (names_in v.items) w ↔ Contains ws w) words (h w)) c.sorted.ensures.same
