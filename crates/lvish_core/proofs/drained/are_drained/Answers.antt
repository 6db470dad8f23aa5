use Rattle.std.proofs.Common.{ap, ◌∙◌, length, length-append, refl}
use Rattle.std.specs.Slice.Iter.{iter_rest}
use Rattle.std.specs.Iterator.Adapters.{zip_first, zip_second}
use Rattle.std.proofs.lemmas.Slice.Zip.{zip_turn, zip_end}
use Rattle.std.proofs.lemmas.Bool.{false≢true, both_ways}
use Rattle.lvish_core.proofs.Ready.{within_here, one_more, not_all, all_below}
use Rattle.lvish_core.proofs.drained.are_drained.Goals as goal

pub drained-requires : goal.drained-requires
drained-requires g c =
    let first = ap (λ z. iter_rest (zip_first z)) c.into_iter-variable-iterator.ensures.into_iter_gives ∙ ap iter_rest c.zip-variable-items.ensures.first ∙ c.iter.ensures.rest in
    let second = ap (λ z. iter_rest (zip_second z)) c.into_iter-variable-iterator.ensures.into_iter_gives ∙ ap iter_rest c.zip-variable-items.ensures.second ∙ c.iter-2.ensures.rest in
    let turn = zip_turn c.args.variables.now c.args.handlers.now c.loop-variable.yielded _ _ c.next.new.self _ first second c.loop-variable.yielded_by (c.in-Some.variable, c.in-Some.handlers) c.in-Some.is c.next.ensures.steps in
    within_here c.args.variables.now c.args.handlers.now _ _ _ turn.2 turn.0 turn.3 turn.1 c.requires

pub returns-then-not-drained : goal.returns-then-not-drained
returns-then-not-drained g c =
    let first = ap (λ z. iter_rest (zip_first z)) c.into_iter-variable-iterator.ensures.into_iter_gives ∙ ap iter_rest c.zip-variable-items.ensures.first ∙ c.iter.ensures.rest in
    let second = ap (λ z. iter_rest (zip_second z)) c.into_iter-variable-iterator.ensures.into_iter_gives ∙ ap iter_rest c.zip-variable-items.ensures.second ∙ c.iter-2.ensures.rest in
    let turn = zip_turn c.args.variables.now c.args.handlers.now c.loop-variable.yielded _ _ c.next.new.self _ first second c.loop-variable.yielded_by (c.in-Some.variable, c.in-Some.handlers) c.in-Some.is c.next.ensures.steps in (
      λ z. absurd (false≢true z),
      λ z. absurd (not_all c.args.variables.now c.args.handlers.now _ _ _ turn.2 turn.0 turn.3 turn.1 (λ all. both_ways c.drained.result c.if-not-drained.true (c.drained.ensures.1 all)) z),
    )

pub loop-variable-preserved : goal.loop-variable-preserved
loop-variable-preserved g c =
    let first = ap (λ z. iter_rest (zip_first z)) c.into_iter-variable-iterator.ensures.into_iter_gives ∙ ap iter_rest c.zip-variable-items.ensures.first ∙ c.iter.ensures.rest in
    let second = ap (λ z. iter_rest (zip_second z)) c.into_iter-variable-iterator.ensures.into_iter_gives ∙ ap iter_rest c.zip-variable-items.ensures.second ∙ c.iter-2.ensures.rest in
    let turn = zip_turn c.args.variables.now c.args.handlers.now c.loop-variable.yielded _ _ c.next.new.self _ first second c.loop-variable.yielded_by (c.in-Some.variable, c.in-Some.handlers) c.in-Some.is c.next.ensures.steps in
    one_more c.args.variables.now c.args.handlers.now _ _ _ turn.2 turn.0 turn.3 turn.1 c.loop-variable.invariant (c.drained.ensures.0 c.if-not-drained.false) _ (length-append c.loop-variable.yielded _)

pub returns : goal.returns
returns g c =
    let first = ap (λ z. iter_rest (zip_first z)) c.into_iter-variable-iterator.ensures.into_iter_gives ∙ ap iter_rest c.zip-variable-items.ensures.first ∙ c.iter.ensures.rest in
    let second = ap (λ z. iter_rest (zip_second z)) c.into_iter-variable-iterator.ensures.into_iter_gives ∙ ap iter_rest c.zip-variable-items.ensures.second ∙ c.iter-2.ensures.rest in
    let turn = zip_end c.args.variables.now c.args.handlers.now c.loop-variable.yielded _ _ c.next.new.self _ first second c.loop-variable.yielded_by c.in-None.is c.next.ensures.steps in
    (λ z. all_below c.args.variables.now c.args.handlers.now (length c.loop-variable.yielded) c.loop-variable.invariant turn, λ z. refl)
