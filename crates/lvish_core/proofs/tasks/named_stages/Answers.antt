use Rattle.std.proofs.Common.{ap, ◌∙◌, length-append}
use Rattle.std.specs.Slice.Iter.{iter_rest}
use Rattle.std.specs.Iterator.Adapters.{zip_first, zip_second}
use Rattle.std.proofs.lemmas.Slice.Zip.{zip_turn, zip_end}
use Rattle.lvish_core.proofs.Staged.{named_all, named_more}
use Rattle.lvish_core.proofs.tasks.named_stages.Goals as goal

pub loop-name-preserved : goal.loop-name-preserved
loop-name-preserved g c =
    let first = ap (λ z. iter_rest (zip_first z)) c.into_iter-name-iterator.ensures.into_iter_gives ∙ ap iter_rest c.zip-name-items.ensures.first ∙ c.iter.ensures.rest in
    let second = ap (λ z. iter_rest (zip_second z)) c.into_iter-name-iterator.ensures.into_iter_gives ∙ ap iter_rest c.zip-name-items.ensures.second ∙ c.iter-2.ensures.rest in
    let turn = zip_turn c.args.names.now c.args.stages.now c.loop-name.yielded _ _ c.next.new.self _ first second c.loop-name.yielded_by (c.in-Some.name, c.in-Some.stage) c.in-Some.is c.next.ensures.steps in
    named_more c.args.names.now c.args.stages.now c.loop-name.named.items _ c.loop-name.invariant (c.in-Some.name, c.in-Some.stage) turn.0 turn.1 turn.2 turn.3 _ (length-append c.loop-name.yielded _) _ c.in_ok-push.ensures.items

pub returns : goal.returns
returns g c =
    let first = ap (λ z. iter_rest (zip_first z)) c.into_iter-name-iterator.ensures.into_iter_gives ∙ ap iter_rest c.zip-name-items.ensures.first ∙ c.iter.ensures.rest in
    let second = ap (λ z. iter_rest (zip_second z)) c.into_iter-name-iterator.ensures.into_iter_gives ∙ ap iter_rest c.zip-name-items.ensures.second ∙ c.iter-2.ensures.rest in
    named_all c.args.names.now c.args.stages.now c.loop-name.named.items _ c.loop-name.invariant
    (zip_end c.args.names.now c.args.stages.now c.loop-name.yielded _ _ c.next.new.self _ first second c.loop-name.yielded_by c.in-None.is c.next.ensures.steps)
