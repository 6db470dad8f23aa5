use Rattle.std.proofs.Common.{rules, ◌≡◌, ◌++◌, ◌∷◌, [], append-nil, length, sym, ap, ◌∙◌, arith}
use Rattle.std.specs.Vec.Iter.{into_iter_items, into_iter_len}
use Rattle.std.proofs.lemmas.List.{nil_from_length}
use Rattle.lvish_board.specs.Listed.{handings}
use Rattle.lvish_board.proofs.Listing.{handings_more}
use Rattle.lvish_board.proofs.step_work.list_handings.Goals as goal

pub loop-handler-init : goal.loop-handler-init
loop-handler-init g c =
    let it = c.into_iter-handler-iterator.ensures.into_iter_gives.0 in
    let len = c.into_iter-handler-iterator.ensures.into_iter_gives.1 in
    let long : into_iter_len c.into_iter-handler-iterator.result ≡ length (into_iter_items c.into_iter-handler-iterator.result) = search rules in
    record {
      can = tt;
      finite = tt;
      long = long;
      room = search rules;
      items = ap (λ ps. c.args.list.now.items ++ handings ps) it;
    }

pub loop-handler-preserved : goal.loop-handler-preserved
loop-handler-preserved g c =
    let steps : into_iter_items c.loop-handler.handler-iterator ≡ c.in-Some.handler ∷ into_iter_items c.next.new.self = c.in-Some.ensures.steps.0 in
    let gone = c.in-Some.ensures.steps.1 in
    let short = ap length steps in
    let was = c.loop-handler.invariant.long in
    let long : into_iter_len c.next.new.self ≡ length (into_iter_items c.next.new.self) = omega arith in
    record {
      can = tt;
      finite = tt;
      long = long;
      room = search rules;
      items = handings_more c.loop-handler.list.items c.push_reserved.new.self.items c.in-Some.handler (into_iter_items c.next.new.self) c.push_reserved.ensures.items ∙ sym (ap (λ ps. c.loop-handler.list.items ++ handings ps) steps) ∙ c.loop-handler.invariant.items;
    }

pub returns : goal.returns
returns g c =
    let empty : into_iter_items c.loop-handler.handler-iterator ≡ [] = nil_from_length _ (sym c.loop-handler.invariant.long ∙ c.in-None.ensures.steps.0) in
    sym (ap (λ ps. c.loop-handler.list.items ++ handings ps) empty ∙ append-nil c.loop-handler.list.items) ∙ c.loop-handler.invariant.items
