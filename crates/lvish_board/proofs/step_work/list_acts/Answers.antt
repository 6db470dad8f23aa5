use Rattle.std.proofs.Common.{rules, ◌≡◌, ◌++◌, ◌∷◌, [], append-nil, length, sym, ap, ◌∙◌, arith}
use Rattle.std.specs.Vec.Iter.{into_iter_items, into_iter_len}
use Rattle.std.proofs.lemmas.List.{nil_from_length}
use Rattle.lvish_board.specs.Listed.{acts}
use Rattle.lvish_board.proofs.Listing.{acts_more}
use Rattle.lvish_board.proofs.step_work.list_acts.Goals as goal

pub loop-asked-init : goal.loop-asked-init
loop-asked-init g c =
    let it = c.into_iter-asked-iterator.ensures.into_iter_gives.0 in
    let len = c.into_iter-asked-iterator.ensures.into_iter_gives.1 in
    let long : into_iter_len c.into_iter-asked-iterator.result ≡ length (into_iter_items c.into_iter-asked-iterator.result) = search rules in
    record {
      can = tt;
      finite = tt;
      long = long;
      len = search rules;
      capacity = search rules;
      items = ap (λ ps. c.args.list.now.items ++ acts ps) it;
    }

pub loop-asked-preserved : goal.loop-asked-preserved
loop-asked-preserved g c =
    let steps : into_iter_items c.loop-asked.asked-iterator ≡ c.in-Some.asked ∷ into_iter_items c.next.new.self = c.in-Some.ensures.steps.0 in
    let gone = c.in-Some.ensures.steps.1 in
    let short = ap length steps in
    let was = c.loop-asked.invariant.long in
    let long : into_iter_len c.next.new.self ≡ length (into_iter_items c.next.new.self) = omega arith in
    record {
      can = tt;
      finite = tt;
      long = long;
      len = omega arith;
      capacity = search rules;
      items = acts_more c.loop-asked.list.items c.push_reserved.new.self.items c.in-Some.asked (into_iter_items c.next.new.self) c.push_reserved.ensures.items ∙ sym (ap (λ ps. c.loop-asked.list.items ++ acts ps) steps) ∙ c.loop-asked.invariant.items;
    }

pub returns-clause-items : goal.returns-clause-items
returns-clause-items g c =
    let empty : into_iter_items c.loop-asked.asked-iterator ≡ [] = nil_from_length _ (sym c.loop-asked.invariant.long ∙ c.in-None.ensures.steps.0) in
    sym (ap (λ ps. c.loop-asked.list.items ++ acts ps) empty ∙ append-nil c.loop-asked.list.items) ∙ c.loop-asked.invariant.items
