use Rattle.std.proofs.Common.{rules, ◌≡◌, ◌++◌, ◌∷◌, [], append-nil, append_assoc, length, map, sym, ap, ◌∙◌, arith}
use Rattle.std.specs.Vec.Iter.{into_iter_items, into_iter_len}
use Rattle.std.proofs.lemmas.List.{nil_from_length}
use Rattle.lvish_run.specs.Walk.{final_state}
use Rattle.lvish_run.proofs.account.final_states.Goals as goal

pub loop-variable-init : goal.loop-variable-init
loop-variable-init g c =
    let it = c.into_iter-variable-iterator.ensures.into_iter_gives.0 in
    let long : into_iter_len c.into_iter-variable-iterator.result ≡ length (into_iter_items c.into_iter-variable-iterator.result) = search rules in
    record {
      can = tt;
      finite = tt;
      long = long;
      items = rw c.new-states.ensures.items (ap (map final_state) it);
    }

pub loop-variable-preserved : goal.loop-variable-preserved
loop-variable-preserved g c =
    let steps : into_iter_items c.loop-variable.variable-iterator ≡ c.in-Some.variable ∷ into_iter_items c.next.new.self = c.in-Some.ensures.steps.0 in
    let short = ap length steps in
    let was = c.loop-variable.invariant.long in
    let long : into_iter_len c.next.new.self ≡ length (into_iter_items c.next.new.self) = omega arith in
    let pushed = c.in_ok-add_state.ensures in
    record {
      can = tt;
      finite = tt;
      long = long;
      items = ap (λ l. l ++ map final_state (into_iter_items c.next.new.self)) pushed
          ∙ append_assoc c.loop-variable.states.items (final_state c.in-Some.variable ∷ []) (map final_state (into_iter_items c.next.new.self))
          ∙ sym (ap (λ vs. c.loop-variable.states.items ++ map final_state vs) steps) ∙ c.loop-variable.invariant.items;
    }

pub returns : goal.returns
returns g c =
    let empty : into_iter_items c.loop-variable.variable-iterator ≡ [] = nil_from_length _ (sym c.loop-variable.invariant.long ∙ c.in-None.ensures.steps.0) in
    c.from.ensures ∙ sym (ap (λ vs. c.loop-variable.states.items ++ map final_state vs) empty ∙ append-nil c.loop-variable.states.items) ∙ c.loop-variable.invariant.items
