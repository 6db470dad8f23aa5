use Rattle.std.proofs.Common.{◌≡◌, ◌+◌, ◌<◌, length, arith, sym, ap, ◌∙◌}
use Rattle.std.proofs.lemmas.List.{length-map, length_push}
use Rattle.crossbeam_deque.specs.Handles.{worker_deque}
use Rattle.lvish_deal.specs.Deals.{deques}
use Rattle.lvish_deal.proofs.Deals.{cut_step, names_step, name_here, row_step, none_step, parts_step}
use Rattle.lvish_deal.proofs.dealing.row.Goals as goal

pub loop-k-preserved : goal.loop-k-preserved
loop-k-preserved g c =
    let ws = c.loop-k.owners.items in
    let deal = deques c.args.owners.now.items in
    let w = c.index_mut.result.now in
    let long : length c.loop-k.owners.items ≡ length c.args.owners.now.items = sym (length-map c.loop-k.owners.items worker_deque) ∙ ap length c.loop-k.invariant.names ∙ length-map c.args.owners.now.items worker_deque in
    let inside : c.loop-k.k < length c.loop-k.owners.items = omega arith in
    let within : c.loop-k.k < length (deques c.args.owners.now.items) = omega (arith, length-map c.args.owners.now.items worker_deque) in
    let e = worker_deque w in
    let this = c.in_ok-reach.ensures.reach.0 ∙ sym (name_here ws deal c.loop-k.k w e inside c.index_mut.ensures.value c.loop-k.invariant.names) in record {
      names = names_step ws _ c.loop-k.k w c.reach.new.own c.index_mut.ensures.value c.in_ok-reach.ensures.new.1 c.loop-k.invariant.names;
      reached = rw c.in_ok-push.ensures.items (row_step c.loop-k.row.items c.in_ok-reach.field-0 deal c.loop-k.k e within c.loop-k.invariant.reached this);
      count = rw c.in_ok-push.ensures.items (length_push _ _ ∙ ap (λ n. n + 1) c.loop-k.invariant.count);
      none = rw c.in_ok-push.ensures.items (none_step c.loop-k.row.items c.in_ok-reach.field-0 deal c.loop-k.k e within c.loop-k.invariant.none c.in_ok-reach.ensures.reach.1);
      parts = rw c.in_ok-push.ensures.items (parts_step c.args.number c.loop-k.k c.loop-k.row.items c.in_ok-reach.field-0 c.loop-k.invariant.count c.loop-k.invariant.parts c.in_ok-reach.ensures.parts);
      cut = cut_step c.args.number c.loop-k.k ws c.reach.new.own inside c.loop-k.invariant.cut c.in_ok-reach.ensures.new.0;
    }
