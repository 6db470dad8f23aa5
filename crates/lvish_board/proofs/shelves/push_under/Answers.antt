use Rattle.std.proofs.Common.{rules, arith, sym, subst}
use Rattle.std.specs.HashMap.Entry.{map_with_value, entry_value}
use Rattle.lvish_calculus.specs.Handing.{IsAmong}
use Rattle.lvish_core.specs.laws.Lists.{among_first}
use Rattle.lvish_board.specs.Shelved.{shelf, list_items}
use Rattle.lvish_board.proofs.Shelving.{list_kept, shelf_kept, shelf_written, shelf_pushed}
use Rattle.lvish_board.proofs.shelves.push_under.Goals as goal

pub returns-clause-kept : goal.returns-clause-kept
returns-clause-kept g c = λ q x i.
    let w = c.push.new.self in
    let n = map_with_value c.in_ok-entry.entry w in
    let list = c.or_insert_with-list.result.now in
    let kept : IsAmong x (shelf g.K.PartialEq.eq n q) = shelf_kept g.K.PartialEq.eq g.met.K.Eq.laws c.args.lists.now n c.args.key w (c.in_ok-entry.ensures.update.0 w).0 q x
    (λ i. subst (λ l. IsAmong x l) (sym c.in_ok-push.ensures.ok) (among_first x list.items _ (list_kept x (entry_value c.in_ok-entry.entry) list (λ u is. grind (arith, is, c.or_insert_with-list.ensures.value)) (subst (λ s. IsAmong x (list_items s)) (sym c.in_ok-entry.ensures.value) i)))) i in
    grind (arith, kept)

pub returns-clause-there : goal.returns-clause-there
returns-clause-there g c =
    let w = c.push.new.self in
    let n = map_with_value c.in_ok-entry.entry w in
    let there : IsAmong c.args.index (shelf g.K.PartialEq.eq n c.args.key) = shelf_pushed c.args.index c.or_insert_with-list.result.now.items w.items _ c.in_ok-push.ensures.ok
    (shelf_written g.K.PartialEq.eq g.met.K.Eq.laws c.args.lists.now n c.args.key w (c.in_ok-entry.ensures.update.0 w).0) in
    search (rules, there)
