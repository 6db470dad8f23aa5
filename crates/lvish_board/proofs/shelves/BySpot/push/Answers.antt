use Rattle.std.proofs.Common.{◌≡◌, Some, OnOk, sym, ap, subst, ◌∙◌}
use Rattle.std.specs.Prelude.{slice_get}
use Rattle.std.proofs.lemmas.Option.{slice_get-get_or}
use Rattle.lvish_calculus.specs.Handing.{IsAmong}
use Rattle.lvish_board.specs.Shelved.{shelf_of}
use Rattle.lvish_board.proofs.Seating.{get_set_same}
use Rattle.lvish_board.proofs.Shelving.{tables_kept}
use Rattle.lvish_board.proofs.shelves.BySpot.push.Goals as goal

pub returns-clause-kept : goal.returns-clause-kept
returns-clause-kept g c = λ v q x i.
    let at : slice_get c.reach_table.new.tables.items c.args.variable ≡ Some c.index_mut.result.now = slice_get-get_or _ _ c.index_mut.result.now c.in_ok-reach_table.ensures.there ∙ ap Some (sym c.index_mut.ensures.value) in
    tables_kept g.K.PartialEq.eq c.reach_table.new.tables.items c.args.variable c.push_under.new.lists v q x (λ a. c.push_under.ensures.kept q x (subst (λ o. IsAmong x (shelf_of g.K.PartialEq.eq o q)) at a)) (c.reach_table.ensures.kept v q x i)

pub returns-clause-there : goal.returns-clause-there
returns-clause-there g c = subst (λ o. OnOk c.push_under.result (IsAmong c.args.index (shelf_of g.K.PartialEq.eq o c.args.key))) (sym (get_set_same c.reach_table.new.tables.items c.args.variable c.push_under.new.lists c.in_ok-reach_table.ensures.there)) c.push_under.ensures.there
