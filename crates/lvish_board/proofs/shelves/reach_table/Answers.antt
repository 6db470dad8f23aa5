use Rattle.std.proofs.Common.{is_ok, sym, subst}
use Rattle.lvish_calculus.specs.Handing.{IsAmong}
use Rattle.lvish_board.specs.Shelved.{shelf_at}
use Rattle.lvish_board.proofs.Shelving.{tables_pushed, tables_pushed_if}
use Rattle.lvish_board.proofs.shelves.reach_table.Goals as goal

pub loop-alloc-preserved : goal.loop-alloc-preserved
loop-alloc-preserved g c = λ v q x i. subst (λ ts. IsAmong x (shelf_at g.K.PartialEq.eq ts v q)) (sym c.in_ok-push.ensures.items) (tables_pushed g.K.PartialEq.eq c.loop-alloc.tables.items c.new.result v q x (c.loop-alloc.invariant v q x i))

pub returns-in_err-push-clause-kept : goal.returns-in_err-push-clause-kept
returns-in_err-push-clause-kept g c = λ v q x i. subst (λ ts. IsAmong x (shelf_at g.K.PartialEq.eq ts v q)) (sym c.push.ensures.items) (tables_pushed_if g.K.PartialEq.eq (is_ok c.push.result) c.loop-alloc.tables.items c.new.result v q x (c.loop-alloc.invariant v q x i))
