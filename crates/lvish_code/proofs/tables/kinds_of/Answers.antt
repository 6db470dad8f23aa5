use Rattle.std.proofs.Common.{◌∙◌, [], sym, ap}
use Rattle.std.proofs.lemmas.List.{append-nil}
use Rattle.lvish_code.specs.Compile.{declared_kind}
use Rattle.lvish_code.proofs.Loops.{joined_more, joined_all}
use Rattle.lvish_code.proofs.tables.kinds_of.Goals as goal
use Rattle.lvish_code.proofs.tables.kinds_of.Goals.{in-Variable+in_ok-push-in-Variable, in-Pool}

pub loop-declaration-preserved : goal.loop-declaration-preserved
loop-declaration-preserved c =
    let item = ap declared_kind c.declaration-item.is in
    elim c.match-declaration.branch [
      | in-Variable+in_ok-push-in-Variable w ↦ joined_more declared_kind c.args.declarations.now c.loop-declaration.declaration-index c.loop-declaration.kinds.items c.loop-declaration.invariant c.declaration-item.result _ _ c.loop-declaration-test.true (ap declared_kind (sym w.in-Variable.is) ∙ item) (ap (λ v. v.items) w.kinds-is ∙ w.in_ok-push-in-Variable.ensures.items)
      | in-Pool w ↦ joined_more declared_kind c.args.declarations.now c.loop-declaration.declaration-index c.loop-declaration.kinds.items c.loop-declaration.invariant c.declaration-item.result [] _ c.loop-declaration-test.true (ap declared_kind (sym w.in-Pool.is) ∙ item) (ap (λ v. v.items) w.kinds-is ∙ sym (append-nil _))
    ]

pub returns : goal.returns
returns c = c.new.ensures ∙ joined_all declared_kind c.args.declarations.now c.loop-declaration.declaration-index c.loop-declaration.kinds.items c.loop-declaration.invariant c.loop-declaration-test.false
