use Rattle.std.proofs.Common.{◌∷◌, [], ◌∙◌, sym, ap}
use Rattle.std.proofs.lemmas.List.{append-nil}
use Rattle.lvish_code.specs.Numbering.{name_number}
use Rattle.lvish_code.specs.Compile.{declared_pool}
use Rattle.lvish_code.proofs.Loops.{joined_more, joined_all}
use Rattle.lvish_code.proofs.tables.pool_variables.Goals as goal
use Rattle.lvish_code.proofs.tables.pool_variables.Goals.{in-Variable, in-Pool+in_ok-push-in-Pool}

pub loop-declaration-preserved : goal.loop-declaration-preserved
loop-declaration-preserved c =
    let names = c.args.variables.now in
    let item = ap (declared_pool names) c.declaration-item.is in
    elim c.match-declaration.branch [
      | in-Variable w ↦ joined_more (declared_pool names) c.args.declarations.now c.loop-declaration.declaration-index c.loop-declaration.pools.items c.loop-declaration.invariant c.declaration-item.result [] _ c.loop-declaration-test.true (ap (declared_pool names) (sym w.in-Variable.is) ∙ item) (ap (λ v. v.items) w.pools-is ∙ sym (append-nil _))
      | in-Pool+in_ok-push-in-Pool w ↦
          let is = w.number_of.ensures ∙ ap (name_number names) w.as_str.ensures in
          joined_more (declared_pool names) c.args.declarations.now c.loop-declaration.declaration-index c.loop-declaration.pools.items c.loop-declaration.invariant c.declaration-item.result _ _ c.loop-declaration-test.true (ap (λ n. n ∷ []) is ∙ ap (declared_pool names) (sym w.in-Pool.is) ∙ item) (ap (λ v. v.items) w.pools-is ∙ w.in_ok-push-in-Pool.ensures.items)
    ]

pub returns : goal.returns
returns c = c.new.ensures ∙ joined_all (declared_pool c.args.variables.now) c.args.declarations.now c.loop-declaration.declaration-index c.loop-declaration.pools.items c.loop-declaration.invariant c.loop-declaration-test.false
