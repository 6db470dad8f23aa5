use Rattle.std.proofs.Common.{◌∙◌, ◌∷◌, [], ap, sym, subst, take, drop, take_all, ◌++◌, ◌+◌}
use Rattle.lvish_checks.specs.Known.{HaveSameNames}
use Rattle.lvish_checks.specs.Checks.{binds_until_procedure}
use Rattle.lvish_checks.proofs.Lines.{taken_with}
use Rattle.lvish_checks.proofs.Scans.{Gathers, names_more, begins_gathering, gathers_one, gathers_none, gathers_ends, gathers_all}
use Rattle.std.specs.Option.{option_map_or}
use Rattle.lvish_checks.proofs.check.unknown_name.locals_of.Goals as goal
use Rattle.lvish_checks.proofs.check.unknown_name.locals_of.Goals.{in-Some+in_ok-add-2, in_default, else-loop-line-test, then-loop-line-test+then-is_procedure}

pub loop-name-preserved : goal.loop-name-preserved
loop-name-preserved c = subst (HaveSameNames c.add.new.self) (sym (taken_with c.args.parameters.now c.loop-name.name-index c.name-item.result c.loop-name-test.true c.name-item.is)) (names_more c.loop-name.locals c.add.new.self (take c.loop-name.name-index c.args.parameters.now) c.name-item.result c.in_ok-add.ensures.names c.loop-name.invariant)

pub loop-line-init : goal.loop-line-init
loop-line-init c = begins_gathering c.loop-name.locals c.args.parameters.now (binds_until_procedure c.args.lines.now) (subst (HaveSameNames c.loop-name.locals) (take_all c.loop-name.name-index c.args.parameters.now c.loop-name-test.false) c.loop-name.invariant)

pub loop-line-preserved : goal.loop-line-preserved
loop-line-preserved c =
    let inside = sym c.is_procedure.ensures ∙ c.if-is_procedure.false in
    let all = c.args.parameters.now ++ binds_until_procedure c.args.lines.now in
    elim c.match-bound.branch [
      | in-Some+in_ok-add-2 w ↦
          let binding = sym c.bound.ensures ∙ ap (λ o. option_map_or (λ x. x.now ∷ []) o []) w.in-Some.is in
          subst (λ names. Gathers names (binds_until_procedure (drop (c.loop-line.line-index + 1) c.args.lines.now)) all) (sym w.locals-is) (gathers_one c.args.lines.now c.loop-line.line-index c.line-item.result c.loop-line-test.true c.line-item.is c.loop-line.locals _ all _ inside binding w.in_ok-add-2.ensures.names c.loop-line.invariant)
      | in_default w ↦
          let binding = sym c.bound.ensures ∙ ap (λ o. option_map_or (λ x. x.now ∷ []) o []) w.in_default.is in
          subst (λ names. Gathers names (binds_until_procedure (drop (c.loop-line.line-index + 1) c.args.lines.now)) all) (sym w.locals-is) (gathers_none c.args.lines.now c.loop-line.line-index c.line-item.result c.loop-line-test.true c.line-item.is c.loop-line.locals all inside binding c.loop-line.invariant)
    ]

pub returns : goal.returns
returns c =
    elim c.loop-line-test.branch [
      | else-loop-line-test w ↦ gathers_all c.args.lines.now c.loop-line.line-index c.loop-line.locals _ w.loop-line-test.false c.loop-line.invariant
      | then-loop-line-test+then-is_procedure w ↦ gathers_ends c.args.lines.now c.loop-line.line-index w.line-item.result w.loop-line-test.true w.line-item.is c.loop-line.locals _ (sym w.is_procedure.ensures ∙ w.if-is_procedure.true) c.loop-line.invariant
    ]
