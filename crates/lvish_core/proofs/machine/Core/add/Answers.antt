use Rattle.std.proofs.Common.{Err, refl, ◌∙◌, sym, ap, arith}
use Rattle.std.proofs.lemmas.Bool.{false_from_ne_true}
use Rattle.lvish_names.specs.declared.name_fault.NameFault.TheVariants.{Deep as TooDeep}
use Rattle.lvish_calculus.specs.declared.request.Request.TheVariants.{Add}
use Rattle.lvish_core.proofs.Acts.{few_numbers}
use Rattle.lvish_core.proofs.Adds.{pool_is_there, late_fails}
use Rattle.lvish_core.proofs.Written.{ok_is_no_error}
use Rattle.lvish_core.proofs.machine.Core.add.Goals as goal

pub overflow_add-numbers : goal.overflow_add-numbers
overflow_add-numbers g c = omega (arith, few_numbers (rw (← c.self.view_is) at c.requires.acting) c.self.invariant (rw (← c.self.view_is) at c.requires.room))

pub fail-requires-clause-failing : goal.fail-requires-clause-failing
fail-requires-clause-failing g c =
    rw (← c.self.view_is) (record { at = c.args.at; forks = c.args.numbers.forks; adds = c.args.numbers.adds; puts = c.args.numbers.puts; request = Add c.args.pool c.args.procedure; acting = (rw (← c.self.view_is) at c.requires.acting); errs = (c.in-Err-Deep.ensures.deep.0 (ap Err c.in-Err-Deep.field-0-is), refl) })

pub unreachable-requires : goal.unreachable-requires
unreachable-requires g c = pool_is_there (c.lawful.ensures c.self.inside.program.now) c.self.invariant (g.met.P.Program.lawful c.self.inside.program.now).known (rw (← c.self.view_is) at c.requires.acting) (sym c.pool_variable.ensures ∙ c.in_default.is)

pub fail-requires-then-is_late-clause-failing : goal.fail-requires-then-is_late-clause-failing
fail-requires-then-is_late-clause-failing g c =
    let late = rw (← c.self.view_is) at c.is_late.ensures in
    rw (← c.self.view_is)
    (late_fails (c.lawful.ensures c.self.inside.program.now) c.self.invariant (g.met.P.Program.lawful c.self.inside.program.now).known (rw (← c.self.view_is) at c.requires.acting) (false_from_ne_true _ (λ e. ok_is_no_error {f = TooDeep} refl (c.in-Ok.ensures.deep.1 e))) c.in-Some.variable (sym c.pool_variable.ensures ∙ c.in-Some.is) (sym late ∙ c.if-is_late.true))

pub add_on-requires-clause-acting : goal.add_on-requires-clause-acting
add_on-requires-clause-acting g c = rw c.new-place.ensures (c.requires.acting)

pub add_on-requires-clause-seated : goal.add_on-requires-clause-seated
add_on-requires-clause-seated g c =
    let late = rw (← c.self.view_is) at c.is_late.ensures in
    rw (← c.self.view_is, c.new-place.ensures) (record {
      named = c.in-Ok.ensures.ok;
      shallow = false_from_ne_true _ (λ e. ok_is_no_error {f = TooDeep} refl (c.in-Ok.ensures.deep.1 e));
      own = sym c.pool_variable.ensures ∙ c.in-Some.is;
      unfrozen = sym late ∙ c.if-is_late.false;
    })
