use Rattle.std.proofs.Common.{sym, subst}
use borrow.Author.Tests.{ltb-true}
use Rattle.lvish_code.specs.declared.instruction.Instruction.TheVariants.{GoOn}
use Rattle.lvish_task.specs.Jumps.{JumpsStay, AllLand}
use Rattle.lvish_task.proofs.script_code.ScriptCode.instructions.Goals as goal

pub returns-in-Some-clause-stay : goal.returns-in-Some-clause-stay
returns-in-Some-clause-stay c =
    let sound = c.args.self.now.flat.sound.routines_sound c.args.procedure c.in-Some.routine.now (sym c.in-Some.ensures) in
    subst JumpsStay (sym c.as_slice.ensures) (λ place n h. ltb-true _ _ (sound.landing place (GoOn n) h))

pub returns-in-Some-clause-land : goal.returns-in-Some-clause-land
returns-in-Some-clause-land c = subst AllLand (sym c.as_slice.ensures) (c.args.self.now.flat.sound.routines_sound c.args.procedure c.in-Some.routine.now (sym c.in-Some.ensures)).landing

pub returns-in-None-clause-land : goal.returns-in-None-clause-land
returns-in-None-clause-land c = λ place i h. absurd cc
