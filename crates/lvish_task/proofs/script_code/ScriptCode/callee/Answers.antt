use Rattle.std.proofs.Common.{◌≤◌, sym, arith}
use Rattle.lvish_task.proofs.script_code.ScriptCode.callee.Goals as goal

pub filled-requires : goal.filled-requires
filled-requires c =
    let within : c.in-Some.routine.now.parameters ≤ c.in-Some.routine.now.locals = (c.args.self.now.flat.sound.routines_sound c.args.procedure c.in-Some.routine.now (sym c.in-Some.ensures)).parameters in
    omega arith
