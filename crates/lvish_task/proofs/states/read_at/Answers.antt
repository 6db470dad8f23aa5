use Rattle.lvish_task.proofs.ReadFound.{read_found, read_refused}
use Rattle.lvish_task.proofs.states.read_at.Goals as goal

pub returns-in-Ok : goal.returns-in-Ok
returns-in-Ok c = read_found c.args.place c.args.test c.in-Ok.read c.in-Ok.ensures.place c.in-Ok.ensures.test

pub returns-in-Err : goal.returns-in-Err
returns-in-Err c = read_refused c.args.place c.args.test c.in-Err.ensures.accepts.1
