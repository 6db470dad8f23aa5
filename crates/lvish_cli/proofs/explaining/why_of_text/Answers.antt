use Rattle.lvish_cli.proofs.explaining.why_of_text.Goals as goal

pub returns-in-Ok : goal.returns-in-Ok
returns-in-Ok c = (c.in-Ok._script, c.in-Ok.ensures)
