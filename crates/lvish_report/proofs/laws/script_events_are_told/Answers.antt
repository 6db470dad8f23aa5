use Rattle.lvish_report.proofs.laws.script_events_are_told.Goals as goal

pub returns : goal.returns
returns g = Rattle.lvish_report.proofs.EventsTold.events_told
