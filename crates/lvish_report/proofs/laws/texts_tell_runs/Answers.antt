use Rattle.lvish_report.proofs.laws.texts_tell_runs.Goals as goal

pub returns : goal.returns
returns g c = λ p key number. Rattle.lvish_report.proofs.RunsTold.texts_tell_runs _ (c.lawful.ensures p) key number
