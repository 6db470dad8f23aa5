use Rattle.lvish_json.proofs.laws.reports_are_retold.Goals as goal

pub returns : goal.returns
returns g c = Rattle.lvish_json.proofs.RetoldText.reports_retold g.E.Numbered.key_of g.E.Numbered.number_of
