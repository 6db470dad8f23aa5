use Rattle.lvish_run.proofs.Least.{report_least}
use Rattle.lvish_run.proofs.laws.honest_contents.Goals as goal

pub returns-clause-least : goal.returns-clause-least
returns-clause-least g c = λ p w b r honest.
    (report_least _ _ _ _ _ _ g.P.Lat.Reads.member _ (g.P.Program.functions p) (c.lawful.ensures p) (g.met.P.Program.lawful p) (c.least_model.ensures.least p) (c.least_model.ensures.closed p) w b r honest).0

pub returns-clause-closed : goal.returns-clause-closed
returns-clause-closed g c = λ p w b r honest.
    (report_least _ _ _ _ _ _ g.P.Lat.Reads.member _ (g.P.Program.functions p) (c.lawful.ensures p) (g.met.P.Program.lawful p) (c.least_model.ensures.least p) (c.least_model.ensures.closed p) w b r honest).1
