use Rattle.std.proofs.Common.{sym}
use Rattle.lvish_names.proofs.NameLaws.{name_at-other}
use Rattle.lvish_library_tests.proofs.keys.put_task.Goals as goal

pub returns-clause-others : goal.returns-clause-others
returns-clause-others g c = λ t ne. c.in_ok-insert.ensures.updates.2 t (name_at-other g.E.Ord.cmp g.met.E.Plain.identical g.met.E.Ord.matches_eq c.args.name t (λ e. ne (sym e)))
