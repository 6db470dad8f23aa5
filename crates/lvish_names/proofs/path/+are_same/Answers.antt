use Rattle.std.proofs.Common.{sym}
use Rattle.lvish_names.proofs.Links.{main_apart, main_apart_left}
use Rattle.lvish_names.proofs.path.+are_same.Goals as goal

pub returns-in-None-Some : goal.returns-in-None-Some
returns-in-None-Some g t c = rw (c.in-None-Some.is-0, c.in-None-Some.is-1) (sym (main_apart g.E.PartialEq.eq c.in-None-Some.field-0-1.now))

pub returns-in-Some-None : goal.returns-in-Some-None
returns-in-Some-None g t c = rw (c.in-Some-None.is-0, c.in-Some-None.is-1) (sym (main_apart_left g.E.PartialEq.eq c.in-Some-None.field-0-0.now))
