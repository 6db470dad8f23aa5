use Rattle.std.proofs.Common.{◌≡◌, Some, sym, ap, subst, ◌∙◌}
use Rattle.lvish_board.specs.Vocabulary.{PutOn as Put, Handed, EndedIn as Ended}
use Rattle.lvish_board.specs.Woken.{MayWake}
use Rattle.lvish_board.proofs.Woken.{may_end}
use Rattle.lvish_board.proofs.parked.Parked.may_wake.Goals as goal

pub returns-in-Some-Put : goal.returns-in-Some-Put
returns-in-Some-Put g c = λ none fresh p i may can.
    let touched : c.args.core.now.touched ≡ Some (Put c.in-Some-Put.variable) = sym c.last_touched.ensures ∙ c.in-Some-Put.is ∙ ap (λ x. Some x) c.in-Some-Put.field-0-is in
    let here = subst (λ t. MayWake g.P.Lat.Reads.spot_of g.P.Lat.Reads.watched t fresh ((g.P.Program.functions c.args.core.now.program).request p.from)) touched may in
    c.may_get.ensures none fresh p i (subst (λ x. MayWake g.P.Lat.Reads.spot_of g.P.Lat.Reads.watched (Some (Put c.in-Some-Put.variable)) fresh ((g.P.Program.functions x).request p.from)) c.requires.program here)

pub returns-in-Some-Handed : goal.returns-in-Some-Handed
returns-in-Some-Handed g c = λ none fresh p i may can.
    let touched : c.args.core.now.touched ≡ Some (Handed c.in-Some-Handed.variable) = sym c.last_touched.ensures ∙ c.in-Some-Handed.is ∙ ap (λ x. Some x) c.in-Some-Handed.field-0-is in
    c.may_freeze.ensures none fresh p i (subst (λ t. MayWake g.P.Lat.Reads.spot_of g.P.Lat.Reads.watched t fresh ((g.P.Program.functions c.args.core.now.program).request p.from)) touched may) can

pub returns-in-Some-Ended : goal.returns-in-Some-Ended
returns-in-Some-Ended g c = λ none fresh p i may can.
    let touched : c.args.core.now.touched ≡ Some (Ended c.in-Some-Ended.variable) = sym c.last_touched.ensures ∙ c.in-Some-Ended.is ∙ ap (λ x. Some x) c.in-Some-Ended.field-0-is in
    c.may_freeze-in-Some-Ended.ensures none fresh p i (may_end g.P.Lat.Reads.spot_of g.P.Lat.Reads.watched c.in-Some-Ended.variable fresh fresh ((g.P.Program.functions c.args.core.now.program).request p.from) (subst (λ t. MayWake g.P.Lat.Reads.spot_of g.P.Lat.Reads.watched t fresh ((g.P.Program.functions c.args.core.now.program).request p.from)) touched may)) can
