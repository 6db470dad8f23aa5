use Rattle.std.proofs.Common.{sym, ◌∙◌}
use Rattle.lvish_run.proofs.SameReports.{tell_the_same}
use Rattle.lvish_run.proofs.laws.honest_reports_agree.Goals as goal

pub returns-clause-same_order : goal.returns-clause-same_order
returns-clause-same_order g c = λ p v b w d r q one other ended as_well same. tell_the_same _ _ v b w d r q one other ended as_well _ (c.order_decides.ensures.same_order p) (sym one.freezes ∙ same ∙ other.freezes)

pub returns-clause-one_asks : goal.returns-clause-one_asks
returns-clause-one_asks g c = λ p v b w d r q one other ended as_well. tell_the_same _ _ v b w d r q one other ended as_well _ (c.same_end.ensures.one_asks p)

pub returns-clause-no_error : goal.returns-clause-no_error
returns-clause-no_error g c = λ p v b w d r q one other ended as_well. tell_the_same _ _ v b w d r q one other ended as_well _ (c.same_end.ensures.no_error p)
