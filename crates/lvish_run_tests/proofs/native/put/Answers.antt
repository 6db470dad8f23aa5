use Rattle.std.proofs.Common.{rules, ◌∙◌, ap, sym}
use Rattle.lvish_calculus.specs.declared.request.Request.TheVariants.{Put}
use Rattle.lvish_lattice.specs.GrowSet.{same_set}
use Rattle.lvish_run_tests.specs.Countdown.{put_asks, only}
use Rattle.lvish_run_tests.proofs.native.put.Goals as goal

pub returns-in-Some : goal.returns-in-Some
returns-in-Some c = ap (λ s. Put 0 s) (same_set c.one.result _ (search rules)) ∙ sym (ap (put_asks only) c.in-Some.is)
