-- Reports whose contents are the least of one machine's models are so of a machine of which the same runs and the same plays.
use Rattle.std.proofs.Common.{List, sym, subst}
use Rattle.lvish_lattice.specs.Lattice.{IsAtOrBelow}
use Rattle.lvish_calculus.specs.declared.label.Label.{Label}
use Rattle.lvish_calculus.specs.Program.{Functions}
use Rattle.lvish_calculus.specs.Calculus.{State}
use Rattle.lvish_calculus.specs.Laws.{Reaches}
use Rattle.lvish_calculus.specs.LeastModel.{HasAllPuts, frozen_contents}
use Rattle.lvish_calculus.specs.SameRuns.{SameState, HaveSameRuns}
use Rattle.lvish_calculus.proofs.SameThere.{Base, over, flip_runs, reached}
use Rattle.lvish_report.specs.declared.report.Report.{Report}
use Rattle.lvish_trace.specs.Traced.{labels_of}
use Rattle.lvish_task.specs.SamePlays.{HaveSamePlays}
use Rattle.lvish_task.proofs.SameModels.{all_puts_there, closed_there, frozen_same, leaves_there}
use Rattle.lvish_run.specs.Least.{content_in, frozen_in, IsLeast, IsClosedEnd}

module _ {S E R A L K : Type 0} (B : Base S E R A) (f : Functions S E R A L) (g : Functions S E R A K) (H : HaveSameRuns (over B f) (over B g)) (plays : HaveSamePlays (over B f) (over B g)) (r : Report S E) where
  led : (xs : List (Label E)) (d : State S E K) → Reaches (over B g) xs d → (c : State S E L) × Reaches (over B f) xs c × SameState (over B g) (over B f) d c
  led xs d run = reached (over B g) (over B f) (flip_runs (over B f) (over B g) H) xs d run

  pub least_report_there : IsLeast (over B f) r → IsLeast (over B g) r
  least_report_there is = record {
    told = λ Y all v. is.told Y (all_puts_there B f g plays.there Y (frozen_in r.states) all) v;
    before = λ xs ys d cut run Y all v.
        let z = led xs d run in
        let of_one = all_puts_there B f g plays.there Y (frozen_contents (over B f) z.0) (subst (λ F. HasAllPuts (over B g) Y F) (frozen_same B g f d z.0 z.2) all) in
        subst (λ x. IsAtOrBelow B.join x (Y v)) (sym (z.2.content v)) (is.before xs ys z.0 cut z.1 Y of_one v);
  }

  pub closed_report_there : IsClosedEnd (over B f) r → IsClosedEnd (over B g) r
  closed_report_there closed ended d run left =
      let z = led (labels_of r.trace) d run in
      closed_there B g f plays.back (content_in B.bottom r.states) (frozen_in r.states) (closed ended z.0 z.1 (leaves_there B g f d z.0 z.2 left))
