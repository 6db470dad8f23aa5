-- Reports of a script of which all ends are alike tell the same.
use Rattle.std.proofs.Common.{◌≡◌, ℕ, Bool, true, List, length, Option, refl, sym, ◌∙◌, Ordering}
use Rattle.lvish_calculus.specs.Machine.{Machine}
use Rattle.lvish_calculus.specs.Program.{Functions, machine_of}
use Rattle.lvish_calculus.proofs.SameThere.{Base, over, live_count}
use Rattle.lvish_task.specs.Meaning.{script_functions}
use Rattle.lvish_trace.specs.Traced.{labels_of}
use Rattle.lvish_trace.specs.declared.outcome.Outcome.TheVariants.{Ended}
use Rattle.lvish_report.specs.declared.report.Report.{Report}
use Rattle.lvish_report.specs.Text.{variables_of}
use Rattle.lvish_alike.specs.Alike.{ShowsAlike}
use Rattle.lvish_alike.specs.OneEnd.{HasOneEnd}
use Rattle.lvish_run.specs.Honest.{IsHonest}
use Rattle.lvish_run.specs.SameReports.{TellTheSame}
use Rattle.lvish_run.specs.OneScript.{ReportsAgreeIf}
use Rattle.lvish_run.proofs.OfScript.{same_states}
use Rattle.lvish_run.proofs.OneScript.{workers_of, same_text}
use Rattle.lvish_run.proofs.SameReports.{long, end_of, of_one_end}

module _ {S E R A L : Type 0} (same : S → S → Bool) (event_same : E → E → Bool) (cmp : E → E → Ordering) (bottom : S) (join : S → S → Option S) (events : S → List E) (answer : R → S → Option A) (f : Functions S E R A L) where
  abbrev base : Base S E R A
  base = record { same = same; event_same = event_same; cmp = cmp; bottom = bottom; join = join; events = events; answer = answer }

  abbrev M : Machine S E R A L
  M = over base f

  pub one_end_tells : HasOneEnd (machine_of same event_same cmp bottom join events answer f) → (variables v b w c : ℕ) (r q : Report S E)
      → IsHonest (machine_of same event_same cmp bottom join events answer f) variables v b r → IsHonest (machine_of same event_same cmp bottom join events answer f) variables w c q → r.outcome ≡ Ended → q.outcome ≡ Ended → TellTheSame r q
  one_end_tells alike variables v b w c r q one other ended as_well =
      let h = end_of M variables v b r one ended in
      let k = end_of M variables w c q other as_well in
      let z = alike (labels_of r.trace) (labels_of q.trace) h.0.last k.0.last h.0.reached k.0.reached h.1 k.1 in
      of_one_end M variables v b w c r q one other ended as_well k.0.last (same_states M M variables h.0.last k.0.last r.states z.0 h.0.states) (live_count base f f (λ p. refl) h.0.last k.0.last z.0 r.blocked h.0.blocked) k.0.states k.0.blocked
      (sym (long M variables v b r one) ∙ z.1 ∙ long M variables w c q other)

pub agree_all_alike : ReportsAgreeIf (λ s r q. ShowsAlike s true)
agree_all_alike s b c r q x y ended as_well shown =
    let k = workers_of s b r x in
    let l = workers_of s c q y in
    let t = one_end_tells _ _ _ _ _ _ _ (script_functions s) (shown.ends refl) (length (variables_of s.declarations)) k.0 b l.0 c r q k.1 l.1 ended as_well in
    (t, same_text s r q ended as_well t)
