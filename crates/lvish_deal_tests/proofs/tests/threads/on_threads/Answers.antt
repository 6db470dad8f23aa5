use Rattle.std.proofs.Common.{◌≡◌, get_or, ap, ◌∙◌, sym}
use Rattle.std.specs.Prelude.{Result, Ok, Err, IfOk}
use Rattle.lvish_deal.specs.Place.{SeatPlace, IsSameSeat}
use Rattle.lvish_deal_tests.proofs.tests.threads.on_threads.Goals as goal

on_ok : {V E : Type 0} (r : Result V E) (P Q : V → Type 0) → ((v : V) → P v → Q v) → IfOk r P → IfOk r Q
on_ok (Ok v) P Q f p = f v p
on_ok (Err e) P Q f p = tt

was : {T : Type 0} (s t u : SeatPlace T) → s ≡ t → IsSameSeat t u → IsSameSeat s u
was s t u e same = (same.0 ∙ ap (λ (p : SeatPlace _). p.deal) (sym e), same.1 ∙ ap (λ (p : SeatPlace _). p.number) (sym e))

pub returns-clause-same : goal.returns-clause-same
returns-clause-same g c = on_ok c.map_vec.result _ _ (λ done each k s d inside. was _ _ (get_or done.items k d).0 ((each k d inside).1.job_is s) (each k d inside).1.call.met) c.map_vec.ensures.each
