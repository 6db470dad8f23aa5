use Rattle.std.proofs.Common.{[], ◌∷◌, ◌∙◌, ap, subst}
use Rattle.std.proofs.lemmas.Bool.{cond-false}
use Rattle.std.proofs.lemmas.Bool.Decides.{Decides-eqb}
use Rattle.lvish_code.specs.Sound.{takes_count}
use Rattle.lvish_task.specs.laws.Fits.{RequestFits, of_local, started_fits, misfit, asked_fits, request_fits, resumed_fits}
use Rattle.lvish_task.proofs.laws.keeps_fitting.Goals as goal

pub returns : goal.returns
returns c = λ code. record {
  start = of_local code.flat _ (started_fits code.flat code.flat.main [] code.flat.sound.main_takes);
  start_handler = λ k e r at two. of_local code.flat _ (started_fits code.flat k (e.key ∷ e.number ∷ []) (ap (takes_count 2) at ∙ (Decides-eqb r.parameters 2).1 two));
  at = λ l e. of_local code.flat _ (asked_fits code.flat l e).at;
  fork = λ l m e. of_local code.flat m (subst (RequestFits code.flat) e (request_fits code.flat l));
  resume = λ l r e. resumed_fits code.flat l r e;
  misfit_ends = λ l e. ap (λ a. a.request) (misfit code.flat l e);
  misfit_stays = λ l r e. cond-false _ _ _ e;
}
