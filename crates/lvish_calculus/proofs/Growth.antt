-- What runs keep, and what only grows along them.
use Rattle.std.proofs.Common.{◌≡◌, inl, inr, ℕ, true, List, [], ◌∷◌, ◌++◌, refl, ◌∙◌, subst}
use Rattle.lvish_names.specs.Names.{Name, main}
use Rattle.lvish_calculus.specs.Machine.{Machine, IsLawful}
use Rattle.lvish_calculus.specs.Calculus.{Task, Absent, Live, Ended, State, Configuration, Running, Error, Label, Change, changed, start, step, IsRun, IsEnabled}
use Rattle.lvish_calculus.specs.Laws.{Reaches}
use Rattle.lvish_calculus.specs.Growth.{IsStepOfRuns, RunsKeep, RunsGrow}
use Rattle.lvish_calculus.proofs.Steps.{Makes}
use Rattle.lvish_calculus.proofs.Sound.{IsSound, own_is}
use Rattle.lvish_calculus.proofs.Keeps.{tasks_after, made_absent, present_after, handed_stays}
use Rattle.lvish_calculus.proofs.Runs.{way_keeps, walked, reached}
use Rattle.lvish_calculus.proofs.SameThere.{run_join}
use Rattle.lvish_calculus.proofs.Made.{handlers_way, le_way, frozen_way}

ended_live : {L : Type 0} (k : Task L) (o : L) (f a p : ℕ) → k ≡ Ended → k ≡ Live o f a p → ⊥
ended_live k o f a p x y = cc

ended_absent : {L : Type 0} (k : Task L) → k ≡ Ended → k ≡ Absent → ⊥
ended_absent k x y = cc

-- induction over runs, for any predicate
module _ {S E R A L : Type 0} (M : Machine S E R A L) (P : State S E L → Type 0) (each : (c d : State S E L) → IsStepOfRuns M c d → P c → P d) where
  keep_step : (ms ls : List (Label E)) (l : Label E) (d c : State S E L) → Reaches M ms d → P d → IsEnabled M d l
      → ((e : State S E L) → Reaches M (ms ++ l ∷ []) e → P e → IsRun M (Running e) ls (Running c) → P c)
      → (o : Configuration S E L) → step M d l ≡ o → IsRun M o ls (Running c) → P c
  keep_step ms ls l d c there p en go (Running e) q run =
      go e (run_join M ms (l ∷ []) (Running (start M)) (Running d) (Running e) there (en, q)) (each d e (ms, l, there, en, q) p) run
  keep_step ms [] l d c there p en go (Error kind v t) q run = absurd (cc run)
  keep_step ms (m ∷ ls) l d c there p en go (Error kind v t) q run = absurd run

  keep_on : (ms ls : List (Label E)) (d c : State S E L) → Reaches M ms d → P d → IsRun M (Running d) ls (Running c) → P c
  keep_on ms [] d c there p run = let same : d ≡ c = cc in subst P same p
  keep_on ms (l ∷ ls) d c there p run = keep_step ms ls l d c there p run.0 (λ e r q rest. keep_on (ms ++ l ∷ []) ls e c r q rest) _ refl run.1

  pub kept : P (start M) → (ls : List (Label E)) (c : State S E L) → Reaches M ls c → P c
  kept p ls c run = keep_on [] ls (start M) c refl p run

pub runs_keep : {S E R A L : Type 0} (M : Machine S E R A L) → IsLawful M → RunsKeep M
runs_keep M ok holds first each ls c run = kept M (λ x. holds x ≡ true) each first ls c run

module _ {S E R A L : Type 0} (M : Machine S E R A L) (ok : IsLawful M) where
  ended_stays : (t : Name E) (c : State S E L) (l : Label E) (ch : Change S E L) → Makes M c l ch → IsEnabled M c l → IsSound c → c.tasks t ≡ Ended → (changed M ch c).tasks t ≡ Ended
  ended_stays t c l ch m en s z = elim (tasks_after M ok c l ch m en s t) [
    | inl w ↦ let g = own_is M ok c l ch m t w.0 w.1 in absurd (ended_live _ g.local g.forks g.adds g.puts z g.was)
    | inr (inl w) ↦ absurd (ended_absent _ z (made_absent M ok c l ch m en s t w.0 w.1))
    | inr (inr w) ↦ w ∙ z
  ]

  pub runs_grow : RunsGrow M
  runs_grow xs ys c d before run =
      let s = reached M ok xs c before in
      let w = (walked M ok main ys c d run).way in
      record {
        contents = le_way M ok c d ys s w;
        frozen = frozen_way M ok c d ys s w;
        handlers = handlers_way M ok c d ys s w;
        handed = λ h e z. way_keeps M ok (λ (x : State S E L). x.handed h e ≡ true) (λ x l ch m en sx. handed_stays M ok x l ch m en sx h e) c d ys s w z;
        tasks = λ t z. way_keeps M ok (λ (x : State S E L). x.tasks t ≡ Absent → ⊥) (λ x l ch m en sx. present_after M ok x l ch m en sx t) c d ys s w z;
        ended = λ t z. way_keeps M ok (λ (x : State S E L). x.tasks t ≡ Ended) (λ x l ch m en sx. ended_stays t x l ch m en sx) c d ys s w z;
      }
