-- A board before any step, over any machine.
use Rattle.std.proofs.Common.{◌≡◌, ◌≤◌, ℕ, List, [], length, Option, Some, None, refl, sym, ap, subst, ◌∙◌, arith}
use Rattle.lvish_calculus.specs.Machine.{Machine}
use Rattle.lvish_calculus.specs.Calculus.{Running, State, IsLive, is_live, start}
use Rattle.lvish_names.specs.Names.{main}
use Rattle.lvish_calculus.specs.Handing.{IsAmong, NoRepeats}
use Rattle.lvish_board.specs.Vocabulary.{RunError, MOST_PROGRAM_STEPS, TraceEntry}
use Rattle.lvish_core.specs.Core.{CoreView, IsBegun, IsRunTo, at_fault, state}
use Rattle.lvish_core.specs.laws.Runs.{at_state, running_same}
use Rattle.lvish_board.specs.Stand.{TaskStand}
use Rattle.lvish_trace.specs.Traced.{labels_of}
use Rattle.lvish_board.specs.Board.{IsBlocked, IsBoardSound, tasks_of}

unfailed : {S E L : Type 0} (s r : State S E L) (o : Option (RunError E)) → at_fault s o ≡ Running r → o ≡ None
unfailed s r None e = refl
unfailed s r (Some f) e = absurd (let n : ⊥ = cc in n)

pub opened : {P S E R A L : Type 0} (M : Machine S E R A L) (program : P) (budget : ℕ) (c : CoreView P S E L) → IsBegun M program c
    → (trace : List (TraceEntry E)) → trace ≡ [] → (parked : List (TaskStand E L)) → parked ≡ [] → budget ≤ MOST_PROGRAM_STEPS
    → IsBoardSound M program budget (record { trace = trace; core = c; over = None; parked = parked })
opened {S = S} {E = E} {L = L} M program budget c begun trace none parked nobody bounded = record {
  program_is = begun.program;
  leads = subst (λ t. IsRunTo M c (labels_of t)) (sym none) begun.leads;
  counted = begun.steps ∙ sym (ap length none);
  within = subst (λ t. length t ≤ budget) (sym none) (omega arith);
  bounded = bounded;
  over_is = fine;
  not_at_end = λ going all drained. subst (λ ps. IsAmong main (tasks_of ps) → ⊥) (sym nobody) (λ i. i) (all main (subst (λ (s : State S E L). IsLive (s.tasks main)) (sym at_start) is_live));
  blocked = subst (λ ps. (p : TaskStand E L) → IsAmong p ps → IsBlocked M c p) (sym nobody) (λ p i. absurd i);
  once = subst (λ ps. NoRepeats (tasks_of ps)) (sym nobody) tt;
}
  where
    fine : c.fault ≡ None
    fine = unfailed (state M c) (start M) c.fault begun.at_start

    at_start : state M c ≡ start M
    at_start = running_same (sym (at_state M c fine) ∙ begun.at_start)
