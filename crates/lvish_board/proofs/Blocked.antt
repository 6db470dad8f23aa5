-- What a step without an error may do to blocked tasks, over any machine.
use Rattle.std.proofs.Common.{◌≡◌, ◌⊎◌, ◌↔◌, inl, inr, ◌++◌, ℕ, List, [], ◌∷◌, ◌<◌, Ordering, Option, Some, None, length, slice_get, refl, sym, ap, subst, ◌∙◌, arith, IsSome, option_map, unwrap_or}
use Rattle.std.specs.List.Sorted.{IsStrictlySortedBy}
use Rattle.std.proofs.lemmas.Bool.{false≢true}
use Rattle.std.proofs.lemmas.Option.{slice_get_cases, slice_get_past}
use Rattle.lvish_names.specs.NameOrder.{handler_cmp}
use Rattle.lvish_names.specs.Names.{Handler}
use Rattle.lvish_board.specs.Vocabulary.{Label, Act, Request, Get, Freeze, Entry, DoneStep, Touched, PutOn as Put, Handed, EndedIn, Moved, TraceEntry as Step, Outcome as Over, Work}
use Rattle.lvish_calculus.specs.Machine.{Machine}
use Rattle.lvish_calculus.specs.Calculus.{Task, Absent, Live, Ended, Configuration, CanStep, IsReady, IsReadyTask}
use Rattle.lvish_calculus.specs.Handing.{IsAmong, NoRepeats}
use Rattle.lvish_variable.specs.Variable.{VariableView as Variable}
use Rattle.lvish_core.specs.Core.{CoreView, IsRunTo, IsStep, CanTake, state}
use Rattle.lvish_core.specs.Changes.{IsMoved, local_of, brought}
use Rattle.lvish_core.specs.Spots.{HasSpot, WakesAtItsSpot}
use Rattle.lvish_core.specs.Blocked.{EndsByCounts, MayBeWoken, IsBlockedUntilTouched}
use Rattle.lvish_core.specs.laws.Runs.{at_state}
use Rattle.lvish_board.specs.Acts.{entry_of}
use Rattle.lvish_board.specs.Listed.{Concerns, HasNext, IsListed, acts, handings, stretches, tickets, option_list}
use Rattle.lvish_board.specs.Stand.{TaskStand}
use Rattle.lvish_board.specs.Board.{Standing, IsBlocked, IsCurrent, IsBoardSound, TellsEnd, tasks_of}
use Rattle.lvish_board.specs.Woken.{MayAnswer, MayWake}
use Rattle.lvish_board.specs.Left.{IsLeft, IsLogged, candidates, fresh_in}
use Rattle.lvish_board.proofs.Steps.{done_none, begins_well, kept_step, told_end}
use Rattle.lvish_board.proofs.Those.{those_are, those_sorted}

-- a task that stands at a local state is live there
live_at : {L : Type 0} (k : Task L) (l : L) → local_of k ≡ Some l → (f : ℕ) × (a : ℕ) × (p : ℕ) × (k ≡ Live l f a p)
live_at Absent l e = absurd cc
live_at Ended l e = absurd cc
live_at (Live m f a p) l e = (f, a, p, (let same : m ≡ l = cc in ap (λ x. Live x f a p) same))

none_of : {X : Type 0} (o : Option X) → (IsSome o → ⊥) → o ≡ None
none_of None never = refl
none_of (Some x) never = absurd (never refl)

pub some_of : {X : Type 0} (o : Option X) → IsSome o → (x : X) × (o ≡ Some x)
some_of None s = absurd (false≢true s)
some_of (Some x) s = (x, refl)

module _ {S E R L W : Type 0} (spot_of : E → W) (watched : R → Option W) (fresh : List (Entry E)) where
  -- what lets the request pass may wake it, where a get that waits at a spot has an event of it
  wakes : (q : Request S R L) (o : Option Touched) → MayBeWoken q o
      → ((v : ℕ) (r : R) (w : W) → q ≡ Get v r → o ≡ Some (Put v) → watched r ≡ Some w → HasSpot spot_of w fresh)
      → MayWake spot_of watched o fresh q
  wakes (Get v r) (Some (Put u)) same spot = (same, by (watched r) refl)
    where
      by : (k : Option W) → watched r ≡ k → MayAnswer spot_of k fresh
      by None e = tt
      by (Some w) e = spot v r w refl (ap (λ z. Some (Put z)) (sym same)) e
  wakes (Get v r) o h spot = absurd h
  wakes (Freeze v pools) (Some (Handed u)) same spot = same
  wakes (Freeze v pools) (Some (EndedIn u)) same spot = same
  wakes (Freeze v pools) o h spot = absurd h
  wakes q o h spot = absurd h

-- the core made this step, and gave no error; the log that it touched had so many entries before it, and these handlers are those that it may concern
pub record IsMade {P S E R A L : Type 0} (M : Machine S E R A L) (cmp : E → E → Ordering) (c : CoreView P S E L) (l : Label E) (d : CoreView P S E L) (logged : ℕ) (handlers : List (Handler E)) (added : Option (Handler E)) (moved : Moved E L) : Type 0 where
  pub labels : List (Label E)
  pub leads : IsRunTo M c labels
  pub step : IsStep M c l d DoneStep
  pub told : IsMoved M (state M c) l moved
  pub long : length c.table.variables ≡ length d.table.variables
  pub is_logged : IsLogged d.table.variables logged d.touched
  pub fresh : (v : ℕ) → d.touched ≡ Some (Put v) → fresh_in d.table.variables logged d.touched ≡ brought M (state M c) l v
  pub concerned : (h : Handler E) → IsAmong h (candidates (fresh_in d.table.variables logged d.touched) handlers added) ↔ Concerns M c l h
  pub by_name : IsStrictlySortedBy (handler_cmp cmp) (candidates (fresh_in d.table.variables logged d.touched) handlers added)

module _ {P S E R A L : Type 0} {M : Machine S E R A L} {cmp : E → E → Ordering} {c d : CoreView P S E L} {l : Label E} {logged : ℕ} {handlers : List (Handler E)} {added : Option (Handler E)} {moved : Moved E L} (until : IsBlockedUntilTouched P M) (k : IsMade M cmp c l d logged handlers added moved) where
  -- the step is no blocked task's
  other : (p : TaskStand E L) → IsBlocked M c p → l ≡ Act p.task → ⊥
  other p b e = b.blocked (subst (λ x. CanTake M c x) e k.step.enabled)

  stays : (p : TaskStand E L) → IsBlocked M c p → (f a q : ℕ) → (state M c).tasks p.task ≡ Live p.from f a q
      → ((state M d).tasks p.task ≡ Live p.from f a q) × (IsReady M (state M d) (M.request p.from) → IsReady M (state M c) (M.request p.from) ⊎ MayBeWoken (M.request p.from) d.touched)
  stays p b f a q is = until c d k.labels l DoneStep k.leads k.step (done_none M c d l k.step) p.task p.from f a q is (other p b)

  -- so a blocked task stays where it is
  pub still_current : (p : TaskStand E L) → IsBlocked M c p → IsCurrent M d p
  still_current p b =
      let is = live_at ((state M c).tasks p.task) p.from b.current in
      ap local_of (stays p b is.0 is.1 is.2 is.3).0

  module _ {W : Type 0} {spot_of : E → W} {watched : R → Option W} (spots : WakesAtItsSpot P M spot_of watched) where
    -- an answer to a get that had none comes with an event of its spot
    at_spot : (v : ℕ) (r : R) (w : W) → d.touched ≡ Some (Put v) → watched r ≡ Some w → (IsReady M (state M c) (Get v r) → ⊥) → IsReady M (state M d) (Get v r)
        → HasSpot spot_of w (fresh_in d.table.variables logged d.touched)
    at_spot v r w touched is never ready = elim ((slice_get_cases c.table.variables v).1) [
      | inl x ↦ elim ((slice_get_cases d.table.variables v).1) [
        | inl y ↦
            let before : (state M c).content v ≡ x.0.state = ap (λ o. unwrap_or (option_map (λ (z : Variable S E). z.state) o) M.bottom) x.2 in
            let after : (state M d).content v ≡ y.0.state = ap (λ o. unwrap_or (option_map (λ (z : Variable S E). z.state) o) M.bottom) y.2 in
            let answer = some_of (M.answer r ((state M d).content v)) ready in
            let got : M.answer r y.0.state ≡ Some answer.0 = sym (ap (M.answer r) after) ∙ answer.1 in
            let none : M.answer r x.0.state ≡ None = sym (ap (M.answer r) before) ∙ none_of (M.answer r ((state M c).content v)) never in
            subst (λ es. HasSpot spot_of w es) (sym (k.fresh v touched)) (spots c d k.labels l DoneStep k.leads k.step v x.0 y.0 x.2 y.2 r w is none answer.0 got)
        | inr out ↦ absurd (omega (arith, k.long, x.1, out.0))
      ]
      | inr out ↦
          let gone : slice_get d.table.variables v ≡ None = slice_get_past d.table.variables v (omega (arith, k.long, out.0)) in
          let same : (state M d).content v ≡ (state M c).content v = ap (λ o. unwrap_or (option_map (λ (z : Variable S E). z.state) o) M.bottom) (gone ∙ sym out.1) in
          absurd (never (subst (λ s. IsSome (M.answer r s)) same ready))
    ]

    -- a blocked task that can go on after the step may have been woken by it
    may_wake : (p : TaskStand E L) → IsBlocked M c p → CanTake M d (Act p.task) → MayWake spot_of watched d.touched (fresh_in d.table.variables logged d.touched) (M.request p.from)
    may_wake p b can =
        let is = live_at ((state M c).tasks p.task) p.from b.current in
        let kept = stays p b is.0 is.1 is.2 is.3 in
        let task : IsReadyTask M (state M d) ((state M d).tasks p.task) = subst (λ (q : Configuration S E L). CanStep M q (Act p.task)) (at_state M d (done_none M c d l k.step)) can.0 in
        let ready : IsReady M (state M d) (M.request p.from) = subst (λ x. IsReadyTask M (state M d) x) kept.0 task in
        let never : IsReady M (state M c) (M.request p.from) → ⊥ = λ was.
        let task_was : IsReadyTask M (state M c) ((state M c).tasks p.task) = subst (λ x. IsReadyTask M (state M c) x) (sym is.3) was in
        b.blocked (subst (λ (q : Configuration S E L). CanStep M q (Act p.task)) (sym (at_state M c (begins_well M c d l DoneStep k.step))) task_was, tt) in
        elim (kept.1 ready) [
          | inl was ↦ absurd (never was)
          | inr passes ↦ wakes spot_of watched (fresh_in d.table.variables logged d.touched) (M.request p.from) d.touched passes (λ v r w e touched is_at.
              at_spot v r w touched is_at (λ z. never (subst (λ q. IsReady M (state M c) q) (sym e) z)) (subst (λ q. IsReady M (state M d) q) e ready))
        ]

    -- what the step leaves, where the parked tasks were blocked
    module _ {old new : List (TaskStand E L)} (blocked : (p : TaskStand E L) → IsAmong p old → IsBlocked M c p) {P1 B1 A1 : Type 0} {own made : Option (TaskStand E L)} {ws : List (Work P1 B1 S L R A1 W E)} (left : IsLeft cmp M spot_of watched d logged own made added handlers old new ws) where
      shut : (p : TaskStand E L) → IsAmong p new → CanTake M d (Act p.task) → ⊥
      shut p i can = left.woken_are.left p i (may_wake p (blocked p (left.woken_are.stay p i).0) can) can

      -- who stays parked is blocked
      pub blocked_after : (p : TaskStand E L) → IsAmong p new → IsBlocked M d p
      blocked_after p i = record { current = still_current p (blocked p (left.woken_are.stay p i).0); blocked = shut p i }

      listed_here : option_list own ++ option_list made ≡ tickets l moved → (s u : Standing P S E L)
          → IsListed cmp M (record { trace = s.trace; core = c; over = s.over; parked = old }) l (record { trace = u.trace; core = d; over = u.over; parked = new }) ws
      listed_here places s u = record {
        woken = left.woken;
        hands = left.work.hands;
        is = left.work.is ∙ ap (λ ps. stretches ps ++ acts left.woken ++ handings left.work.hands) (places ∙ ap (λ m. tickets l m) k.told);
        woken_are = λ p. (
          λ i. left.woken_are.were p i,
          λ h. elim (left.woken_are.split p h.0) [
            | inl i ↦ i
            | inr i ↦ absurd (shut p i h.1)
          ],
        );
        woken_by_name = left.by_name;
        still = λ p. (
          λ i. ((left.woken_are.stay p i).0, shut p i),
          λ h. elim (left.woken_are.split p h.0) [
            | inl i ↦ absurd (h.1 (left.woken_are.were p i).1)
            | inr i ↦ i
          ],
        );
        hands_are = λ h.
            let those = those_are (λ g. HasNext M d g) (candidates (fresh_in d.table.variables logged d.touched) handlers added) left.work.hands left.work.are h in
            (λ i. ((those.0 i).0, (k.concerned h).0 (those.0 i).1), λ z. those.1 (z.0, (k.concerned h).1 z.1));
        hands_by_name = those_sorted (λ g. HasNext M d g) (handler_cmp cmp) (candidates (fresh_in d.table.variables logged d.touched) handlers added) left.work.hands left.work.are k.by_name;
      }

      -- the board keeps what it says, where it tells its end
      pub kept_made : EndsByCounts P M → (program : P) (budget : ℕ) (trace longer : List (Step E)) (over after : Option (Over E)) (worker : ℕ) → IsBoardSound M program budget (record { trace = trace; core = c; over = over; parked = old })
          → length trace < budget → longer ≡ trace ++ entry_of worker l ∷ [] → NoRepeats (tasks_of new) → TellsEnd M d (length new) after → IsBoardSound M program budget (record { trace = longer; core = d; over = after; parked = new })
      kept_made ends program budget trace longer over after worker sound room more once tells =
          let end = told_end M ends budget longer d (k.labels ++ l ∷ []) new (k.step.leads k.labels k.leads) (done_none M c d l k.step) blocked_after once after tells in
          kept_step M program budget trace longer c d over after old new l worker DoneStep sound k.step room more end.0 end.1 blocked_after once

      -- just the work that is to be listed
      pub is_listed : option_list own ++ option_list made ≡ tickets l moved → (s u : Standing P S E L) → s.core ≡ c → s.parked ≡ old → u.core ≡ d → u.parked ≡ new → IsListed cmp M s l u ws
      is_listed places s u s_core s_parked u_core u_parked =
          let before : record { trace = s.trace; core = c; over = s.over; parked = old } ≡ s = λ i. record { trace = s.trace; core = sym s_core i; over = s.over; parked = sym s_parked i } in
          let later : record { trace = u.trace; core = d; over = u.over; parked = new } ≡ u = λ i. record { trace = u.trace; core = sym u_core i; over = u.over; parked = sym u_parked i } in
          subst (λ z. IsListed cmp M z l u ws) before (subst (λ z. IsListed cmp M (record { trace = s.trace; core = c; over = s.over; parked = old }) l z ws) later (listed_here places s u))
