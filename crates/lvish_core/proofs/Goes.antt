-- A step of a core that isn't an error, over any machine.
use Rattle.std.proofs.Common.{◌≡◌, ◌+◌, ◌<◌, ◌≤◌, ℕ, List, [], ◌∷◌, ◌++◌, length, Option, Some, None, option_and_then, slice_get, slice_set, refl, sym, ap, subst, ◌∙◌, arith, length-append, append-nil}
use Rattle.std.proofs.lemmas.Option.{same_Some, slice_get_within}
use Rattle.lvish_core.specs.Vocabulary.{MOST_PROGRAM_STEPS, Label, Act, Request, Entry, HandlerPlace, Touched, DoneStep, Made}
use Rattle.lvish_calculus.specs.Machine.{Machine, IsLawful}
use Rattle.lvish_calculus.specs.Calculus.{Task, State, Configuration, IsLive, Running, Change, Changes, CanStep, after, changed, next, effect, request_effect, start, task_effect, with_task}
use Rattle.lvish_names.specs.Names.{Name, Handler}
use Rattle.lvish_calculus.specs.Live.{HasLive}
use Rattle.lvish_variable.specs.Variable.{VariableView as Variable}
use Rattle.lvish_picture.specs.Picture.{Table, IsPictured, task_of}
use Rattle.lvish_picture.specs.Steps.{AreTasks}
use Rattle.lvish_picture.specs.Laws.{IsTableStep as TableStep}
use Rattle.lvish_picture.specs.Counts.{CountsRunning}
use Rattle.lvish_core.specs.Core.{CoreView, state, IsStep, HandsNext, says}
use Rattle.lvish_core.specs.Changes.{brings, put_brings, local_of, made_as, moved_by, moved_in, more_frozen, task_touches, touched_by}
use Rattle.lvish_calculus.specs.FreezeOrder.{froze_by, freeze_order}
use Rattle.lvish_core.specs.Puts.{brought_by_run}
use Rattle.lvish_core.specs.Places.{IsIndex}
use Rattle.lvish_core.specs.Tasks.{IsAt, KeepsIndices, Sets}
use Rattle.lvish_core.specs.Acts.{IsActing, IsMoving}
use Rattle.lvish_core.specs.Kept.{IsKept, AreFew}
use Rattle.lvish_core.specs.laws.Runs.{running_same, at_state, pictured_by, run_to}
use Rattle.lvish_picture.proofs.Slots.{read, written, earlier, get_there}
use Rattle.lvish_core.proofs.Puts.{brought_more}
use Rattle.lvish_core.proofs.Freezes.{freezes_more}
use Rattle.lvish_core.proofs.Turns.{Turn, Start, joined, left, live_is, no_more, live_after, few_after}

-- a log that stays
pub same_log : {S E : Type 0} (xs : List (Variable S E)) (v : ℕ) (x y : Variable S E) → slice_get xs v ≡ Some x → slice_get xs v ≡ Some y → y.log ≡ x.log ++ []
same_log {S} {E} xs v x y a b = let e : y ≡ x = cc in ap (λ (z : Variable S E). z.log) e ∙ sym (append-nil x.log)

-- the logs, where one variable is written
pub written_log : {S E : Type 0} (xs : List (Variable S E)) (v : ℕ) (from to : Variable S E) → slice_get xs v ≡ Some from → (ys : List (Variable S E)) → ys ≡ slice_set xs v to
    → (brought : ℕ → List (Entry E)) → to.log ≡ from.log ++ brought v → ((u : ℕ) → (u ≡ v → ⊥) → brought u ≡ []) → (u : ℕ) (x y : Variable S E) → slice_get xs u ≡ Some x → slice_get ys u ≡ Some y → y.log ≡ x.log ++ brought u
written_log {S} {E} xs v from to was ys is brought at_v else u x y ax ay = elim (read xs v to u y (slice_get_within xs v from was) (ap (λ l. slice_get l u) (sym is) ∙ ay)) [
  | written uv yt ↦
      let same : x ≡ from = same_Some _ _ (sym ax ∙ ap (slice_get xs) uv ∙ was) in
      ap (λ (z : Variable S E). z.log) yt ∙ at_v ∙ ap (λ (z : Variable S E). z.log ++ brought v) (sym same) ∙ ap (λ i. x.log ++ brought i) (sym uv)
  | earlier ne oy ↦ same_log xs u x y ax oy ∙ ap (λ l. x.log ++ l) (sym (else u ne))
]

-- what is told to be made is what a change makes
made_of : {S E L : Type 0} (ch : Change S E L) (m : Made E L) → (moved_by ch).made ≡ Some m → (x : Name E × Task L) × (ch.made ≡ Some x) × (m.name ≡ x.0)
made_of {S} {E} {L} ch m e = by ch.made refl e
  where
    named : (x : Name E × Task L) (o : Option L) → made_as x.0 o ≡ Some m → m.name ≡ x.0
    named x None e = absurd (cc e)
    named x (Some l) e = ap (λ (z : Made E L). z.name) (sym (same_Some _ _ e))

    by : (o : Option (Name E × Task L)) → ch.made ≡ o → option_and_then (λ x. made_as x.0 (local_of x.1)) o ≡ Some m → (x : Name E × Task L) × (ch.made ≡ Some x) × (m.name ≡ x.0)
    by None is e = absurd (cc e)
    by (Some x) is e = (x, is, named x (local_of x.1) e)

-- the core after a step: its table, what the step concerned, and the order of freezes
abbrev pub later : {P S E L : Type 0} → CoreView P S E L → Table S E L → Touched → List ℕ → CoreView P S E L
later old table on freezes = record { program = old.program; table = table; steps = old.steps + 1; fault = old.fault; touched = Some on; freezes = freezes }

-- a task's step
module _ {P S E R A L : Type 0} {M : Machine S E R A L} {old : CoreView P S E L} {t : Name E} {at : L} {f a p : ℕ} {r : Request S R L} (acts : IsActing M old t at f a p r) where
  pub outcome_is : effect M (state M old) (Act t) ≡ request_effect M (state M old) t at f a p r
  outcome_is = ap (task_effect M (state M old) t) acts.asking.live ∙ ap (λ q. request_effect M (state M old) t (M.at acts.local) f a p q) acts.asking.asked
      ∙ ap (λ l. request_effect M (state M old) t l f a p r) (sym acts.at_is)

  pub was_live : IsLive (task_of M.event_same old.table.tasks t)
  was_live = live_is _ acts.local f a p acts.asking.live

  -- what the task goes on with, told as table steps tell it
  pub as_asked : (k : L → Task L) {from us : List (Name E × Task L)} → Sets M.event_same from t (k at) us → AreTasks M.event_same from (Some (t, k (M.at acts.local))) None us
  as_asked k {from} {us} sets u = subst (λ l. task_of M.event_same us u ≡ with_task M.event_same (Some (t, k l)) (task_of M.event_same from) u) acts.at_is (sets.each u)

module _ {P S E R A L : Type 0} {M : Machine S E R A L} (ok : IsLawful M) {variables n : ℕ} {places : List (Handler E × HandlerPlace)} {old : CoreView P S E L} (kept : IsKept M variables n places old) where
  -- what makes a step: its change in the calculus, and what it leaves
  pub record Going (l : Label E) (change : Change S E L) (new : Table S E L) (more : List (Handler E × HandlerPlace)) : Type 0 where
    pub does : effect M (state M old) l ≡ Changes change
    pub turn : Turn (state M old).tasks change.own
    pub begins : Start (state M old).tasks change.made
    pub steps : (xs : List (Label E)) → IsPictured M old.table xs → TableStep M old.table xs l new
    pub logs : (v : ℕ) (x y : Variable S E) → slice_get old.table.variables v ≡ Some x → slice_get new.variables v ≡ Some y → y.log ≡ x.log ++ put_brings M (state M old) v change.joined change.own
    pub long : length new.variables ≡ length old.table.variables
    pub counted : CountsRunning M new
    pub index : IsIndex M (changed M change (state M old)) more
    pub indices : KeepsIndices old.table.tasks new.tasks
    pub last : (x : Name E × Task L) → change.made ≡ Some x → IsAt new.tasks (length old.table.tasks) x.0

  -- a step that is no error moves what its change does, and the core keeps what it keeps
  abbrev pub MovesTo : Label E → Change S E L → Table S E L → List (Handler E × HandlerPlace) → Touched → List ℕ → Type 0
  MovesTo l change new more on freezes = IsMoving M old l (later old new on freezes) DoneStep (moved_by change) × IsKept M variables (left change.own (joined change.made n)) more (later old new on freezes)

  abbrev pub Moves : Label E → Change S E L → Table S E L → List (Handler E × HandlerPlace) → Touched → Type 0
  Moves l change new more on = MovesTo l change new more on (more_frozen old.freezes (state M old).frozen change.froze)

  module _ (l : Label E) (change : Change S E L) (new : Table S E L) (more : List (Handler E × HandlerPlace)) (on : Touched) (no_fault : old.fault ≡ None) (room : old.steps < MOST_PROGRAM_STEPS) (takes : HandsNext M old l)
      (touches : on ≡ touched_by M (state M old) l) (g : Going l change new more) where
    -- each log grows by what the step brings
    logs_brought : (ys : List (Label E)) → IsPictured M old.table ys → ((v : ℕ) (x : Variable S E) → slice_get old.table.variables v ≡ Some x → x.log ≡ brought_by_run M (Running (start M)) ys v)
        → (v : ℕ) (y : Variable S E) → slice_get new.variables v ≡ Some y → y.log ≡ brought_by_run M (Running (start M)) (ys ++ l ∷ []) v
    logs_brought ys before was v y at =
        let lt = slice_get_within new.variables v y at in
        let long : length new.variables ≡ length old.table.variables = g.long in
        let x = get_there old.table.variables v (omega (arith, lt, long)) in
        g.logs v x.0 y x.1 at
        ∙ ap (λ q. q ++ put_brings M (state M old) v change.joined change.own) (was v x.0 x.1)
        ∙ ap (λ o. brought_by_run M (Running (start M)) ys v ++ brings M (state M old) v o) (sym g.does)
        ∙ sym (brought_more M ys (state M old) l before.reached v)

    -- and the order of freezes by what it freezes
    abbrev freezes_now : List ℕ
    freezes_now = more_frozen old.freezes (state M old).frozen change.froze

    freezes_are : (ys : List (Label E)) → IsPictured M old.table ys → old.freezes ≡ freeze_order M ys → freezes_now ≡ freeze_order M (ys ++ l ∷ [])
    freezes_are ys before was = ap (λ fs. more_frozen fs (state M old).frozen change.froze) was
        ∙ ap (λ o. more_frozen (freeze_order M ys) (state M old).frozen (froze_by o)) (sym g.does)
        ∙ sym (freezes_more M ys (state M old) l before.reached)

    is_step : IsStep M old l (later old new on freezes_now) DoneStep
    is_step =
        let s = g.steps kept.standing.run kept.standing.pictured in
        record {
          enabled = (subst (λ (q : Configuration S E L). CanStep M q l) (sym (at_state M old no_fault)) s.enabled, takes);
          program = refl;
          steps = refl;
          small = omega arith;
          stepped = at_state M (later old new on freezes_now) no_fault ∙ sym (ap (λ (q : Configuration S E L). next M q l) (at_state M old no_fault) ∙ s.stepped);
          answer = subst (λ (q : Configuration S E L). says q DoneStep) (sym (at_state M (later old new on freezes_now) no_fault)) tt;
          leads = λ ys r. let before = pictured_by M old ys no_fault r in
              run_to M (later old new on freezes_now) (ys ++ l ∷ []) no_fault (g.steps ys before).kept (logs_brought ys before r.brings) (freezes_are ys before r.freezes);
          logs = λ v x y a b. g.logs v x y a b ∙ ap (λ o. x.log ++ brings M (state M old) v o) (sym g.does);
          touched = ap Some touches;
          indices = g.indices;
          started = λ m e. let x = made_of change m (sym (ap (λ o. (moved_in o).made) g.does) ∙ e) in subst (λ t. IsAt new.tasks (length old.table.tasks) t) (sym x.2) (g.last x.0 x.1);
          shows_before = λ k e. let no_error : ⊥ = cc in absurd no_error;
        }

    state_after : state M (later old new on freezes_now) ≡ changed M change (state M old)
    state_after = running_same (sym (sym (ap (λ o. after M (state M old) o) g.does) ∙ (g.steps kept.standing.run kept.standing.pictured).stepped))

    is_kept : IsKept M variables (left change.own (joined change.made n)) more (later old new on freezes_now)
    is_kept =
        record {
          reached = record {
            labels = kept.reached.labels ++ l ∷ [];
            count = length-append kept.reached.labels (l ∷ []) ∙ ap (λ i. i + 1) kept.reached.count;
            leads = is_step.leads kept.reached.labels kept.reached.leads;
          };
          standing = record {
            run = kept.standing.run ++ l ∷ [];
            few = let short : length kept.standing.run ≤ old.steps = kept.standing.few in let longer : length (kept.standing.run ++ l ∷ []) ≡ length kept.standing.run + 1 = length-append kept.standing.run (l ∷ []) in omega arith;
            pictured = (g.steps kept.standing.run kept.standing.pictured).kept;
          };
          there = g.long ∙ kept.there;
          counted = g.counted;
          live = subst (λ (q : State S E L). HasLive q (left change.own (joined change.made n))) (sym state_after) (live_after M ok (state M old) change n g.turn g.begins kept.live);
          index = subst (λ (q : State S E L). IsIndex M q more) (sym state_after) g.index;
          steps = omega arith;
          few = let was : n ≤ old.steps + 1 = kept.few in let le = no_more change.own change.made n in omega (arith, was, le);
          numbers = subst (λ (q : State S E L). AreFew q.tasks (old.steps + 1)) (sym state_after) (few_after M ok (state M old) change old.steps g.turn g.begins kept.numbers);
        }

    pub moves : Moves l change new more on
    moves = (record { step = is_step; change = sym (ap moved_in g.does) }, is_kept)

  pub acted : {t : Name E} {at : L} {f a p : ℕ} {r : Request S R L} (acts : IsActing M old t at f a p r) (change : Change S E L) (new : Table S E L) (more : List (Handler E × HandlerPlace)) (on : Touched) → on ≡ task_touches M (state M old) (Changes change) → old.steps < MOST_PROGRAM_STEPS
      → Going (Act t) change new more → Moves (Act t) change new more on
  acted {t = t} acts change new more on touches room g = moves (Act t) change new more on acts.no_fault room tt (touches ∙ sym (ap (task_touches M (state M old)) g.does)) g
