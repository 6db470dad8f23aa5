-- What a step is to a board, over any machine.
use Rattle.std.proofs.Common.{◌≡◌, ◌⊎◌, ◌↔◌, inl, inr, ◌<◌, ◌+◌, ℕ, suc, List, [], ◌∷◌, ◌++◌, length, Bool, true, false, is_some, Option, Some, None, refl, sym, ap, subst, ◌∙◌, arith, length-append, option_and_then}
use Rattle.std.proofs.lemmas.Bool.{false≢true}
use Rattle.std.proofs.lemmas.List.{length-map, map_push}
use Rattle.lvish_board.specs.Vocabulary.{Label, Act, ErrorKind, RunError, Stepped, DoneStep, ErrorStep, TraceEntry, Outcome as Over, EndedOver, ErrorOver, Budget}
use Rattle.lvish_calculus.specs.Machine.{Machine, IsLawful}
use Rattle.lvish_calculus.specs.Calculus.{Task, Absent, Live, Ended, IsLive, is_live, State, Configuration, Running, Error, Effect, Changes, Fails, Nothing, IsReadyTask, CanStep, after, changed, next, effect, with_task}
use Rattle.lvish_names.specs.Names.{Name}
use Rattle.lvish_calculus.specs.Handing.{IsAmong, NoRepeats}
use Rattle.lvish_calculus.specs.Blocked.{HasBlocked}
use Rattle.lvish_calculus.proofs.Among.{without, among_without, stays_among, once_without, gone, one_less}
use Rattle.lvish_calculus.proofs.Steps.{blamed, view}
use Rattle.lvish_calculus.proofs.Names.{with_task-same}
use Rattle.lvish_calculus.proofs.Runs.{nothing}
use Rattle.lvish_calculus.proofs.Sound.{acts_live}
use Rattle.lvish_core.specs.Core.{CoreView, IsRunTo, IsStep, CanTake, state, picture, at_fault, says}
use Rattle.lvish_core.specs.Changes.{local_of, moved_in}
use Rattle.lvish_core.specs.Reads.{HasRunning, AreDrained}
use Rattle.lvish_core.specs.Blocked.{EndsByCounts}
use Rattle.lvish_core.specs.laws.Runs.{at_state, no_error_before, running_same}
use Rattle.lvish_board.specs.Acts.{entry_of}
use Rattle.lvish_board.specs.Stand.{TaskStand}
use Rattle.lvish_board.specs.Woken.{IsParkedBeside}
use Rattle.lvish_trace.specs.Traced.{labels_of}
use Rattle.lvish_board.specs.Board.{Standing, tasks_of, AreAllParked, IsBlocked, IsCurrent, IsBoardSound, OverIs, TellsEnd}
use Rattle.lvish_board.proofs.Among.{of_map}

-- a task of places is that of one of them
pub of_task : {E L : Type 0} (t : Name E) (ps : List (TaskStand E L)) → IsAmong t (tasks_of ps) → (p : TaskStand E L) × IsAmong p ps × (p.task ≡ t)
of_task {E} {L} t ps a = of_map (λ (p : TaskStand E L). p.task) t ps a

pub live_there : {L : Type 0} (k : Task L) (l : L) → local_of k ≡ Some l → IsLive k
live_there (Live m f a p) l e = is_live
live_there Absent l e = absurd cc
live_there Ended l e = absurd cc

-- what is over in some way isn't over in none
pub some_over : {X Y : Type 0} (x : X) → Some x ≡ None → Y
some_over x none = absurd (false≢true (sym (ap is_some none)))

-- a trace shorter than the budget isn't as long
pub not_full : {n m : ℕ} → n < m → n ≡ m → ⊥
not_full less same = absurd (omega (arith, less, same))

-- what a core can take by the machine of its board's program, it can take by that of its own, as a contract sees it
pub can_seen : {P S E R A L : Type 0} (machine : P → Machine S E R A L) (program : P) (c d : CoreView P S E L) (l : Label E) → c.program ≡ program → d ≡ c → CanTake (machine program) c l → CanTake (machine d.program) d l
can_seen machine program c d l own same can = subst (λ z. CanTake (machine z.program) z l) (sym same) (subst (λ p. CanTake (machine p) c l) (sym own) can)

-- lists of the same names without repeats are as long
module _ {E : Type 0} (eq : E → E → Bool) (is : (a b : E) → (eq a b ≡ true) ↔ (a ≡ b)) where
  as_long : (us vs : List (Name E)) → NoRepeats us → NoRepeats vs → ((t : Name E) → IsAmong t us ↔ IsAmong t vs) → length us ≡ length vs
  as_long [] [] once other same = refl
  as_long [] (v ∷ vs) once other same = absurd ((same v).1 (inl refl))
  as_long (u ∷ us) vs once other same =
      let rest : length us ≡ length (without eq is u vs) = as_long us (without eq is u vs) once.1 (once_without eq is u vs other) (λ t. (
        λ i. stays_among eq is u t vs (λ e. once.0 (subst (λ z. IsAmong z us) e i)) ((same t).0 (inr i)),
        λ i. elim ((same t).1 (among_without eq is u t vs i)) [
          | inl e ↦ absurd (gone eq is u vs other (subst (λ z. IsAmong z (without eq is u vs)) e i))
          | inr z ↦ z
        ],
      )) in
      ap suc rest ∙ sym (one_less eq is u vs ((same u).0 (inl refl)))

module _ {P S E R A L : Type 0} (M : Machine S E R A L) where
  -- so many tasks haven't ended, and no other number of them
  running_once : IsLawful M → (c : CoreView P S E L) (n m : ℕ) → HasRunning M c n → HasRunning M c m → n ≡ m
  running_once ok c n m a b = sym a.count ∙ as_long M.event_same ok.event_same_is a.names b.names a.once b.once (λ t. (λ i. (b.just t).1 ((a.just t).0 i), λ i. (a.just t).1 ((b.just t).0 i))) ∙ b.count

  -- a board tells no end where another number of tasks is parked than haven't ended, or a handler isn't drained
  pub tells_none : IsLawful M → (c : CoreView P S E L) (parked running : ℕ) (over : Option (Over E)) → over ≡ None → HasRunning M c running → ((parked ≡ running → ⊥) ⊎ (AreDrained c.table → ⊥)) → TellsEnd M c parked over
  tells_none ok c parked running over none counted why = subst (λ o. TellsEnd M c parked o) (sym none) (λ all drained. elim why [
    | inl other ↦ other (running_once ok c parked running all counted)
    | inr more ↦ more drained
  ])

  -- parked tasks are live
  parked_live : (c : CoreView P S E L) (ps : List (TaskStand E L)) → ((p : TaskStand E L) → IsAmong p ps → IsBlocked M c p) → (t : Name E) → IsAmong t (tasks_of ps) → IsLive ((state M c).tasks t)
  parked_live c ps blocked t a =
      let r = of_task t ps a in
      live_there ((state M c).tasks t) r.0.from (subst (λ u. local_of ((state M c).tasks u) ≡ Some r.0.from) r.2 (blocked r.0 r.1).current)

  -- where all live tasks are parked, so many haven't ended as are parked
  all_counted : (c : CoreView P S E L) (ps : List (TaskStand E L)) → ((p : TaskStand E L) → IsAmong p ps → IsBlocked M c p) → NoRepeats (tasks_of ps) → ((t : Name E) → IsLive ((state M c).tasks t) → IsAmong t (tasks_of ps)) → HasRunning M c (length ps)
  all_counted c ps blocked once all = record {
    names = tasks_of ps;
    once = once;
    just = λ t. (parked_live c ps blocked t, all t);
    count = length-map ps (λ (p : TaskStand E L). p.task);
  }

  -- the parked tasks wait
  waiting : (c : CoreView P S E L) (ps : List (TaskStand E L)) → c.fault ≡ None → ((p : TaskStand E L) → IsAmong p ps → IsBlocked M c p) → NoRepeats (tasks_of ps) → HasBlocked M (state M c) (length ps)
  waiting c ps none blocked once = record {
    names = tasks_of ps;
    once = once;
    live = parked_live c ps blocked;
    wait = λ t a ready.
        let r = of_task t ps a in
        let b = blocked r.0 r.1 in
        let able : IsReadyTask M (state M c) ((state M c).tasks r.0.task) = subst (λ u. IsReadyTask M (state M c) ((state M c).tasks u)) (sym r.2) ready in
        b.blocked (subst (λ (q : Configuration S E L). CanStep M q (Act r.0.task)) (sym (at_state M c none)) able, tt);
    count = length-map ps (λ (p : TaskStand E L). p.task);
  }

  -- with the same steps, over in another way, or with others parked
  pub kept_over : {program : P} {budget : ℕ} {trace : List (TraceEntry E)} {c : CoreView P S E L} {over after : Option (Over E)} {ps qs : List (TaskStand E L)}
      → IsBoardSound M program budget (record { trace = trace; core = c; over = over; parked = ps })
      → OverIs M budget (record { trace = trace; core = c; over = after; parked = qs }) after → (after ≡ None → AreAllParked M (record { trace = trace; core = c; over = after; parked = qs }) → AreDrained c.table → ⊥)
      → ((p : TaskStand E L) → IsAmong p qs → IsBlocked M c p) → NoRepeats (tasks_of qs)
      → IsBoardSound M program budget (record { trace = trace; core = c; over = after; parked = qs })
  kept_over s o going blocked once = record {
    program_is = s.program_is;
    leads = s.leads;
    counted = s.counted;
    within = s.within;
    bounded = s.bounded;
    over_is = o;
    not_at_end = going;
    blocked = blocked;
    once = once;
  }

  -- a board that isn't over has no error
  pub no_fault : (program : P) (budget : ℕ) (s : Standing P S E L) → IsBoardSound M program budget s → s.over ≡ None → s.core.fault ≡ None
  no_fault program budget s k none = subst (λ o. OverIs M budget s o) none k.over_is

  -- a board that tells its end is over in the way that it is, and at its end
  pub told_end : EndsByCounts P M → (budget : ℕ) (trace : List (TraceEntry E)) (c : CoreView P S E L) (labels : List (Label E)) (ps : List (TaskStand E L)) → IsRunTo M c labels → c.fault ≡ None
      → ((p : TaskStand E L) → IsAmong p ps → IsBlocked M c p) → NoRepeats (tasks_of ps) → (after : Option (Over E)) → TellsEnd M c (length ps) after
      → OverIs M budget (record { trace = trace; core = c; over = after; parked = ps }) after
      × (after ≡ None → AreAllParked M (record { trace = trace; core = c; over = after; parked = ps }) → AreDrained c.table → ⊥)
  told_end ends budget trace c labels ps leads fine blocked once None tells = (fine, λ none all drained. tells (all_counted c ps blocked once all) drained)
  told_end ends budget trace c labels ps leads fine blocked once (Some EndedOver) tells = ((ends c labels (length ps) leads fine tells.0 (waiting c ps fine blocked once)).1 tells.1, some_over EndedOver)
  told_end ends budget trace c labels ps leads fine blocked once (Some (ErrorOver kind v t)) tells = absurd tells
  told_end ends budget trace c labels ps leads fine blocked once (Some Budget) tells = absurd tells

  -- one more parked
  pub kept_parked : EndsByCounts P M → (program : P) (budget : ℕ) (trace : List (TraceEntry E)) (c : CoreView P S E L) (over after : Option (Over E)) (ps qs : List (TaskStand E L)) (p : TaskStand E L)
      → IsBoardSound M program budget (record { trace = trace; core = c; over = over; parked = ps })
      → IsCurrent M c p → (CanTake M c (Act p.task) → ⊥) → IsParkedBeside ps p qs → NoRepeats (tasks_of qs) → over ≡ None → TellsEnd M c (length qs) after
      → IsBoardSound M program budget (record { trace = trace; core = c; over = after; parked = qs })
  kept_parked ends program budget trace c over after ps qs p s current blocked beside once none tells =
      let fine = no_fault program budget (record { trace = trace; core = c; over = over; parked = ps }) s none in
      let shut : (q : TaskStand E L) → IsAmong q qs → IsBlocked M c q = λ q a. elim ((beside.each q).0 a) [
        | inl e ↦ subst (λ z. IsBlocked M c z) (sym e) (record { current = current; blocked = blocked })
        | inr w ↦ s.blocked q w.0
      ] in
      let end = told_end ends budget trace c (labels_of trace) qs s.leads fine shut once after tells in
      kept_over s end.0 end.1 shut once

  -- a step more
  pub kept_step : (program : P) (budget : ℕ) (trace longer : List (TraceEntry E)) (c d : CoreView P S E L) (over after : Option (Over E)) (ps qs : List (TaskStand E L)) (l : Label E) (worker : ℕ) (said : Stepped)
      → IsBoardSound M program budget (record { trace = trace; core = c; over = over; parked = ps })
      → IsStep M c l d said → length trace < budget → longer ≡ trace ++ entry_of worker l ∷ []
      → OverIs M budget (record { trace = longer; core = d; over = after; parked = qs }) after → (after ≡ None → AreAllParked M (record { trace = longer; core = d; over = after; parked = qs }) → AreDrained d.table → ⊥)
      → ((p : TaskStand E L) → IsAmong p qs → IsBlocked M d p) → NoRepeats (tasks_of qs)
      → IsBoardSound M program budget (record { trace = longer; core = d; over = after; parked = qs })
  kept_step program budget trace longer c d over after ps qs l worker said s step room long o going blocked once =
      let len : length (trace ++ entry_of worker l ∷ []) ≡ length trace + 1 = length-append trace (entry_of worker l ∷ []) in
      let count : length longer ≡ length trace + 1 = ap length long ∙ len in
      record {
        program_is = step.program ∙ s.program_is;
        leads = subst (λ zs. IsRunTo M d zs) (sym (ap labels_of long ∙ map_push (λ (e : TraceEntry E). e.label) trace (entry_of worker l))) (step.leads (labels_of trace) s.leads);
        counted = step.steps ∙ ap (λ n. n + 1) s.counted ∙ sym count;
        within = omega (arith, count, room);
        bounded = s.bounded;
        over_is = o;
        not_at_end = going;
        blocked = blocked;
        once = once;
      }

  -- without an error before it, a step has an error just where it says so
  pub done_none : (c d : CoreView P S E L) (l : Label E) → IsStep M c l d DoneStep → d.fault ≡ None
  done_none c d l step = by d.fault refl
    where
      by : (f : Option (RunError E)) → d.fault ≡ f → d.fault ≡ None
      by None e = e
      by (Some f) e = absurd (subst (λ q. says (at_fault (state M d) q) DoneStep) e step.answer)

  pub error_some : (c d : CoreView P S E L) (l : Label E) (kind : ErrorKind) → IsStep M c l d (ErrorStep kind) → (f : RunError E) × (d.fault ≡ Some f) × (f.kind ≡ kind)
  error_some c d l kind step = by d.fault refl
    where
      by : (g : Option (RunError E)) → d.fault ≡ g → (f : RunError E) × (d.fault ≡ Some f) × (f.kind ≡ kind)
      by None e = absurd (subst (λ q. says (at_fault (state M d) q) (ErrorStep kind)) e step.answer)
      by (Some f) e = (f, e, subst (λ q. says (at_fault (state M d) q) (ErrorStep kind)) e step.answer)

  -- nothing is enabled after an error
  pub begins_well : (c d : CoreView P S E L) (l : Label E) (said : Stepped) → IsStep M c l d said → c.fault ≡ None
  begins_well c d l said step = no_error_before M (state M c) c.fault l step.enabled.0

  pub stepped_from : (c d : CoreView P S E L) (l : Label E) (said : Stepped) → IsStep M c l d said → picture M d ≡ after M (state M c) (effect M (state M c) l)
  stepped_from c d l said step = step.stepped ∙ ap (λ (q : Configuration S E L). next M q l) (at_state M c (begins_well c d l said step))

  -- the error of a task's step is that task's
  pub error_own : (c d : CoreView P S E L) (t : Name E) (kind : ErrorKind) → IsStep M c (Act t) d (ErrorStep kind) → d.fault ≡ Some (record { kind = kind; variable = option_and_then (λ f. f.variable) d.fault; task = t })
  error_own c d t kind step =
      let f = error_some c d (Act t) kind step in
      let from : Error f.0.kind f.0.variable f.0.task ≡ after M (state M c) (effect M (state M c) (Act t)) = sym (ap (at_fault (state M d)) f.1) ∙ stepped_from c d (Act t) (ErrorStep kind) step in
      let own : t ≡ f.0.task = by f.0 (effect M (state M c) (Act t)) refl from in
      f.1 ∙ (λ i. Some (record { kind = f.2 i; variable = f.0.variable; task = sym own i })) ∙ ap (λ v. Some (record { kind = kind; variable = v; task = t })) (sym (ap (λ o. option_and_then (λ (z : RunError E). z.variable) o) f.1))
    where
      by : (f : RunError E) (o : Effect S E L) → effect M (state M c) (Act t) ≡ o → Error f.kind f.variable f.task ≡ after M (state M c) (effect M (state M c) (Act t)) → t ≡ f.task
      by f (Fails k v u) e z =
          let same : Error f.kind f.variable f.task ≡ Error k v u = z ∙ ap (after M (state M c)) e in
          let task : f.task ≡ u = cc in
          blamed M (state M c) t k v u e ∙ sym task
      by f (Changes ch) e z = let same : Error f.kind f.variable f.task ≡ Running (changed M ch (state M c)) = z ∙ ap (after M (state M c)) e in absurd cc
      by f Nothing e z = let same : Error f.kind f.variable f.task ≡ Running (state M c) = z ∙ ap (after M (state M c)) e in absurd cc

  module _ (ok : IsLawful M) where
    -- the state in which the acting task goes on is what is told
    pub own_told : (c d : CoreView P S E L) (t : Name E) → IsStep M c (Act t) d DoneStep → local_of ((state M d).tasks t) ≡ (moved_in (effect M (state M c) (Act t))).own
    own_told c d t step = by (effect M (state M c) (Act t)) refl
      where
        none : d.fault ≡ None
        none = done_none c d (Act t) step

        from : Running (state M d) ≡ after M (state M c) (effect M (state M c) (Act t))
        from = sym (at_state M d none) ∙ stepped_from c d (Act t) DoneStep step

        by : (o : Effect S E L) → effect M (state M c) (Act t) ≡ o → local_of ((state M d).tasks t) ≡ (moved_in (effect M (state M c) (Act t))).own
        by (Changes ch) e =
            let same : state M d ≡ changed M ch (state M c) = running_same (from ∙ ap (after M (state M c)) e) in
            let k = acts_live M ok (state M c) (Act t) ch (view M ok (state M c) (Act t) ch e) t refl in
            let there : (changed M ch (state M c)).tasks t ≡ k.0 = ap (λ o. with_task M.event_same o (with_task M.event_same ch.made (state M c).tasks) t) k.1 ∙ with_task-same M.event_same ok.event_same_is t k.0 (with_task M.event_same ch.made (state M c).tasks) in
            ap (λ (s : State S E L). local_of (s.tasks t)) same ∙ ap local_of there ∙ sym (ap (λ o. (moved_in o).own) e ∙ ap (λ o. option_and_then (λ x. local_of x.1) o) k.1)
        by (Fails k v u) e = let z : Running (state M d) ≡ Error k v u = from ∙ ap (after M (state M c)) e in absurd cc
        by Nothing e = absurd (nothing M ok (state M c) (Act t) (subst (λ (q : Configuration S E L). CanStep M q (Act t)) (at_state M c (begins_well c d (Act t) DoneStep step)) step.enabled.0) e)

-- what isn't there is none
pub none_is : {X : Type 0} (o : Option X) → is_some o ≡ false → o ≡ None
none_is None h = refl
none_is (Some x) h = absurd (false≢true (sym h))
