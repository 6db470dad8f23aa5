-- The walk of a core by the labels of a trace.
use Rattle.std.proofs.Common.{◌≡◌, ◌+◌, ◌<◌, ◌≤◌, ◌⊎◌, inl, inr, ℕ, Bool, true, false, List, [], ◌∷◌, ◌++◌, length, get_or, option_map, Some, refl, sym, ap, ◌∙◌, subst, arith, length-append, append_assoc, append-nil}
use Rattle.std.proofs.lemmas.Option.{slice_get_within, slice_get-get_or, slice_get-map, none-some}
use Rattle.std.proofs.lemmas.List.{length-map}
use Rattle.std.proofs.lemmas.Bool.{cases_lt, false≢true}
use Rattle.std.specs.List.{slice_get}
use Rattle.lvish_calculus.specs.declared.label.Label.{Label}
use Rattle.lvish_calculus.specs.Machine.{Machine}
use Rattle.lvish_calculus.specs.Calculus.{Task, Configuration, Running, Error, IsRun, CanStep, start}
use Rattle.lvish_calculus.specs.Handing.{HandsOldestFirst, IsAmong}
use Rattle.lvish_calculus.proofs.SameThere.{run_split}
use Rattle.lvish_names.specs.Names.{Name}
use Rattle.lvish_variable.specs.declared.entry.Entry.{Entry}
use Rattle.lvish_variable.specs.Variable.{VariableView as Variable}
use Rattle.lvish_core.specs.laws.Lists.{either_among, among_first, among_last}
use Rattle.lvish_core.specs.Changes.{brought}
use Rattle.lvish_core.specs.Core.{CoreView, picture, state, IsBegun, IsRunTo}
use Rattle.lvish_core.specs.CoreLaws.{TakesCoreRuns, EntriesNameTheirPuts, PutsHaveTheirEntries}
use Rattle.lvish_core.specs.Tasks.{IsAt, KeepsIndices}
use Rattle.lvish_trace.specs.declared.trace_entry.TraceEntry.{TraceEntry}
use Rattle.lvish_trace.specs.Traced.{labels_of}
use Rattle.lvish_retrace.specs.declared.bringer.Bringer.{Bringer}
use Rattle.lvish_retrace.specs.declared.told_step.ToldStep.{ToldStep}
use Rattle.lvish_retrace.specs.Brought.{IsBringer}
use Rattle.lvish_retrace.specs.Walk.{IsCoreRun, AreSteps, CantGo, IsToldStep, IsWalkedTo, IsTold, TellsOrStops, actor}
use Rattle.lvish_retrace.proofs.Lists.{left_at, none_left, stays_at, at_or_last, there_too}
use Rattle.lvish_retrace.proofs.Bringing.{stays, by_last, whole}

-- the label of the entry at a place
pub label_at : {E : Type 0} (entries : List (TraceEntry E)) (k : ℕ) (d : TraceEntry E) → k < length entries → slice_get (labels_of entries) k ≡ Some (get_or entries k d).label
label_at {E} entries k d less =
    slice_get-map (λ (e : TraceEntry E). e.label) entries k
    ∙ ap (option_map (λ (e : TraceEntry E). e.label)) (slice_get-get_or entries k d less)

-- no entry is left
pub all_read : {E : Type 0} (entries : List (TraceEntry E)) (k : ℕ) → length entries ≤ k → length (labels_of entries) ≤ k
all_read {E} entries k end = omega (arith, end, length-map entries (λ (e : TraceEntry E). e.label))

-- one step more is told
steps_more : {E L : Type 0} (old new : List (Name E × Task L)) (xs : List (Label E)) (l : Label E) (steps : List ToldStep) (s : ToldStep) → KeepsIndices old new → AreSteps old xs steps → IsAt new s.task (actor l) → AreSteps new (xs ++ l ∷ []) (steps ++ s ∷ [])
steps_more {E = E} old new xs l steps s keeps told at = record {
  count = omega (arith, told.count, length-append steps (s ∷ []), length-append xs (l ∷ []));
  each = λ k t m at_t at_m. by k t m (at_or_last steps s k t at_t) (at_or_last xs l k m at_m);
}
  where
    by : (k : ℕ) (t : ToldStep) (m : Label E) → (slice_get steps k ≡ Some t) ⊎ ((k ≡ length steps) × (s ≡ t)) → (slice_get xs k ≡ Some m) ⊎ ((k ≡ length xs) × (l ≡ m)) → IsAt new t.task (actor m)
    by k t m (inl a) (inl b) = keeps t.task (actor m) (told.each k t m a b)
    by k t m (inl a) (inr (e, same)) = let within : k < length steps = slice_get_within steps k t a in let many = told.count in absurd (omega (arith, within, e, many))
    by k t m (inr (e, same)) (inl b) = let within : k < length xs = slice_get_within xs k m b in let many = told.count in absurd (omega (arith, within, e, many))
    by k t m (inr (e, same)) (inr (f, one)) = subst (λ z. IsAt new t.task (actor z)) one (subst (λ z. IsAt new z.task (actor l)) same at)

module _ {P S E R A L : Type 0} (machine : P → Machine S E R A L) (p : P) (takes : TakesCoreRuns P (machine p)) (named : EntriesNameTheirPuts P (machine p)) (puts : PutsHaveTheirEntries P (machine p)) (all : List (Label E)) where
  abbrev M : Machine S E R A L
  M = machine p

  -- at the start nothing was taken, and nothing is in a log
  pub begun : (c : CoreView P S E L) → IsBegun M p c → IsWalkedTo M p all 0 c [] []
  begun c is = record {
    taken = [];
    left = all;
    split = refl;
    count = refl;
    program = is.program;
    steps_made = is.steps;
    leads = is.leads;
    each = λ b i. absurd i;
    noted = λ v x at k e entry. absurd (none-some e (sym (ap (λ zs. slice_get zs k) (is.leads.brings v x at)) ∙ entry));
    told = record { count = refl; each = λ k s l at_s at_l. absurd (none-some s at_s) };
  }

  module _ (number : ℕ) (c : CoreView P S E L) (bs : List (Bringer E)) (steps : List ToldStep) (w : IsWalkedTo M p all number c bs steps) where
    module _ (l : Label E) (at : slice_get all number ≡ Some l) where
      rest : (rest : List (Label E)) × (w.left ≡ l ∷ rest)
      rest = left_at w.taken w.left l (subst (λ n. slice_get (w.taken ++ w.left) n ≡ Some l) (sym w.count) (subst (λ xs. slice_get xs number ≡ Some l) w.split at))

      cut : all ≡ (w.taken ++ l ∷ []) ++ rest.0
      cut = w.split ∙ ap (λ xs. w.taken ++ xs) rest.1 ∙ sym (append_assoc w.taken (l ∷ []) rest.0)

      one_more : (new : CoreView P S E L) (bs1 : List (Bringer E)) (steps1 : List ToldStep) → IsToldStep (machine c.program) c l new number bs bs1 steps steps1 → IsWalkedTo M p all (number + 1) new bs1 steps1
      one_more new bs1 steps1 made = record {
        taken = w.taken ++ l ∷ [];
        left = rest.0;
        split = cut;
        count = omega (arith, w.count, length-append w.taken (l ∷ []));
        program = s.made.step.program ∙ w.program;
        steps_made = omega (arith, s.made.step.steps, w.steps_made, length-append w.taken (l ∷ []));
        leads = run_new;
        each = λ b i. by b (either_among b bs s.made.more (subst (λ zs. IsAmong b zs) s.made.brought i));
        noted = λ v y at_y k e at_e. let x = there_too new.table.variables c.table.variables v y s.made.noted.count at_y in logged v x.0 y x.1 at_y k e at_e;
        told = subst (λ zs. AreSteps new.table.tasks (w.taken ++ l ∷ []) zs) (sym s.one_more) (steps_more c.table.tasks new.table.tasks w.taken l steps s.told s.made.step.indices w.told s.at);
      }
        where
          s : IsToldStep M c l new number bs bs1 steps steps1
          s = subst (λ q. IsToldStep (machine q) c l new number bs bs1 steps steps1) w.program made

          run_new : IsRunTo M new (w.taken ++ l ∷ [])
          run_new = s.made.step.leads w.taken w.leads

          by : (b : Bringer E) → IsAmong b bs ⊎ IsAmong b s.made.more → IsBringer M (w.taken ++ l ∷ []) b
          by b (inl i) = stays M named puts w.taken l b (w.each b i)
          by b (inr i) =
              let x = s.made.noted.there b i in
              let y = there_too c.table.variables new.table.variables b.variable x.0 (sym s.made.noted.count) x.1 in
              let behind = (s.made.noted.each b i).1 x.0 y.0 x.1 y.1 in
              by_last M named puts c new w.taken l w.leads run_new x.0 y.0 (brought M (state M c) l b.variable) b x.1 y.1 (s.made.step.logs b.variable x.0 y.0 x.1 y.1) behind.0 behind.1 behind.2 ((s.made.noted.each b i).0 ∙ sym w.count)

          logged : (v : ℕ) (x y : Variable S E) → slice_get c.table.variables v ≡ Some x → slice_get new.table.variables v ≡ Some y → (k : ℕ) (e : Entry E) → slice_get y.log k ≡ Some e → (b : Bringer E) × IsAmong b bs1 × (b.variable ≡ v) × (b.event ≡ e.event)
          logged v x y at_x at_y k e at_e = elim (cases_lt k (length x.log)) [
            | inl less ↦
                let old = w.noted v x at_x k e (sym (stays_at x.log (brought M (state M c) l v) k less) ∙ sym (ap (λ zs. slice_get zs k) (s.made.step.logs v x y at_x at_y)) ∙ at_e) in
                (old.0, subst (λ zs. IsAmong old.0 zs) (sym s.made.brought) (among_first old.0 bs s.made.more old.1), old.2, old.3)
            | inr more ↦
                let new = s.made.noted.all v x y at_x at_y k e (omega (arith, more)) at_e in
                (new.0, subst (λ zs. IsAmong new.0 zs) (sym s.made.brought) (among_last new.0 bs s.made.more new.1), new.2, new.3)
          ]

      no_run : CantGo (machine c.program) c l → IsCoreRun M all → ⊥
      no_run stuck run = by (subst (λ q. CantGo (machine q) c l) w.program stuck)
        where
          -- the run goes on with the label
          on : IsRun M (picture M c) (l ∷ rest.0) run.last
          on = run_split M w.taken (l ∷ rest.0) (Running (start M)) (picture M c) run.last w.leads.reached
              (subst (λ xs. IsRun M (Running (start M)) xs run.last) (cut ∙ append_assoc w.taken (l ∷ []) rest.0) run.run)

          can : (d : Configuration S E L) → IsRun M d (l ∷ rest.0) run.last → CanStep M d l
          can (Running b) go = go.0
          can (Error kind v t) go = absurd go

          -- and hands the oldest event first
          oldest : HandsOldestFirst M (w.taken ++ l ∷ [])
          oldest q s h e is = run.core q (s ++ rest.0) h e (cut ∙ ap (λ xs. xs ++ rest.0) is ∙ append_assoc q _ rest.0)

          by : CantGo M c l → ⊥
          by (inl cannot) = cannot ((takes c w.taken w.leads l).1 (can (picture M c) on, oldest))
          by (inr full) =
              let short : number < length all = slice_get_within all number l at in
              omega (arith, short, run.within, full, w.steps_made, w.count)

      -- the walk, and one step more
      pub goes : (new : CoreView P S E L) (bs1 : List (Bringer E)) (steps1 : List ToldStep) (b : Bool) → b ≡ true → TellsOrStops (machine c.program) c l new number bs bs1 steps steps1 b → IsWalkedTo M p all (number + 1) new bs1 steps1
      goes new bs1 steps1 true is made = one_more new bs1 steps1 made
      goes new bs1 steps1 false is made = absurd (false≢true is)

      -- or the labels are no run
      pub stops : (new : CoreView P S E L) (bs1 : List (Bringer E)) (steps1 : List ToldStep) (b : Bool) → b ≡ false → TellsOrStops (machine c.program) c l new number bs bs1 steps steps1 b → IsCoreRun M all → ⊥
      stops new bs1 steps1 false is stuck = no_run stuck
      stops new bs1 steps1 true is stuck = absurd (false≢true (sym is))

    -- where no label is left, the whole run is told
    pub over : length all ≤ number → IsTold M p all c bs steps
    over le =
        let none : w.left ≡ [] = none_left w.taken w.left (omega (arith, le, w.count, ap length w.split)) in
        let same : w.taken ≡ all = sym (w.split ∙ ap (λ xs. w.taken ++ xs) none ∙ append-nil w.taken) in
        subst (λ xs. IsTold M p xs c bs steps) same (record { program = w.program; leads = w.leads; brought = whole M named puts c w.taken bs w.leads w.each w.noted; told = w.told })
