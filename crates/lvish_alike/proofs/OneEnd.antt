-- Where the tasks of a script freeze one variable at most, or no task but main freezes, all its ends are one.
use Rattle.std.proofs.Common.{◌≡◌, ◌⊎◌, inl, inr, ℕ, ℤ, List, [], ◌∷◌, Option, Some, None, Bool, refl, sym, subst}
use Rattle.std.specs.List.{slice_get, filter_map, cons_option}
use Rattle.std.specs.declared.cmp.Ordering.{Ordering}
use Rattle.lvish_names.specs.Names.{Name, main, forked, handed}
use Rattle.lvish_calculus.specs.declared.request.Request.TheVariants as ask
use Rattle.lvish_calculus.specs.Machine.{IsLawful}
use Rattle.lvish_calculus.specs.Program.{machine_of}
use Rattle.lvish_calculus.specs.declared.label.Label.{Label}
use Rattle.lvish_calculus.specs.Calculus.{State, Running, start}
use Rattle.lvish_calculus.specs.Laws.{Reaches, IsCrossed, FreezesAllBy}
use Rattle.lvish_calculus.specs.Handing.{IsAmong}
use Rattle.lvish_calculus.specs.SameRuns.{HaveSameRuns}
use Rattle.lvish_calculus.proofs.SameThere.{Base, over}
use Rattle.lvish_calculus.proofs.Runs.{same_end_uncrossed, same_labels_uncrossed, same_end_one_asks, same_labels_one_asks}
use Rattle.lvish_code.specs.declared.instruction.Action.TheVariants as action
use Rattle.lvish_code.specs.declared.instruction.Instruction.TheVariants as instruction
use Rattle.lvish_task.specs.Vocabulary.{Any, AnyRead, Event, Request, Instruction, Script}
use Rattle.lvish_task.specs.declared.script_code.ScriptCode.{ScriptCode}
use Rattle.lvish_task.specs.declared.stack.Stack.{Stack}
use Rattle.lvish_task.specs.CodeOf.{IsScriptCodeOf}
use Rattle.lvish_task.specs.Meaning.{script_functions}
use Rattle.lvish_task.specs.Run.{functions, instructions_in, started}
use Rattle.lvish_alike.specs.Reaching.{Leads, at_once, further, Outline, CanRun, OtherCanRun, FreezesOne, MainFreezes, HasOneOrder}
use Rattle.lvish_alike.specs.OneEnd.{HasOneEnd}
use Rattle.lvish_alike.specs.Alike.{outline}
use Rattle.lvish_alike.specs.Sought.{instruction_names, instruction_starts, instruction_calls, instruction_freezes, given_by, IsAt, code_outline}
use Rattle.lvish_alike.proofs.Lines.{same_outline}
use Rattle.lvish_alike.proofs.Tasks.{given_at, StackIn, RequestIn, started_in, asked_in, resumed_in}
use Rattle.lvish_alike.proofs.Walking.{IsKept, all_by_main, freeze_asked, IsAsked}
use Rattle.lvish_alike.proofs.SameStates.{IsOneEnd, one_end_there}

pub leads_on : (names : ℕ → List ℕ) (a b k : ℕ) → Leads names a b → Leads names b k → Leads names a k
leads_on names a b k first at_once = first
leads_on names a b k first (further more among) = further (leads_on names a b _ first more) among

-- what an instruction starts it names
starts_named : (i : Instruction) (k : ℕ) → instruction_starts i ≡ Some k → instruction_names i ≡ Some k
starts_named (instruction.Ask (action.Fork k os)) j e = e
starts_named (instruction.Ask (action.Handle p k)) j e = e
starts_named i j e = absurd (cc e)

-- of a list, what f gives is among what g gives, where f gives no more than g
pub all_given : (f g : Instruction → Option ℕ) → ((i : Instruction) (k : ℕ) → f i ≡ Some k → g i ≡ Some k) → (is : List Instruction) (k : ℕ) → IsAmong k (filter_map f is) → IsAmong k (filter_map g is)
all_given f g less [] k h = h
all_given f g less (i ∷ is) k h = by (all_given f g less is k) (f i) refl h
  where
    behind : (o : Option ℕ) → IsAmong k (filter_map g is) → IsAmong k (cons_option o (filter_map g is))
    behind None z = z
    behind (Some j) z = inr z

    by : (IsAmong k (filter_map f is) → IsAmong k (filter_map g is)) → (o : Option ℕ) → f i ≡ o → IsAmong k (cons_option o (filter_map f is)) → IsAmong k (filter_map g (i ∷ is))
    by rest None e z = behind (g i) (rest z)
    by rest (Some j) e (inl z) = subst (λ o. IsAmong k (cons_option o (filter_map g is))) (sym (less i j e)) (inl z)
    by rest (Some j) e (inr z) = behind (g i) (rest z)

-- and what it has run by the same task
pub calls_named : (i : Instruction) (k : ℕ) → instruction_calls i ≡ Some k → instruction_names i ≡ Some k
calls_named (instruction.Ask (action.Freeze x v ps each)) k e = e
calls_named (instruction.Call j os) k e = e
calls_named i k e = absurd (cc e)

module _ (c : ScriptCode) where
  abbrev o : Outline
  o = code_outline c.flat

  -- what another task can run, a task can
  pub other_can : (k : ℕ) → OtherCanRun o k → CanRun o k
  other_can k (i, j, can, among, leads) = leads_on o.names o.main j k (further can (all_given instruction_starts instruction_names starts_named (instructions_in (slice_get c.flat.routines i)) j among)) leads

  -- the procedures of this task's frames
  abbrev Runs : Name Event → ℕ → Type 0
  Runs t k = ((t ≡ main) × CanRun o k) ⊎ OtherCanRun o k

  runs_can : (t : Name Event) (k : ℕ) → Runs t k → CanRun o k
  runs_can t k (inl z) = z.1
  runs_can t k (inr z) = other_can k z

  runs_on : (t : Name Event) (j k : ℕ) → Runs t j → IsAmong k (given_by instruction_calls c.flat.routines j) → Runs t k
  runs_on t j k r a = by r (all_given instruction_calls instruction_names calls_named (instructions_in (slice_get c.flat.routines j)) k a)
    where
      by : Runs t j → IsAmong k (o.names j) → Runs t k
      by (inl z) a = inl (z.0, further z.1 a)
      by (inr (i, s, can, among, leads)) a = inr (i, s, can, among, further leads a)

  abbrev In : Name Event → Stack → Type 0
  In t l = StackIn c.flat (Runs t) (runs_on t) l

  started_by : (t : Name Event) (j k : ℕ) → Runs t j → IsAmong k (o.starts j) → OtherCanRun o k
  started_by t j k r a = (j, k, runs_can t j r, a, at_once)

  -- a request for a task, a handler or a freeze stands in such a procedure
  abbrev Listed : Name Event → Request Any AnyRead Stack → Type 0
  Listed t (ask.Fork m) = (j : ℕ) × (k : ℕ) × Runs t j × IsAmong k (o.starts j) × ((xs : List ℤ) × (m ≡ started c.flat k xs))
  Listed t (ask.Add p k) = (j : ℕ) × Runs t j × IsAmong k (o.starts j)
  Listed t (ask.Freeze v ps) = (j : ℕ) × Runs t j × IsAmong v (o.freezes j)
  Listed t r = Unit {0}

  given : (f : Instruction → Option ℕ) (j place : ℕ) (i : Instruction) (k : ℕ) → IsAt c.flat.routines j place i → f i ≡ Some k → IsAmong k (given_by f c.flat.routines j)
  given f j place i k e h = given_at f (instructions_in (slice_get c.flat.routines j)) place i k e h

  listed : (t : Name Event) (r : Request Any AnyRead Stack) → RequestIn c.flat (Runs t) (runs_on t) r → Listed t r
  listed t (ask.Fork m) (j, place, k, os, r, e, xs) = (j, k, r, given instruction_starts j place _ k e refl, xs)
  listed t (ask.Add p k) (j, place, r, e) = (j, r, given instruction_starts j place _ k e refl)
  listed t (ask.Freeze v ps) (j, place, x, each, r, e) = (j, r, given instruction_freezes j place _ v e refl)
  listed t r h = tt

  asks_in : (t : Name Event) (l : Stack) → In t l → Listed t ((functions c).request l)
  asks_in t l i = listed t _ (asked_in c.flat (Runs t) (runs_on t) l i).request

  module _ (B : Base Any Event AnyRead ℤ) (ok : IsLawful (over B (functions c))) where
    keeps : IsKept (over B (functions c)) In (OtherCanRun o)
    keeps = record {
      start = started_in c.flat (Runs main) (runs_on main) c.flat.main [] (inl (refl, at_once));
      goes_on = λ t l r i. resumed_in c.flat (Runs t) (runs_on t) ((functions c).at l) (asked_in c.flat (Runs t) (runs_on t) l i).at r;
      forks = λ t n l m i e.
          let z = subst (Listed t) e (asks_in t l i) in
          subst (In (forked t n)) (sym z.4.1) (started_in c.flat (Runs (forked t n)) (runs_on (forked t n)) z.1 z.4.0 (inr (started_by t z.0 z.1 z.2 z.3)));
      adds = λ t l pool procedure i e. let z = subst (Listed t) e (asks_in t l i) in started_by t z.0 procedure z.1 z.2;
      hands = λ t n procedure e b. started_in c.flat (Runs (handed t n e)) (runs_on (handed t n e)) procedure (e.key ∷ e.number ∷ []) (inr b);
    }

    -- what a run freezes stands in a line that a task can run
    frozen_line : (v : ℕ) → IsAsked (over B (functions c)) ok In (OtherCanRun o) keeps v → (j : ℕ) × CanRun o j × IsAmong v (o.freezes j)
    frozen_line v z = let y = subst (Listed z.task) z.asked (asks_in z.task z.local z.can) in (y.0, runs_can z.task y.0 y.1, y.2)

    uncrossed : FreezesOne o → (xs ys : List (Label Event)) (a b : State Any Event Stack) → Reaches (over B (functions c)) xs a → Reaches (over B (functions c)) ys b → IsCrossed (over B (functions c)) xs ys → ⊥
    uncrossed one xs ys a b ra rb (v, w, ne, p, q) =
        let x = frozen_line v (freeze_asked (over B (functions c)) ok In (OtherCanRun o) keeps xs a v w ra p) in
        let y = frozen_line w (freeze_asked (over B (functions c)) ok In (OtherCanRun o) keeps ys b w v rb q) in
        ne (one x.0 y.0 v w x.1 y.1 x.2 y.2)

    by_main : MainFreezes o → (t : Name Event) (l : Stack) (v : ℕ) (pools : List ℕ) → In t l → (functions c).request l ≡ ask.Freeze v pools → t ≡ main
    by_main alone t l v pools i e = let z = subst (Listed t) e (asks_in t l i) in who z.0 z.1 z.2
      where
        who : (j : ℕ) → Runs t j → IsAmong v (o.freezes j) → t ≡ main
        who j (inl r) a = r.0
        who j (inr r) a = absurd (alone j v r a)

    code_one_end : HasOneOrder o → IsOneEnd (over B (functions c))
    code_one_end (inl one) xs ys a b ra rb enda endb =
        let un = uncrossed one xs ys a b ra rb in
        let e = same_end_uncrossed (over B (functions c)) ok xs ys a b ra rb enda endb un in
        (e.0, e.1, same_labels_uncrossed (over B (functions c)) ok xs ys a b ra rb enda endb un)
    code_one_end (inr alone) xs ys a b ra rb enda endb =
        let by : (t : Name Event) × FreezesAllBy (over B (functions c)) t (Running (start (over B (functions c)))) xs × FreezesAllBy (over B (functions c)) t (Running (start (over B (functions c)))) ys =
        (main, all_by_main (over B (functions c)) ok In (OtherCanRun o) keeps (by_main alone) xs a ra, all_by_main (over B (functions c)) ok In (OtherCanRun o) keeps (by_main alone) ys b rb) in
        let e = same_end_one_asks (over B (functions c)) ok xs ys a b ra rb enda endb by in
        (e.0, e.1, same_labels_one_asks (over B (functions c)) ok xs ys a b ra rb enda endb by)

module _ (same : Any → Any → Bool) (event_same : Event → Event → Bool) (cmp : Event → Event → Ordering) (bottom : Any) (join : Any → Any → Option Any) (events : Any → List Event) (answer : AnyRead → Any → Option ℤ) (s : Script) (c : ScriptCode) where
  abbrev base : Base Any Event AnyRead ℤ
  base = record { same = same; event_same = event_same; cmp = cmp; bottom = bottom; join = join; events = events; answer = answer }

  pub script_one_end : IsLawful (machine_of same event_same cmp bottom join events answer (functions c)) → HaveSameRuns (machine_of same event_same cmp bottom join events answer (functions c)) (machine_of same event_same cmp bottom join events answer (script_functions s))
      → IsScriptCodeOf s c → HasOneOrder (outline s) → HasOneEnd (machine_of same event_same cmp bottom join events answer (script_functions s))
  script_one_end ok runs is order = one_end_there base (functions c) (script_functions s) runs (code_one_end c base ok (subst HasOneOrder (same_outline s c is) order))
