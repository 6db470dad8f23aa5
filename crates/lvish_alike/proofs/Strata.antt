-- Where all that could write to a frozen variable have ended, no put and no handler comes too late.
use Rattle.std.proofs.Common.{◌≡◌, inl, inr, ◌&&◌, not, ℕ, zero, suc, Bool, true, false, List, Option, Some, None, [], ◌∷◌, ◌++◌, if◌then◌else◌, refl, sym, ◌∙◌, ap, subst, arith, Contains}
use Rattle.std.proofs.lemmas.Bool.{cases_Bool, and_parts, both_ways, false≢true}
use Rattle.lvish_names.specs.Names.{Name, Handler, main, forked, handed, is_deep}
use Rattle.lvish_calculus.specs.declared.label.Label.{Label}
use Rattle.lvish_calculus.specs.declared.label.Label.TheVariants.{Act, Hand}
use Rattle.lvish_calculus.specs.declared.request.ErrorKind.{ErrorKind}
use Rattle.lvish_calculus.specs.declared.request.ErrorKind.TheVariants.{Frozen, Late, Conflict, Deep}
use Rattle.lvish_calculus.specs.declared.request.Request.{Request}
use Rattle.lvish_calculus.specs.declared.request.Request.TheVariants.{Put, Get, Fork, Add, Freeze, Pause, End, Fault}
use Rattle.lvish_calculus.specs.Machine.{Machine, IsLawful, IsBelow}
use Rattle.lvish_calculus.specs.Calculus.{Task, Absent, Live, Ended, Post, State, Configuration, Running, Error, Change, changed, Effect, Changes, Fails, Nothing, IsIn, IsLive, is_live, IsQuiescent, IsToHand, Freezes, effect, task_effect, request_effect, put_effect, get_effect, add_effect, hand_effect, after, start, step, IsRun, IsEnabled}
use Rattle.lvish_calculus.specs.Laws.{Reaches}
use Rattle.lvish_calculus.specs.Growth.{IsStepOfRuns, HasGrown}
use Rattle.lvish_calculus.proofs.Steps.{Makes, puts, gets, forks, adds, freezes, pauses, ends, hands}
use Rattle.lvish_calculus.proofs.Sound.{IsSound, some_is, own_is, maker, maker_is}
use Rattle.lvish_calculus.proofs.Keeps.{tasks_after, handlers_after}
use Rattle.lvish_calculus.proofs.Moves.{ready_from, frozen_by}
use Rattle.lvish_calculus.proofs.Runs.{made_by, reached}
use Rattle.lvish_calculus.proofs.Growth.{kept, runs_grow}
use Rattle.lvish_calculus.proofs.SameThere.{run_join}
use Rattle.lvish_alike.specs.Strata.{Writes, IsStratified}
use Rattle.lvish_alike.specs.TooLate.{NeverTooLate}
use Rattle.lvish_alike.proofs.TooLate.{IsTooLate, fails_kind, opening, freeze_change}

only_one : (q x : ℕ) → Contains (q ∷ []) x → x ≡ q
only_one q x (zero, lt, is) = sym is
only_one q x (suc i, lt, is) = absurd (omega (arith, lt))

-- what a live task is
live_of : {L : Type 0} (k : Task L) → IsLive k → (l : L) × (f : ℕ) × (a : ℕ) × (p : ℕ) × (k ≡ Live l f a p)
live_of (Live l f a p) is = (l, f, a, p, refl)
live_of Absent is = absurd (elim is [ ])
live_of Ended is = absurd (elim is [ ])

alive : {L : Type 0} (k : Task L) (l : L) (f a p : ℕ) → k ≡ Live l f a p → IsLive k
alive k l f a p is = subst (λ x. IsLive x) (sym is) is_live

module _ {S E R A L : Type 0} (M : Machine S E R A L) (ok : IsLawful M) where
  -- nothing can come any more of a pool of a frozen variable: its tasks have ended, and its handlers were handed all events
  record IsClosedPool (c : State S E L) (w q : ℕ) : Type 0 where
    of : M.pool_variable q ≡ Some w
    ended : (t : Name E) → IsIn c t (q ∷ []) → IsLive (c.tasks t) → ⊥
    drained : (h : Handler E) (post : Post) (e : E) → c.handlers h ≡ Some post → post.pool ≡ q → IsBelow M e (c.content w) → c.handed h e ≡ true

  module _ (c : State S E L) (l : Label E) (ch : Change S E L) (m : Makes M c l ch) (en : IsEnabled M c l) (s : IsSound c) where
    -- a handler of a frozen variable was there before the step
    handler_before : (w : ℕ) → c.frozen w ≡ true → (h : Handler E) (post : Post) → (changed M ch c).handlers h ≡ Some post → M.pool_variable post.pool ≡ Some w → c.handlers h ≡ Some post
    handler_before w frozen h post is of = elim (handlers_after M ok c l ch m en s h) [
      | inr same ↦ sym same ∙ is
      | inl new ↦ absurd (late l ch m new.0 new.1 (some_is (sym new.2 ∙ is)))
    ]
      where
        late : (j : Label E) (x : Change S E L) → Makes M c j x → (k : Post) → x.added ≡ Some (h, k) → k ≡ post → ⊥
        late j x (adds t o f a p pool procedure v is q b wv z) k e same =
            let at : pool ≡ post.pool = ap (λ (y : Handler E × Post). y.1.pool) (some_is e) ∙ ap (λ (y : Post). y.pool) same in
            let v_is : v ≡ w = some_is (sym wv ∙ ap M.pool_variable at ∙ of) in
            both_ways _ (subst (λ y. c.frozen y ≡ false) v_is z) frozen
        late j x (puts t o f a p v d s is q top same) k e same2 = cc e
        late j x (gets t o f a p v r y is q some) k e same = cc e
        late j x (forks t o f a p y is q b) k e same = cc e
        late j x (freezes t o f a p v pools is q) k e same = cc e
        late j x (pauses t o f a p is q) k e same = cc e
        late j x (ends t o f a p is q) k e same = cc e
        late j x (hands h y post is) k e same = cc e

    closed_stays : (w q : ℕ) → c.frozen w ≡ true → HasGrown M c (changed M ch c) → IsClosedPool c w q → IsClosedPool (changed M ch c) w q
    closed_stays w q frozen grown closed = record { of = closed.of; ended = ended; drained = drained }
      where
        pool_of_w : (p : ℕ) → p ≡ q → M.pool_variable p ≡ Some w
        pool_of_w p e = ap M.pool_variable e ∙ closed.of

        drained : (h : Handler E) (post : Post) (e : E) → (changed M ch c).handlers h ≡ Some post → post.pool ≡ q → IsBelow M e ((changed M ch c).content w) → (changed M ch c).handed h e ≡ true
        drained h post e is at below = grown.handed h e
            (closed.drained h post e (handler_before w frozen h post is (pool_of_w post.pool at)) at (subst (λ x. IsBelow M e x) (grown.frozen w frozen).1 below))

        in_before : (t : Name E) → IsIn (changed M ch c) t (q ∷ []) → IsIn c t (q ∷ [])
        in_before t i = record { handler = i.handler; of = i.of; post = i.post; is = handler_before w frozen i.handler i.post i.is (pool_of_w i.post.pool (only_one q i.post.pool i.listed)); listed = i.listed }

        -- a task that the step makes is in the pool of its maker, or handles an event that wasn't handed yet
        none_made : (t : Name E) (k : Task L) → ch.made ≡ Some (t, k) → IsIn c t (q ∷ []) → ⊥
        none_made t k made i = by t (maker_is M ok c l ch m t k made) i made
          where
            forked_by : (u : Name E) (n : ℕ) (b : Label E) (x : Change S E L) → Makes M c b x → b ≡ Act u → IsIn c (forked u n) (q ∷ []) → x.made ≡ Some (forked u n, k) → ⊥
            forked_by u n b x (forks z o f a p y is asked shallow) e j made =
                closed.ended u (record { handler = j.handler; of = j.of; post = j.post; is = j.is; listed = j.listed })
                (alive _ o f a p (let zu : z ≡ u = cc e in subst (λ y. c.tasks y ≡ Live o f a p) zu is))
            forked_by u n b x (hands h y post is) e j made = cc e
            forked_by u n b x (puts z o f a p v d s is asked top same) e j made = cc made
            forked_by u n b x (gets z o f a p v r y is asked some) e j made = cc made
            forked_by u n b x (adds z o f a p pool procedure v is asked shallow wv y) e j made = cc made
            forked_by u n b x (freezes z o f a p v pools is asked) e j made = cc made
            forked_by u n b x (pauses z o f a p is asked) e j made = cc made
            forked_by u n b x (ends z o f a p is asked) e j made = cc made

            by : (u : Name E) → maker u ≡ Some l → IsIn c u (q ∷ []) → ch.made ≡ Some (u, k) → ⊥
            by main e j new = cc e
            by (forked u n) e j new = forked_by u n l ch m (sym (some_is e)) j new
            by (handed u n x) e j new =
                let hand : IsToHand M c (record { adder = u; number = n }) x = subst (λ z. IsEnabled M c z) (sym (some_is e)) en in
                let h_is : record { adder = u; number = n } ≡ j.handler = some_is j.of in
                let post_is : hand.on.post ≡ j.post = some_is (sym hand.on.is ∙ ap c.handlers h_is ∙ j.is) in
                let at : hand.on.post.pool ≡ q = ap (λ (z : Post). z.pool) post_is ∙ only_one q j.post.pool j.listed in
                let v_is : hand.variable ≡ w = some_is (sym hand.on.of ∙ pool_of_w hand.on.post.pool at) in
                both_ways _ hand.not_handed (closed.drained (record { adder = u; number = n }) hand.on.post x hand.on.is at (subst (λ z. IsBelow M x (c.content z)) v_is hand.below))

        ended : (t : Name E) → IsIn (changed M ch c) t (q ∷ []) → IsLive ((changed M ch c).tasks t) → ⊥
        ended t i is = elim (tasks_after M ok c l ch m en s t) [
          | inl own ↦ let g = own_is M ok c l ch m t own.0 own.1 in closed.ended t (in_before t i) (alive _ g.local g.forks g.adds g.puts g.was)
          | inr (inl made) ↦ none_made t made.0 made.1 (in_before t i)
          | inr (inr same) ↦ closed.ended t (in_before t i) (subst (λ k. IsLive k) same is)
        ]

    -- a freeze closes the pools that it waits for
    closed_at : (v : ℕ) (fr : Freezes M c l v) (q : ℕ) → Contains fr.pools q → HasGrown M c (changed M ch c) → IsClosedPool (changed M ch c) v q
    closed_at v fr q listed grown = record { of = of_v; ended = ended; drained = drained }
      where
        quiet : IsQuiescent M c v fr.pools
        quiet = ready_from M ok c fr.task fr.local fr.forks fr.adds fr.puts (Freeze v fr.pools) fr.is fr.asked (subst (λ z. IsEnabled M c z) fr.label en)

        of_v : M.pool_variable q ≡ Some v
        of_v = ok.freeze_own fr.local v fr.pools fr.asked q listed

        in_them : (t : Name E) → IsIn c t (q ∷ []) → IsIn c t fr.pools
        in_them t i = record { handler = i.handler; of = i.of; post = i.post; is = i.is; listed = subst (λ z. Contains fr.pools z) (sym (only_one q i.post.pool i.listed)) listed }

        is : ch ≡ opening M ok fr.task fr.local fr.forks fr.adds fr.puts v (c.content v)
        is = freeze_change M ok c l ch m v fr

        before : (t : Name E) → IsIn (changed M ch c) t (q ∷ []) → IsIn c t (q ∷ [])
        before t i = record { handler = i.handler; of = i.of; post = i.post; is = sym (ap (λ (x : Change S E L). (changed M x c).handlers i.handler) is) ∙ i.is; listed = i.listed }

        none_live : (t : Name E) → IsIn c t (q ∷ []) → IsLive (c.tasks t) → ⊥
        none_live t i = quiet.ended t (in_them t i)

        ended : (t : Name E) → IsIn (changed M ch c) t (q ∷ []) → IsLive ((changed M ch c).tasks t) → ⊥
        ended t i live = elim (tasks_after M ok c l ch m en s t) [
          | inl own ↦ let g = own_is M ok c l ch m t own.0 own.1 in none_live t (before t i) (alive _ g.local g.forks g.adds g.puts g.was)
          | inr (inl made) ↦ absurd (cc (sym (ap (λ (x : Change S E L). x.made) is) ∙ made.1))
          | inr (inr same) ↦ none_live t (before t i) (subst (λ k. IsLive k) same live)
        ]

        drained : (h : Handler E) (post : Post) (e : E) → (changed M ch c).handlers h ≡ Some post → post.pool ≡ q → IsBelow M e ((changed M ch c).content v) → (changed M ch c).handed h e ≡ true
        drained h post e at pool below =
            let there : c.handlers h ≡ Some post = sym (ap (λ (x : Change S E L). (changed M x c).handlers h) is) ∙ at in
            grown.handed h e (quiet.drained h e (record { post = post; is = there; of = ap M.pool_variable pool ∙ of_v })
            (subst (λ x. IsBelow M e x) (ap (λ (x : Change S E L). (changed M x c).content v) is) below))

  -- each pool that was waited for is closed
  abbrev AllClosed : (ℕ → List ℕ) → State S E L → Type 0
  AllClosed waited c = (w : ℕ) → c.frozen w ≡ true → (q : ℕ) → Contains (waited w) q → IsClosedPool c w q

  module _ (waited : ℕ → List ℕ) (strata : IsStratified M waited) where
    stays_closed : (c d : State S E L) → IsStepOfRuns M c d → AllClosed waited c → AllClosed waited d
    stays_closed c d (ls, l, run, en, leads) all w frozen q listed =
        let made = made_by M ok c d l en _ refl leads in
        let s = reached M ok ls c run in
        let grown : HasGrown M c (changed M made.change c) = subst (λ x. HasGrown M c x) made.is (runs_grow M ok ls (l ∷ []) c d run (en, leads)) in
        subst (λ x. IsClosedPool x w q) (sym made.is) (elim (cases_Bool (c.frozen w)) [
          | inl before ↦ closed_stays c l made.change made.makes en s w q before grown (all w before q listed)
          | inr unfrozen ↦
              let fr = frozen_by M ok c l made.change made.makes w unfrozen (subst (λ (x : State S E L). x.frozen w ≡ true) made.is frozen) in
              closed_at c l made.change made.makes en s w fr q (strata.waits ls c run fr.task fr.local fr.forks fr.adds fr.puts w fr.pools fr.is fr.asked q listed) grown
        ])

    all_closed : (xs : List (Label E)) (c : State S E L) → Reaches M xs c → AllClosed waited c
    all_closed xs c run = kept M (AllClosed waited) stays_closed (λ w frozen. absurd (false≢true frozen)) xs c run

    -- ---- the last step of a run

    -- some task asks to write to a frozen variable
    abbrev AsksTooLate : State S E L → Type 0
    AsksTooLate c = (t : Name E) × (l : L) × (f : ℕ) × (a : ℕ) × (p : ℕ) × (v : ℕ) × (c.tasks t ≡ Live l f a p) × Writes M (M.request l) v × (c.frozen v ≡ true)

    module _ (c : State S E L) (kind : ErrorKind) (w : Option ℕ) (u : Name E) (late : IsTooLate kind w) where
      -- no other error is one that came too late
      another : {X : Type 0} (k : ErrorKind) (v : Option ℕ) (t : Name E) (x : Effect S E L) → (k ≡ Frozen → ⊥) → (k ≡ Late → ⊥) → x ≡ Fails k v t → x ≡ Fails kind w u → X
      another k v t x a b is e = let same = fails_kind k kind v w t u x is e in absurd (elim late.2 [ inl z ↦ a (sym same.0 ∙ z) | inr z ↦ b (sym same.0 ∙ z) ])

      at_none : {X : Type 0} (k : ErrorKind) (t : Name E) (x : Effect S E L) → x ≡ Fails k None t → x ≡ Fails kind w u → X
      at_none k t x is e = let none : w ≡ None = (fails_kind k kind None w t u x is e).1 in absurd (cc (sym none ∙ late.1))

      module _ (t : Name E) (l : L) (f a p : ℕ) (is : c.tasks t ≡ Live l f a p) where
        put_late : (v : ℕ) (d : S) (k : Task L) → M.request l ≡ Put v d → (o : Option S) → put_effect M c t k v d o ≡ Fails kind w u → AsksTooLate c
        put_late v d k asked None e = another Conflict (Some v) t _ (λ z. cc z) (λ z. cc z) refl e
        put_late v d k asked (Some s) e = by (c.frozen v && not (M.same s (c.content v))) refl _ e
          where
            by : (b : Bool) → (c.frozen v && not (M.same s (c.content v))) ≡ b → (ch : Change S E L) → (if b then Fails Frozen (Some v) t else Changes ch) ≡ Fails kind w u → AsksTooLate c
            by true both ch z = (t, l, f, a, p, v, is, subst (λ q. Writes M q v) (sym asked) refl, (and_parts _ _ both).0)
            by false both ch z = absurd (cc z)

        add_late : (pool procedure : ℕ) (k : Task L) (h : Handler E) (post : Post) → M.request l ≡ Add pool procedure → (o : Option ℕ) → M.pool_variable pool ≡ o → add_effect c t k h post o ≡ Fails kind w u → AsksTooLate c
        add_late pool procedure k h post asked None of e = absurd (cc e)
        add_late pool procedure k h post asked (Some v) of e = by (c.frozen v) refl _ e
          where
            by : (b : Bool) → c.frozen v ≡ b → (ch : Change S E L) → (if b then Fails Late (Some v) t else Changes ch) ≡ Fails kind w u → AsksTooLate c
            by true frozen ch z = (t, l, f, a, p, v, is, subst (λ q. Writes M q v) (sym asked) of, frozen)
            by false frozen ch z = absurd (cc z)

        get_fails_not : (o : Option A) → get_effect M t (M.at l) f a p o ≡ Fails kind w u → ⊥
        get_fails_not None e = cc e
        get_fails_not (Some x) e = cc e

        request_late : (q : Request S R L) → M.request l ≡ q → request_effect M c t (M.at l) f a p q ≡ Fails kind w u → AsksTooLate c
        request_late (Put v d) asked e = put_late v d _ asked _ e
        request_late (Get v r) asked e = absurd (get_fails_not _ e)
        request_late (Fork k) asked e = by (is_deep t) _ e
          where
            by : (b : Bool) (ch : Change S E L) → (if b then Fails Deep None t else Changes ch) ≡ Fails kind w u → AsksTooLate c
            by true ch z = at_none Deep t _ refl z
            by false ch z = absurd (cc z)
        request_late (Add pool procedure) asked e = by (is_deep t) _ _ _ e
          where
            by : (b : Bool) (k : Task L) (h : Handler E) (post : Post) → (if b then Fails Deep None t else add_effect c t k h post (M.pool_variable pool)) ≡ Fails kind w u → AsksTooLate c
            by true k h post z = at_none Deep t _ refl z
            by false k h post z = add_late pool procedure k h post asked _ refl z
        request_late (Freeze v pools) asked e = absurd (cc e)
        request_late Pause asked e = absurd (cc e)
        request_late End asked e = absurd (cc e)
        request_late (Fault k) asked e = at_none k t _ refl e

      task_late : (t : Name E) (k : Task L) → c.tasks t ≡ k → task_effect M c t k ≡ Fails kind w u → AsksTooLate c
      task_late t (Live l f a p) is e = request_late t l f a p is (M.request l) refl e
      task_late t Absent is e = absurd (cc e)
      task_late t Ended is e = absurd (cc e)

      hand_fails_not : (h : Handler E) (e : E) (o : Option Post) → hand_effect M h e o ≡ Fails kind w u → ⊥
      hand_fails_not h e None z = cc z
      hand_fails_not h e (Some post) z = cc z

      label_late : (l : Label E) → effect M c l ≡ Fails kind w u → AsksTooLate c
      label_late (Act t) e = task_late t (c.tasks t) refl e
      label_late (Hand h x) e = absurd (hand_fails_not h x (c.handlers h) e)

    none_asks : (xs : List (Label E)) (c : State S E L) → Reaches M xs c → AsksTooLate c → ⊥
    none_asks xs c run (t, l, f, a, p, v, is, asks, frozen) =
        let over = strata.writers xs c run t l f a p v is asks frozen in
        (all_closed xs c run over.variable over.frozen over.pool over.listed).ended t over.in_pool (alive _ l f a p is)

    step_late : (ms : List (Label E)) (c : State S E L) (l : Label E) → Reaches M ms c → (kind : ErrorKind) (w : Option ℕ) (u : Name E) → IsTooLate kind w → (o : Effect S E L) → effect M c l ≡ o → after M c o ≡ Error kind w u → ⊥
    step_late ms c l run kind w u late (Changes ch) e z = cc z
    step_late ms c l run kind w u late (Fails k v t) e z =
        let kinds : k ≡ kind = cc z in
        let variables : v ≡ w = cc z in
        let names : t ≡ u = cc z in
        none_asks ms c run (label_late c kind w u late l (e ∙ (λ i. Fails (kinds i) (variables i) (names i))))
    step_late ms c l run kind w u late Nothing e z = cc z

    run_late : (ms xs : List (Label E)) (d : Configuration S E L) → IsRun M (Running (start M)) ms d → (kind : ErrorKind) (w : Option ℕ) (u : Name E) → IsTooLate kind w → (d ≡ Error kind w u → ⊥) → IsRun M d xs (Error kind w u) → ⊥
    run_late ms [] d there kind w u late not_yet run = not_yet run
    run_late ms (l ∷ xs) (Running c) there kind w u late not_yet run =
        run_late (ms ++ l ∷ []) xs (step M c l) (run_join M ms (l ∷ []) _ (Running c) _ there (run.0, refl)) kind w u late
        (λ e. step_late ms c l there kind w u late _ refl e) run.1
    run_late ms (l ∷ xs) (Error k v t) there kind w u late not_yet run = run

    pub never_too_late : NeverTooLate M
    never_too_late xs kind v t run = (
      λ e. run_late [] xs (Running (start M)) refl kind (Some v) t (v, refl, inl e) (λ z. cc z) run,
      λ e. run_late [] xs (Running (start M)) refl kind (Some v) t (v, refl, inr e) (λ z. cc z) run,
    )
