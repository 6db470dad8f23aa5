-- The contents at an end are closed, and what plays against them are the run's tasks.
use Rattle.std.proofs.Common.{◌≡◌, ◌⊎◌, inl, inr, ℕ, suc, Bool, true, false, List, [], ◌∷◌, ◌++◌, append_assoc, Some, None, IsSome, refl, sym, ◌∙◌, ap, subst, if◌then◌else◌}
use Rattle.std.proofs.lemmas.Bool.{cases_Bool, both_ways}
use Rattle.lvish_names.specs.Names.{Name, forked, handed, Handler}
use Rattle.lvish_calculus.specs.Machine.{Machine, IsLawful, IsBelow, Request, Put, Get, Fork, Add, Freeze, Pause, Fault, Answer, Content}
use Rattle.lvish_calculus.specs.Calculus.{Live, Post, State, Label, Act, Hand, Change, changed, start, with_join, IsToHand, IsReady, IsEnabled, IsEnd}
use Rattle.lvish_calculus.specs.Laws.{Reaches}
use Rattle.lvish_calculus.specs.LeastModel.{main_starts, after_put, after_get, after_fork, child_starts, after_add, handler_starts, after_freeze, after_pause, IsMet, PlaysAgainst, frozen_contents, LeavesNoFreeze, EndsAreClosed, WasThere}
use Rattle.lvish_calculus.proofs.Steps.{Makes, puts}
use Rattle.lvish_calculus.proofs.Order.{IsLe, le_join, le_trans, with_join-same}
use Rattle.lvish_calculus.proofs.Sound.{IsSound, some_is}
use Rattle.lvish_calculus.proofs.Keeps.{sound_after, sound_start}
use Rattle.lvish_calculus.proofs.Moves.{ready_at, task_stays, not_handed_stays}
use Rattle.lvish_calculus.proofs.Doomed.{cases_label}
use Rattle.lvish_calculus.proofs.Ends.{Way, here, goes}
use Rattle.lvish_calculus.proofs.CoreRuns.{run_way, way_run}
use Rattle.lvish_calculus.proofs.Made.{handlers_way, le_way, frozen_way, own_now, made_now, added_now, put_made, get_made, fork_made, add_made, freeze_made, pause_made, no_fault, hand_made, way_append}

module _ {S E R A L : Type 0} (M : Machine S E R A L) (ok : IsLawful M) where
  module _ (xs : List (Label E)) where
    -- a state of the run xs, and what is left of it
    record Before (d : State S E L) (ls : List (Label E)) : Type 0 where
      front : List (Label E)
      cut : xs ≡ front ++ ls
      way : Way M (start M) front d

    at_start : Before (start M) xs
    at_start = record { front = []; cut = refl; way = here }

    before_step : (d : State S E L) (m : Label E) (ls : List (Label E)) (ch : Change S E L) → Makes M d m ch → IsEnabled M d m → Before d (m ∷ ls) → Before (changed M ch d) ls
    before_step d m ls ch mm en b = record {
      front = b.front ++ m ∷ [];
      cut = b.cut ∙ sym (append_assoc b.front (m ∷ []) ls);
      way = way_append M ok (start M) d (changed M ch d) b.front (m ∷ []) b.way (goes ch mm en here);
    }

    -- on a way to c, the task t makes its step from this local state
    record Stepped (c : State S E L) (t : Name E) (l : L) (f a p : ℕ) : Type 0 where
      from : State S E L
      change : Change S E L
      rest : List (Label E)
      before : Before from (Act t ∷ rest)
      sound : IsSound from
      makes : Makes M from (Act t) change
      enabled : IsEnabled M from (Act t)
      is : from.tasks t ≡ Live l f a p
      way : Way M (changed M change from) rest c

    stepped : (d c : State S E L) (ls : List (Label E)) → Before d ls → IsSound d → Way M d ls c → (t : Name E) (l : L) (f a p : ℕ) → d.tasks t ≡ Live l f a p → Stepped c t l f a p ⊎ (c.tasks t ≡ Live l f a p)
    stepped d c ls b s here t l f a p is = inr is
    stepped d c (m ∷ ls) b s (goes ch mm en w) t l f a p is = elim (cases_label M ok m (Act t)) [
      | inl e ↦ inl (record { from = d; change = ch; rest = ls; before = subst (λ x. Before d (x ∷ ls)) e b; sound = s; makes = subst (λ x. Makes M d x ch) e mm; enabled = subst (λ x. IsEnabled M d x) e en; is = is; way = w })
      | inr ne ↦ stepped (changed M ch d) c ls (before_step d m ls ch mm en b) (sound_after M ok d m ch mm en s) w t l f a p (task_stays M ok d m ch mm en s t l f a p is ne)
    ]

    -- on a way to c, the event is handed to the handler
    record HandedThere (c : State S E L) (h : Handler E) (e : E) : Type 0 where
      from : State S E L
      change : Change S E L
      rest : List (Label E)
      before : Before from (Hand h e ∷ rest)
      sound : IsSound from
      makes : Makes M from (Hand h e) change
      enabled : IsEnabled M from (Hand h e)
      way : Way M (changed M change from) rest c

    handed_there : (d c : State S E L) (ls : List (Label E)) → Before d ls → IsSound d → Way M d ls c → (h : Handler E) (e : E) → d.handed h e ≡ false → c.handed h e ≡ true → HandedThere c h e
    handed_there d c ls b s here h e z y = absurd (both_ways _ z y)
    handed_there d c (m ∷ ls) b s (goes ch mm en w) h e z y = elim (cases_label M ok m (Hand h e)) [
      | inl q ↦ record { from = d; change = ch; rest = ls; before = subst (λ x. Before d (x ∷ ls)) q b; sound = s; makes = subst (λ x. Makes M d x ch) q mm; enabled = subst (λ x. IsEnabled M d x) q en; way = w }
      | inr ne ↦ handed_there (changed M ch d) c ls (before_step d m ls ch mm en b) (sound_after M ok d m ch mm en s) w h e (not_handed_stays M ok d m ch mm h e z ne) y
    ]

    -- on a way to c, the task of this name is at this local state
    record Was (c : State S E L) (t : Name E) (l : L) (f a : ℕ) : Type 0 where
      puts : ℕ
      there : State S E L
      rest : List (Label E)
      before : Before there rest
      sound : IsSound there
      is : there.tasks t ≡ Live l f a puts
      way : Way M there rest c

    goes_on : (c : State S E L) (t : Name E) (l : L) (f a p : ℕ) (s : Stepped c t l f a p) (k : L) (f1 a1 p1 : ℕ) → (s.change).own ≡ Some (t, Live k f1 a1 p1) → Was c t k f1 a1
    goes_on c t l f a p s k f1 a1 p1 e = record {
      puts = p1;
      there = changed M s.change s.from;
      rest = s.rest;
      before = before_step s.from (Act t) s.rest s.change s.makes s.enabled s.before;
      sound = sound_after M ok s.from (Act t) s.change s.makes s.enabled s.sound;
      is = own_now M ok s.from s.change t (Live k f1 a1 p1) e;
      way = s.way;
    }

    is_frozen : (c : State S E L) (v : ℕ) (s : S) → frozen_contents M c v ≡ Some s → (c.frozen v ≡ true) × (c.content v ≡ s)
    is_frozen c v s e = by _ refl e
      where
        by : (b : Bool) → c.frozen v ≡ b → (if b then Some (c.content v) else None) ≡ Some s → (c.frozen v ≡ true) × (c.content v ≡ s)
        by true z e = (z, some_is e)
        by false z e = absurd (cc e)

    module _ (c : State S E L) (run : Reaches M xs c) (end : IsEnd M c) (left : LeavesNoFreeze M c) where
      -- a task whose request is ready at the end made its step
      went : (t : Name E) (l : L) (f a : ℕ) (w : Was c t l f a) (r : Request S R L) → M.request l ≡ r → IsReady M c r → Stepped c t l f a w.puts
      went t l f a w r q ready = elim (stepped w.there c w.rest w.before w.sound w.way t l f a w.puts w.is) [
        | inl s ↦ s
        | inr z ↦ absurd (end (Act t) (ready_at M ok c t l f a w.puts r z q ready))
      ]

      froze : (t : Name E) (l : L) (f a : ℕ) (w : Was c t l f a) (v : ℕ) (pools : List ℕ) → M.request l ≡ Freeze v pools → c.frozen v ≡ true → Stepped c t l f a w.puts
      froze t l f a w v pools q frozen = elim (stepped w.there c w.rest w.before w.sound w.way t l f a w.puts w.is) [
        | inl s ↦ s
        | inr z ↦ absurd (both_ways _ (left t l f a w.puts v pools z q) frozen)
      ]

      handed_end : (h : Handler E) (post : Post) (v : ℕ) (e : E) → c.handlers h ≡ Some post → M.pool_variable post.pool ≡ Some v → IsBelow M e (c.content v) → c.handed h e ≡ true
      handed_end h post v e is of below = elim (cases_Bool (c.handed h e)) [
        | inl y ↦ y
        | inr y ↦ absurd (end (Hand h e) (record { variable = v; on = record { post = post; is = is; of = of }; below = below; not_handed = y }))
      ]

      -- a handler that is there at the end was handed each event below, whose task was there
      handed_was : (h : Handler E) (post : Post) (v : ℕ) (e : E) → c.handlers h ≡ Some post → M.pool_variable post.pool ≡ Some v → IsBelow M e (c.content v)
          → Was c (handed h.adder h.number e) (M.start_handler post.procedure e) 0 0
      handed_was h post v e is of below =
          let g = handed_there (start M) c xs at_start (sound_start M ok) (run_way M ok xs c run) h e refl (handed_end h post v e is of below) in
          let en : IsToHand M (g.from) h e = g.enabled in
          let same : en.on.post ≡ post = some_is (sym (handlers_way M ok g.from c (Hand h e ∷ g.rest) g.sound (goes g.change g.makes g.enabled g.way) h en.on.post en.on.is) ∙ is) in
          let made = hand_made M ok g.from h e g.change g.makes post (en.on.is ∙ ap Some same) in
          record {
            puts = 0;
            there = changed M g.change g.from;
            rest = g.rest;
            before = before_step g.from (Hand h e) g.rest g.change g.makes g.enabled g.before;
            sound = sound_after M ok g.from (Hand h e) g.change g.makes g.enabled g.sound;
            is = made_now M ok g.from (Hand h e) g.change g.makes g.enabled g.sound (handed h.adder h.number e) _ made;
            way = g.way;
          }

      -- each play was there in the run
      plays_were : {t : Name E} {l : L} {f a : ℕ} → PlaysAgainst M c.content (frozen_contents M c) t l f a → Was c t l f a
      plays_were main_starts = record { puts = 0; there = start M; rest = xs; before = at_start; sound = sound_start M ok; is = refl; way = run_way M ok xs c run }
      plays_were (after_put {t = t} {l = l} {f = f} {a = a} v d play q) =
          let w = plays_were play in
          let s = went t l f a w (Put v d) q tt in
          let g = put_made M ok s.from t l f a w.puts s.change s.makes s.is v d q in
          goes_on c t l f a w.puts s _ f a (suc w.puts) g.2
      plays_were (after_get {t = t} {l = l} {f = f} {a = a} v r z x play q seen e0) =
          let w = plays_were play in
          let e : M.answer r (c.content v) ≡ Some x = subst (λ y. M.answer r y ≡ Some x) seen e0 in
          let s = went t l f a w (Get v r) q (subst (λ o. IsSome o) (sym e) refl) in
          let g = get_made M ok s.from t l f a w.puts s.change s.makes s.is v r q in
          let le : IsLe M ok ((s.from).content v) (c.content v) = le_way M ok s.from c (Act t ∷ s.rest) s.sound (goes s.change s.makes s.enabled s.way) v in
          let same : g.0 ≡ x = some_is (sym (ok.answer_stays l v r q ((s.from).content v) (c.content v) g.0 le g.1) ∙ e) in
          subst (λ y. Was c t (M.resume (M.at l) (Answer y)) f a) same (goes_on c t l f a w.puts s _ f a w.puts g.2)
      plays_were (after_fork {t = t} {l = l} {f = f} {a = a} k play q) =
          let w = plays_were play in
          let s = went t l f a w (Fork k) q tt in
          let g = fork_made M ok s.from t l f a w.puts s.change s.makes s.is k q in
          goes_on c t l f a w.puts s _ (suc f) a w.puts g.1
      plays_were (child_starts {t = t} {l = l} {f = f} {a = a} k play q) =
          let w = plays_were play in
          let s = went t l f a w (Fork k) q tt in
          let g = fork_made M ok s.from t l f a w.puts s.change s.makes s.is k q in
          record {
            puts = 0;
            there = changed M s.change s.from;
            rest = s.rest;
            before = before_step s.from (Act t) s.rest s.change s.makes s.enabled s.before;
            sound = sound_after M ok s.from (Act t) s.change s.makes s.enabled s.sound;
            is = made_now M ok s.from (Act t) s.change s.makes s.enabled s.sound (forked t (suc f)) _ g.2;
            way = s.way;
          }
      plays_were (after_add {t = t} {l = l} {f = f} {a = a} pool procedure play q) =
          let w = plays_were play in
          let s = went t l f a w (Add pool procedure) q tt in
          let g = add_made M ok s.from t l f a w.puts s.change s.makes s.is pool procedure q in
          goes_on c t l f a w.puts s _ f (suc a) w.puts g.1
      plays_were (handler_starts {t = t} {l = l} {f = f} {a = a} pool procedure v z e play q of seen below0) =
          let w = plays_were play in
          let s = went t l f a w (Add pool procedure) q tt in
          let g = add_made M ok s.from t l f a w.puts s.change s.makes s.is pool procedure q in
          let h : Handler E = record { adder = t; number = suc a } in
          let post : Post = record { pool = pool; procedure = procedure } in
          let there : (changed M s.change s.from).handlers h ≡ Some post = added_now M ok s.from s.change h post g.2 in
          let at_end : c.handlers h ≡ Some post = handlers_way M ok (changed M s.change s.from) c s.rest (sound_after M ok s.from (Act t) s.change s.makes s.enabled s.sound) s.way h post there in
          handed_was h post v e at_end of (subst (λ y. IsBelow M e y) seen below0)
      plays_were (after_freeze {t = t} {l = l} {f = f} {a = a} v pools y play q frozen) =
          let w = plays_were play in
          let fr = is_frozen c v y frozen in
          let s = froze t l f a w v pools q fr.0 in
          let g = freeze_made M ok s.from t l f a w.puts s.change s.makes s.is v pools q in
          let same : c.content v ≡ (s.from).content v = (frozen_way M ok (changed M s.change s.from) c s.rest (sound_after M ok s.from (Act t) s.change s.makes s.enabled s.sound) s.way v g.1).1 ∙ g.2 in
          subst (λ z. Was c t (M.resume (M.at l) (Content z)) f a) (sym same ∙ fr.1) (goes_on c t l f a w.puts s _ f a w.puts g.0)
      plays_were (after_pause {t = t} {l = l} {f = f} {a = a} play q) =
          let w = plays_were play in
          let s = went t l f a w Pause q tt in
          goes_on c t l f a w.puts s _ f a w.puts (pause_made M ok s.from t l f a w.puts s.change s.makes s.is q)

      met : (t : Name E) (l : L) (f a : ℕ) → Was c t l f a → (r : Request S R L) → M.request l ≡ r → IsMet M c.content t r
      met t l f a w (Put v d) q =
          let s = went t l f a w (Put v d) q tt in
          let g = put_made M ok s.from t l f a w.puts s.change s.makes s.is v d q in
          let now : (changed M s.change s.from).content v ≡ g.0 = ap (λ o. with_join M.join o (s.from).content v) g.3 ∙ with_join-same M ok v d (s.from).content g.0 g.1 in
          let up : IsLe M ok ((changed M s.change s.from).content v) (c.content v) = le_way M ok (changed M s.change s.from) c s.rest (sound_after M ok s.from (Act t) s.change s.makes s.enabled s.sound) s.way v in
          le_trans M ok d g.0 (c.content v) (le_join M ok d ((s.from).content v) g.0 (ok.join_comm d ((s.from).content v) ∙ g.1)) (subst (λ y. IsLe M ok y (c.content v)) now up)
      met t l f a w (Fork k) q =
          let s = went t l f a w (Fork k) q tt in
          (fork_made M ok s.from t l f a w.puts s.change s.makes s.is k q).0
      met t l f a w (Add pool procedure) q =
          let s = went t l f a w (Add pool procedure) q tt in
          (add_made M ok s.from t l f a w.puts s.change s.makes s.is pool procedure q).0
      met t l f a w (Fault kind) q =
          let s = went t l f a w (Fault kind) q tt in
          no_fault M ok s.from t l f a w.puts s.change s.makes s.is kind q
      met t l f a w r q = tt

    module _ (c : State S E L) (run : Reaches M xs c) (end : IsEnd M c) (left : LeavesNoFreeze M c) where
      pub plays_there : (t : Name E) (l : L) (f a : ℕ) → PlaysAgainst M c.content (frozen_contents M c) t l f a → WasThere M xs t l f a
      plays_there t l f a play =
          let w = plays_were c run end left play in
          let b = w.before in
          record { front = b.front; back = w.rest; cut = b.cut; there = w.there; reached = way_run M ok (start M) w.there b.front b.way; puts = w.puts; is = w.is }

  pub ends_are_closed : EndsAreClosed M
  ends_are_closed xs c run end left t l f a play = met xs c run end left t l f a (plays_were xs c run end left play) (M.request l) refl
