-- A task's number of puts is the number of puts that it made in the run.
use Rattle.std.proofs.Common.{◌≡◌, inl, inr, ℕ, suc, Bool, true, false, ◌&&◌, List, [], ◌∷◌, ◌++◌, Option, Some, if◌then◌else◌, refl, sym, ap, subst, ◌∙◌, append_assoc, append-nil}
use Rattle.std.proofs.lemmas.Bool.{and_parts, cases_Bool, false≢true}
use Rattle.lvish_core.specs.Vocabulary.{Label, Act, Hand, Request}
use Rattle.lvish_calculus.specs.Machine.{Machine, IsLawful}
use Rattle.lvish_calculus.specs.Calculus.{Task, Absent, Live, State, Configuration, Running, Error, Change, IsEnabled, IsRun, changed, start, step}
use Rattle.lvish_names.specs.Names.{Name, main, same_name}
use Rattle.lvish_calculus.specs.Laws.{Reaches}
use Rattle.lvish_calculus.proofs.Names.{same_name-true, same_name-refl}
use Rattle.lvish_calculus.proofs.Steps.{Makes, puts, gets, forks, adds, freezes, pauses, ends, hands}
use Rattle.lvish_calculus.proofs.Sound.{IsSound, first, second, acts_live, made_live}
use Rattle.lvish_calculus.proofs.Keeps.{tasks_after, made_absent, sound_after, sound_start}
use Rattle.lvish_calculus.proofs.Made.{own_now}
use Rattle.lvish_calculus.proofs.Ends.{Way, here, goes}
use Rattle.lvish_calculus.proofs.Runs.{step_is}
use Rattle.lvish_calculus.proofs.CoreRuns.{run_way}
use Rattle.lvish_calculus.proofs.SameThere.{run_join}
use Rattle.lvish_core.specs.Puts.{is_put, asks_to_put, is_put_of, put_count}

abbrev one_more : Bool → ℕ → ℕ
one_more b n = if b then suc n else n

swapped : (a b : Bool) (n : ℕ) → one_more a (one_more b n) ≡ one_more b (one_more a n)
swapped true true n = refl
swapped true false n = refl
swapped false true n = refl
swapped false false n = refl

module _ {S E R A L : Type 0} (M : Machine S E R A L) where
  -- one step more
  count_more : (t : Name E) (d : Configuration S E L) (xs : List (Label E)) (c : State S E L) (l : Label E) → IsRun M d xs (Running c)
      → put_count M t d (xs ++ l ∷ []) ≡ one_more (is_put_of M t c l) (put_count M t d xs)
  count_more t d [] c l r = ap (λ z. put_count M t z (l ∷ [])) r
  count_more t (Running s) (k ∷ xs) c l r = ap (one_more (is_put_of M t s k)) (count_more t (step M s k) xs c l r.1) ∙ swapped (is_put_of M t s k) (is_put_of M t c l) (put_count M t (step M s k) xs)
  count_more t (Error kind v u) (k ∷ xs) c l r = absurd r

module _ {S E R A L : Type 0} (M : Machine S E R A L) (ok : IsLawful M) where
  -- what a step leaves of the task that makes it
  record Acted (c : State S E L) (l : Label E) (t : Name E) (k : Task L) : Type 0 where
    label : l ≡ Act t
    local : L
    forks : ℕ
    adds : ℕ
    puts_before : ℕ
    was : c.tasks t ≡ Live local forks adds puts_before
    there : k ≡ Absent → ⊥
    grows : (o : L) (f a p : ℕ) → k ≡ Live o f a p → one_more (is_put (M.request local)) puts_before ≡ p

  acted_as : (c : State S E L) (u t : Name E) (j k : Task L) (o : L) (f a p : ℕ) → c.tasks u ≡ Live o f a p → ◌≡◌ {A = Option (Name E × Task L)} (Some (u, j)) (Some (t, k))
      → (j ≡ Absent → ⊥) → ((o2 : L) (f2 a2 p2 : ℕ) → j ≡ Live o2 f2 a2 p2 → one_more (is_put (M.request o)) p ≡ p2) → Acted c (Act u) t k
  acted_as c u t j k o f a p is e there grows =
      let same : u ≡ t = first e in
      let kept : j ≡ k = second e in
      record { label = ap Act same; local = o; forks = f; adds = a; puts_before = p; was = subst (λ x. c.tasks x ≡ Live o f a p) same is; there = λ z. there (kept ∙ z); grows = λ o2 f2 a2 p2 z. grows o2 f2 a2 p2 (kept ∙ z) }

  -- a task that goes on with as many puts
  still : (o : L) (f a p : ℕ) (r : Request S R L) → M.request o ≡ r → is_put r ≡ false → (x : L) (g b : ℕ) (o2 : L) (f2 a2 p2 : ℕ) → Live x g b p ≡ Live o2 f2 a2 p2 → one_more (is_put (M.request o)) p ≡ p2
  still o f a p r q other x g b o2 f2 a2 p2 e = ap (λ z. one_more z p) (ap is_put q ∙ other) ∙ same_puts e
    where
      same_puts : Live x g b p ≡ Live o2 f2 a2 p2 → p ≡ p2
      same_puts h = cc h

  acted : (c : State S E L) (l : Label E) (ch : Change S E L) → Makes M c l ch → (t : Name E) (k : Task L) → ch.own ≡ Some (t, k) → Acted c l t k
  acted c l ch (puts u o f a p v d s is q j same) t k e = acted_as c u t _ k o f a p is e (λ z. cc z) (λ o2 f2 a2 p2 z. ap (λ b. one_more b p) (ap is_put q) ∙ cc z)
  acted c l ch (gets u o f a p v r x is q j) t k e = acted_as c u t _ k o f a p is e (λ z. cc z) (still o f a p _ q refl _ f a)
  acted c l ch (forks u o f a p x is q b) t k e = acted_as c u t _ k o f a p is e (λ z. cc z) (still o f a p _ q refl _ (suc f) a)
  acted c l ch (adds u o f a p pool procedure v is q b w z) t k e = acted_as c u t _ k o f a p is e (λ z. cc z) (still o f a p _ q refl _ f (suc a))
  acted c l ch (freezes u o f a p v pools is q) t k e = acted_as c u t _ k o f a p is e (λ z. cc z) (still o f a p _ q refl _ f a)
  acted c l ch (pauses u o f a p is q) t k e = acted_as c u t _ k o f a p is e (λ z. cc z) (still o f a p _ q refl _ f a)
  acted c l ch (ends u o f a p is q) t k e = acted_as c u t _ k o f a p is e (λ z. cc z) (λ o2 f2 a2 p2 z. absurd (cc z))
  acted c l ch (hands h x post o) t k e = absurd (cc e)

  -- a put of t is a step of it
  by_itself : (t : Name E) (c : State S E L) (l : Label E) → is_put_of M t c l ≡ true → l ≡ Act t
  by_itself t c (Act u) b = ap Act (sym (same_name-true M.event_same ok.event_same_is t u (and_parts _ _ b).0))
  by_itself t c (Hand h e) b = absurd (false≢true b)

  -- where t makes the step, it is a put as t asks
  as_asked : (t : Name E) (c : State S E L) (o : L) (f a p : ℕ) → c.tasks t ≡ Live o f a p → is_put_of M t c (Act t) ≡ is_put (M.request o)
  as_asked t c o f a p is = ap (λ b. b && asks_to_put M (c.tasks t)) (same_name-refl M.event_same ok.event_same_is t) ∙ ap (asks_to_put M) is

  -- the count of t after a run is the number of puts that it made
  record IsCounted (xs : List (Label E)) (c : State S E L) (t : Name E) : Type 0 where
    live : (o : L) (f a p : ℕ) → c.tasks t ≡ Live o f a p → put_count M t (Running (start M)) xs ≡ p
    absent : c.tasks t ≡ Absent → put_count M t (Running (start M)) xs ≡ 0

  none_yet : (t : Name E) → IsCounted [] (start M) t
  none_yet t = record { live = λ o f a p e. by (same_name M.event_same t main) o f a p e; absent = λ e. refl }
    where
      by : (b : Bool) (o : L) (f a p : ℕ) → (if b then Live M.start 0 0 0 else Absent) ≡ Live o f a p → 0 ≡ p
      by true o f a p e = cc e
      by false o f a p e = absurd (cc e)

  module _ (xs : List (Label E)) (c : State S E L) (l : Label E) (ch : Change S E L) (m : Makes M c l ch) (en : IsEnabled M c l) (s : IsSound c) (r : Reaches M xs c) (t : Name E) (was : IsCounted xs c t) where
    counts : put_count M t (Running (start M)) (xs ++ l ∷ []) ≡ one_more (is_put_of M t c l) (put_count M t (Running (start M)) xs)
    counts = count_more M t (Running (start M)) xs c l r

    by_own : (k : Task L) → ch.own ≡ Some (t, k) → (changed M ch c).tasks t ≡ k → IsCounted (xs ++ l ∷ []) (changed M ch c) t
    by_own k e is = let g = acted c l ch m t k e in record {
      live = λ o f a p z. counts ∙ ap (λ n. one_more (is_put_of M t c l) n) (was.live g.local g.forks g.adds g.puts_before g.was)
          ∙ ap (λ b. one_more b g.puts_before) (ap (is_put_of M t c) g.label ∙ as_asked t c g.local g.forks g.adds g.puts_before g.was)
          ∙ g.grows o f a p (sym is ∙ z);
      absent = λ z. absurd (g.there (sym is ∙ z));
    }

    by_others : is_put_of M t c l ≡ false → IsCounted (xs ++ l ∷ []) (changed M ch c) t
    by_others other = elim (tasks_after M ok c l ch m en s t) [
      | inl w ↦ by_own w.0 w.1 w.2
      | inr (inl w) ↦
          let none : put_count M t (Running (start M)) (xs ++ l ∷ []) ≡ 0 = counts ∙ ap (λ b. one_more b (put_count M t (Running (start M)) xs)) other ∙ was.absent (made_absent M ok c l ch m en s t w.0 w.1) in
          let k = made_live M ok c l ch m t w.0 w.1 in
          record { live = λ o f a p z. none ∙ zero_puts k.0 o f a p (sym k.1 ∙ sym w.2 ∙ z); absent = λ z. none }
      | inr (inr w) ↦
          let kept = counts ∙ ap (λ b. one_more b (put_count M t (Running (start M)) xs)) other in
          record { live = λ o f a p z. kept ∙ was.live o f a p (sym w ∙ z); absent = λ z. kept ∙ was.absent (sym w ∙ z) }
    ]
      where
        zero_puts : (x o : L) (f a p : ℕ) → Live x 0 0 0 ≡ Live o f a p → 0 ≡ p
        zero_puts x o f a p e = cc e

    counted_more : IsCounted (xs ++ l ∷ []) (changed M ch c) t
    counted_more = elim (cases_Bool (is_put_of M t c l)) [
      | inl b ↦ let own = acts_live M ok c l ch m t (by_itself t c l b) in by_own own.0 own.1 (own_now M ok c ch t own.0 own.1)
      | inr b ↦ by_others b
    ]

  counted_way : (pre xs : List (Label E)) (c d : State S E L) → Reaches M pre c → IsSound c → (t : Name E) → IsCounted pre c t → Way M c xs d → IsCounted (pre ++ xs) d t
  counted_way pre [] c d r s t was here = subst (λ ls. IsCounted ls c t) (sym (append-nil pre)) was
  counted_way pre (l ∷ xs) c d r s t was (goes ch m en w) =
      let further = run_join M pre (l ∷ []) (Running (start M)) (Running c) (Running (changed M ch c)) r (en, step_is M ok c l ch m) in
      subst (λ ls. IsCounted ls d t) (append_assoc pre (l ∷ []) xs)
      (counted_way (pre ++ l ∷ []) xs (changed M ch c) d further (sound_after M ok c l ch m en s) t (counted_more pre c l ch m en s r t was) w)

  pub counted : (xs : List (Label E)) (c : State S E L) → Reaches M xs c → (t : Name E) (o : L) (f a p : ℕ) → c.tasks t ≡ Live o f a p → put_count M t (Running (start M)) xs ≡ p
  counted xs c r t = (counted_way [] xs (start M) c refl (sound_start M ok) t (none_yet t) (run_way M ok xs c r)).live
