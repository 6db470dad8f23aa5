-- What the tasks of an analysis play is what follows from its rules.
use Rattle.std.proofs.Common.{◌≡◌, ◌<◌, inl, inr, ℕ, zero, suc, Bool, true, false, nat_lt, List, Option, Some, None, Ordering, Contains, refl, ◌∙◌, ap, subst, arith}
use Rattle.std.specs.Prelude.{if◌then◌else◌, slice_get}
use Rattle.std.proofs.lemmas.Option.{slice_get_within, get_or_from_slice_get, slice_get-get_or}
use Rattle.std.proofs.lemmas.Bool.{lt-ltb}
use Rattle.lvish_names.specs.Names.{Name, main, handed}
use Rattle.lvish_calculus.specs.declared.request.Request.{Request}
use Rattle.lvish_calculus.specs.declared.request.Request.TheVariants.{Put as AskPut, Get, Fork, Add, Freeze, Pause}
use Rattle.lvish_calculus.specs.Machine.{Machine, IsLawful, IsBelow}
use Rattle.lvish_calculus.specs.Program.{machine_of}
use Rattle.lvish_calculus.specs.Agreement.{NeverAsksFreeze, AgreeOrErr, AllLeadToTheEnd}
use Rattle.lvish_calculus.proofs.Agreement.{agree_or_err, all_lead_to_the_end}
use Rattle.lvish_calculus.specs.LeastModel.{Plays, main_starts, after_put, after_get, after_fork, child_starts, after_add, handler_starts, after_freeze, after_pause, IsMet, PlaysAgainst, HasAllPuts, frozen_contents}
use Rattle.lvish_calculus.proofs.Order.{below_le}
use Rattle.lvish_calculus.proofs.ClosedEnds.{ends_are_closed}
use Rattle.lvish_calculus.proofs.LeastModel.{KeepsSeen, within, runs_are_least}
use Rattle.lvish_rules.specs.Rules.{Move, Put, Watch, RuleSet, relation_of, NamesRelations, Follows, at_first, fires, Holds, IsWanted, first_wanted, then_wanted, IsClosedUnder}
use Rattle.lvish_rules.specs.Ruled.{At, moves_of, asked_at, functions_of}
use Rattle.lvish_rules.specs.RuledLaws.{pool_cases, pool_there, asked_put, asked_add, never_asks}
use Rattle.lvish_rules.specs.Analysis.{EndsAreExact, RunsAreSound, EndsObeyRules, RunsAreBelowModels}

-- ---- moves by their numbers

pub contained : {X : Type 0} (xs : List X) (k : ℕ) (x : X) → slice_get xs k ≡ Some x → Contains xs x
contained xs k x e = (k, slice_get_within xs k x e, get_or_from_slice_get xs k x x e)

pub numbered : {X : Type 0} (xs : List X) (x : X) → Contains xs x → (k : ℕ) × (slice_get xs k ≡ Some x)
numbered xs x (k, h, e) = (k, slice_get-get_or xs k x h ∙ ap Some e)

one_before : {X : Type 0} (xs : List X) (k : ℕ) (x : X) → slice_get xs (suc k) ≡ Some x → (y : X) × (slice_get xs k ≡ Some y)
one_before xs k x e = let h : suc k < _ = slice_get_within xs (suc k) x e in (_, slice_get-get_or xs k x (omega (arith, h)))

module _ {S E R A : Type 0} (same : S → S → Bool) (event_same : E → E → Bool) (cmp : E → E → Ordering) (bottom : S) (join : S → S → Option S) (events : S → List E) (answer : R → S → Option A) (rules : RuleSet S E) where
  abbrev pub M : Machine S E R A (At E)
  M = machine_of same event_same cmp bottom join events answer (functions_of rules)

  abbrev pub next : At E → Option (Move S)
  next l = slice_get (moves_of rules l.0) l.1

  -- what holds of the moves at first, and of those of a watch that it holds of, on an event that is seen, holds of all moves of a task
  module _ (seen frozen : ℕ → S → Type 0) (P : Move S → Type 0) (first : (m : Move S) → Contains rules.first m → P m)
      (later : (m : Move S) (r w : ℕ) (s : S) (e : E) → P (Watch r w) → seen r s → Contains (events s) e → Contains (rules.fired w e) m → P m) where
    all_moves : {t : Name E} {l : At E} {f a : ℕ} → Plays M seen frozen t l f a → (m : Move S) → Contains (moves_of rules l.0) m → P m
    all_moves main_starts m h = first m h
    all_moves (after_put v d play q) m h = all_moves play m h
    all_moves (after_get {l = l} v r s x play q sn an) m h = absurd (never_asks rules.relations (next l) (Get v r) q tt)
    all_moves (after_fork {l = l} k play q) m h = absurd (never_asks rules.relations (next l) (Fork k) q tt)
    all_moves (child_starts {l = l} k play q) m h = absurd (never_asks rules.relations (next l) (Fork k) q tt)
    all_moves (after_add pool procedure play q) m h = all_moves play m h
    all_moves (handler_starts {l = l} pool procedure v s e play q of sn below) m h =
        let g = asked_add rules.relations (next l) pool procedure q in
        let w : P (Watch pool procedure) = all_moves play (Watch pool procedure) (contained (moves_of rules l.0) l.1 (Watch pool procedure) g.1) in
        let same_one : pool ≡ v = (pool_cases rules.relations pool v of).1 in
        later m v procedure s e (subst (λ r. P (Watch r procedure)) same_one w) sn below h
    all_moves (after_freeze {l = l} v pools s play q fr) m h = absurd (never_asks rules.relations (next l) (Freeze v pools) q tt)
    all_moves (after_pause play q) m h = all_moves play m h

    -- so of what a task puts
    pub put_is : {t : Name E} {l : At E} {f a : ℕ} → Plays M seen frozen t l f a → (v : ℕ) (d : S) → M.request l ≡ AskPut v d → P (Put v d)
    put_is {l = l} play v d q = all_moves play (Put v d) (contained (moves_of rules l.0) l.1 (Put v d) (asked_put rules.relations (next l) v d q).1)

  pub never_asks_freeze : NeverAsksFreeze M
  never_asks_freeze ls c run t l f a p is v pools q = never_asks rules.relations (next l) (Freeze v pools) q tt

  pub runs_agree : IsLawful M → AgreeOrErr M
  runs_agree ok = agree_or_err M ok never_asks_freeze

  pub runs_lead_to_the_end : IsLawful M → AllLeadToTheEnd M
  runs_lead_to_the_end ok = all_lead_to_the_end M ok never_asks_freeze

  -- a task plays whose next move is this one
  record Playing (X : ℕ → S) (F : ℕ → Option S) (m : Move S) : Type 0 where
    name : Name E
    of : Option (ℕ × E)
    index : ℕ
    forks : ℕ
    adds : ℕ
    play : PlaysAgainst M X F name (of, index) forks adds
    is : slice_get (moves_of rules of) index ≡ Some m

  module _ (X : ℕ → S) (F : ℕ → Option S) where
    -- a task goes on from any move
    goes : (t : Name E) (of : Option (ℕ × E)) (k f a : ℕ) → PlaysAgainst M X F t (of, k) f a → (m : Move S) → slice_get (moves_of rules of) k ≡ Some m → (b : ℕ) × PlaysAgainst M X F t (of, suc k) f b
    goes t of k f a play (Put r d) is = by (nat_lt r rules.relations) refl
      where
        by : (b : Bool) → nat_lt r rules.relations ≡ b → (b : ℕ) × PlaysAgainst M X F t (of, suc k) f b
        by true z = (a, after_put r d play (ap (asked_at rules.relations) is ∙ ap (λ b. if b then AskPut r d else Pause) z))
        by false z = (a, after_pause play (ap (asked_at rules.relations) is ∙ ap (λ b. if b then AskPut r d else Pause) z))
    goes t of k f a play (Watch r w) is = by (nat_lt r rules.relations) refl
      where
        by : (b : Bool) → nat_lt r rules.relations ≡ b → (b : ℕ) × PlaysAgainst M X F t (of, suc k) f b
        by true z = (suc a, after_add r w play (ap (asked_at rules.relations) is ∙ ap (λ b. if b then Add r w else Pause) z))
        by false z = (a, after_pause play (ap (asked_at rules.relations) is ∙ ap (λ b. if b then Add r w else Pause) z))

    comes_to : (t : Name E) (of : Option (ℕ × E)) → PlaysAgainst M X F t (of, 0) 0 0 → (k : ℕ) (m : Move S) → slice_get (moves_of rules of) k ≡ Some m → (a : ℕ) × PlaysAgainst M X F t (of, k) 0 a
    comes_to t of play zero m is = (0, play)
    comes_to t of play (suc k) m is =
        let b = one_before (moves_of rules of) k m is in
        let g = comes_to t of play k b.0 b.1 in
        goes t of k 0 g.0 g.1 b.0 b.1

    playing : (t : Name E) (of : Option (ℕ × E)) → PlaysAgainst M X F t (of, 0) 0 0 → (m : Move S) → Contains (moves_of rules of) m → Playing X F m
    playing t of play m h =
        let k = numbered (moves_of rules of) m h in
        let g = comes_to t of play k.0 m k.1 in
        record { name = t; of = of; index = k.0; forks = 0; adds = g.0; play = g.1; is = k.1 }

    module _ (named : NamesRelations rules) where
      there : {m : Move S} → IsWanted events rules X m → relation_of m < rules.relations
      there {m = m} (first_wanted h) = named.first m h
      there {m = m} (then_wanted r w e watch below h) = named.fired w e m h

      asks_put : (m : Option (Move S)) (r : ℕ) (d : S) → m ≡ Some (Put r d) → r < rules.relations → ◌≡◌ {A = Request S R (At E)} (asked_at rules.relations m) (AskPut r d)
      asks_put m r d is lt = ap (asked_at rules.relations) is ∙ ap (λ b. if b then AskPut r d else Pause) (lt-ltb r rules.relations lt)

      asks_add : (m : Option (Move S)) (r w : ℕ) → m ≡ Some (Watch r w) → r < rules.relations → ◌≡◌ {A = Request S R (At E)} (asked_at rules.relations m) (Add r w)
      asks_add m r w is lt = ap (asked_at rules.relations) is ∙ ap (λ b. if b then Add r w else Pause) (lt-ltb r rules.relations lt)

      -- what the rules want of the contents is played against them
      wanted_plays : {m : Move S} → IsWanted events rules X m → Playing X F m
      wanted_plays {m = m} (first_wanted h) = playing main None main_starts m h
      wanted_plays {m = m} (then_wanted r w e watch below h) =
          let p = wanted_plays watch in
          let lt : r < rules.relations = there watch in
          playing (handed p.name (suc p.adds) e) (Some (w, e)) (handler_starts r w r (X r) e p.play (asks_add (next (p.of, p.index)) r w p.is lt) (pool_there rules.relations r lt) refl below) m h

  module _ (named : NamesRelations rules) (ok : IsLawful M) where
    never_freezes : (l : At E) (v : ℕ) (pools : List ℕ) → M.request l ≡ Freeze v pools → ⊥
    never_freezes l v pools q = never_asks rules.relations (next l) (Freeze v pools) q tt

    pub ends_obey_rules : EndsObeyRules M rules
    ends_obey_rules xs c run end r d wanted =
        let F = frozen_contents M c in
        let p = wanted_plays c.content F named wanted in
        let met : IsMet M c.content p.name (M.request (p.of, p.index)) = ends_are_closed M ok xs c run end (λ t l f a n v pools is q. absurd (never_freezes l v pools q)) p.name (p.of, p.index) p.forks p.adds p.play in
        subst (λ q. IsMet M c.content p.name q) (asks_put c.content F named (next (p.of, p.index)) r d p.is (there c.content F named wanted)) met

    -- contents that are closed under the rules have what all tasks put
    has_all_puts : (Y : ℕ → S) (F : ℕ → Option S) → IsClosedUnder join events rules Y → HasAllPuts M Y F
    has_all_puts Y F closed t l f a v d play q =
        closed v d (put_is (λ v s. s ≡ Y v) (λ v s. F v ≡ Some s) (IsWanted events rules Y) (λ m h. first_wanted h) (λ m r w s e watch is below h. then_wanted r w e watch (subst (λ s. IsBelow M e s) is below) h) play v d q)

    pub runs_are_below_models : RunsAreBelowModels M rules
    runs_are_below_models xs c run Y closed = runs_are_least M ok xs c run Y (has_all_puts Y (frozen_contents M c) closed)

    follows_wanted : (X : ℕ → S) → IsClosedUnder join events rules X → {m : Move S} → Follows events rules m → IsWanted events rules X m
    follows_wanted X closed (at_first h) = first_wanted h
    follows_wanted X closed (fires r w d e watch put below h) = then_wanted r w e (follows_wanted X closed watch) (below_le M ok e d (X r) (closed r d (follows_wanted X closed put)) below) h

    abbrev AllHold : ℕ → S → Type 0
    AllHold v s = (e : E) → IsBelow M e s → Holds events rules v e

    holds_keep : KeepsSeen M ok AllHold AllHold
    holds_keep = record {
      bottom = λ v e below. absurd (ok.events_bottom e below);
      put = λ t l f a v d s u play q seen j e below. elim ((ok.events_join s d u j e).0 below) [
        | inl h ↦ seen e h
        | inr h ↦ (
          d,
          put_is AllHold AllHold (Follows events rules) (λ m h. at_first h)
              (λ m r w s e watch all below h. let g = all e below in fires r w g.0 e watch g.1 g.2 h) play v d q,
          h,
        )
      ];
    }

    pub runs_are_sound : RunsAreSound M rules
    runs_are_sound xs c run = (within M ok AllHold AllHold holds_keep c (λ v z seen. seen) xs run).contents

    pub ends_are_exact : EndsAreExact M rules
    ends_are_exact xs c run end r e = (
      runs_are_sound xs c run r e,
      λ holds.
          let closed = ends_obey_rules xs c run end in
          below_le M ok e holds.0 (c.content r) (closed r holds.0 (follows_wanted c.content closed holds.1)) holds.2,
    )
