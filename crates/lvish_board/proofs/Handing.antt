-- What a handing is to a board, over any machine.
use Rattle.std.proofs.Common.{◌≡◌, ◌↔◌, inl, inr, ℕ, List, [], ◌∷◌, length, Ordering, Option, Some, None, IsSome, is_some, refl, sym, ap, subst, ◌∙◌, option_and_then}
use Rattle.std.specs.List.Sorted.{IsStrictlySortedBy}
use Rattle.lvish_board.specs.Vocabulary.{Label, Hand, Stepped, DoneStep, ErrorStep, Made, Moved, PutOn as Put, Handed, Work}
use Rattle.lvish_calculus.specs.Machine.{Machine}
use Rattle.lvish_calculus.specs.Calculus.{Post, Live, State, Configuration, Running, Change, Changes, CanStep, IsToHand, after, changed, effect, hand_effect}
use Rattle.lvish_names.specs.Names.{Handler, handed}
use Rattle.lvish_calculus.specs.Handing.{IsAmong}
use Rattle.lvish_names.specs.NameOrder.{handler_cmp}
use Rattle.lvish_core.specs.Core.{CoreView, IsRunTo, IsNext, IsStep, CanTake, at_fault, state, says}
use Rattle.lvish_core.specs.CoreLaws.{HandsOneEvent, HandsWhatComes}
use Rattle.lvish_core.specs.Changes.{IsMoved, moved_in, brings, touching}
use Rattle.lvish_core.specs.Handed.{IsHanded}
use Rattle.lvish_core.specs.laws.Runs.{at_state, no_error_before}
use Rattle.lvish_board.specs.Listed.{Concerns, by_handing, by_adding, by_putting, made_stand, tickets, option_list}
use Rattle.lvish_board.specs.Left.{IsLeft, IsLogged, candidates, fresh_in, made_ticket}
use Rattle.lvish_board.specs.Stand.{TaskStand}
use Rattle.lvish_trace.specs.Traced.{labels_of}
use Rattle.lvish_board.specs.Board.{Standing, IsBoardSound}
use Rattle.lvish_board.proofs.Blocked.{IsMade}
use Rattle.lvish_board.proofs.Concerned.{IsNoPut, none_fresh}
use Rattle.lvish_board.proofs.Steps.{begins_well, no_fault, stepped_from}
use Rattle.lvish_board.proofs.Those.{one_sorted}

-- what a handing changes
abbrev change_of : {S E R A L : Type 0} → Machine S E R A L → Handler E → E → Post → Change S E L
change_of M h e post = record {
  own = None;
  made = Some (handed h.adder h.number e, Live (M.start_handler post.procedure e) 0 0 0);
  added = None;
  joined = None;
  froze = None;
  handing = Some (h, e);
}

-- a handing concerns its handler's variable, and is no put
hand_no_put : (o : Option ℕ) → IsNoPut (touching (λ w. Handed w) o)
hand_no_put None v e = cc
hand_no_put (Some w) v e = cc

-- the ticket of what a step made is that of its place
pub made_same : {E L : Type 0} (made : Option (Made E L)) → option_list (made_ticket made) ≡ made_stand made
made_same None = refl
made_same (Some m) = refl

-- the one ticket of a handing is that of the task that it made
pub hand_tickets : {E L : Type 0} (h : Handler E) (e : E) (moved : Moved E L) (made : Option (TaskStand E L)) → made ≡ made_ticket moved.made → option_list made ≡ tickets (Hand h e) moved
hand_tickets h e moved made is = ap (λ o. option_list o) is ∙ made_same moved.made

module _ {P S E R A L : Type 0} (M : Machine S E R A L) where
  module _ (c d : CoreView P S E L) (h : Handler E) (e : E) (said : Stepped) (step : IsStep M c (Hand h e) d said) where
    changes : (post : Post) × (effect M (state M c) (Hand h e) ≡ Changes (change_of M h e post))
    changes =
        let to : IsToHand M (state M c) h e = subst (λ (q : Configuration S E L). CanStep M q (Hand h e)) (at_state M c (begins_well M c d (Hand h e) said step)) step.enabled.0 in
        (to.on.post, ap (λ o. hand_effect M h e o) to.on.is)

    -- a handing never ends in an error
    pub hand_done : said ≡ DoneStep
    hand_done = by (changed M (change_of M h e changes.0) (state M c)) said (subst (λ q. says q said) (stepped_from M c d (Hand h e) said step ∙ ap (after M (state M c)) changes.1) step.answer)
      where
        by : (s : State S E L) (r : Stepped) → says (Running s) r → r ≡ DoneStep
        by s DoneStep k = refl
        by s (ErrorStep kind) k = absurd k

    -- it concerns its handler, and no other
    concerned : (k : Handler E) → Concerns M c (Hand h e) k → k ≡ h
    concerned k (by_handing f same) = let back : h ≡ k = cc in sym back
    concerned k (by_adding is) = let no : ◌≡◌ {A = Option (Handler E)} None (Some k) = sym (ap (λ o. (moved_in o).added) changes.1) ∙ is in absurd cc
    concerned k (by_putting v on some) = absurd (some (ap (brings M (state M c) v) changes.1))

  -- what the board knows of a handing
  pub hand_made : (c d : CoreView P S E L) (h : Handler E) (e : E) → IsStep M c (Hand h e) d DoneStep → (cmp : E → E → Ordering) (labels : List (Label E)) → IsRunTo M c labels → (moved : Moved E L) → IsMoved M (state M c) (Hand h e) moved
      → length c.table.variables ≡ length d.table.variables → (logged : ℕ) (handlers : List (Handler E)) → IsMade M cmp c (Hand h e) d logged handlers (Some h) moved
  hand_made c d h e step cmp labels leads moved is_moved long logged handlers =
      let on = option_and_then (λ (post : Post). M.pool_variable post.pool) ((state M c).handlers h) in
      let none = subst (λ o. (fresh_in d.table.variables logged o ≡ []) × IsLogged d.table.variables logged o) (sym step.touched) (none_fresh d.table.variables logged _ (hand_no_put on)) in
      let one : h ∷ [] ≡ candidates (fresh_in d.table.variables logged d.touched) handlers (Some h) = sym (ap (λ es. candidates es handlers (Some h)) none.0) in
      record {
        labels = labels;
        leads = leads;
        step = step;
        told = is_moved;
        long = long;
        is_logged = none.1;
        fresh = λ v put. absurd (hand_no_put on v (let z : Some (touching (λ w. Handed w) on) ≡ Some (Put v) = sym step.touched ∙ put in cc));
        concerned = λ k. subst (λ hs. IsAmong k hs ↔ Concerns M c (Hand h e) k) one (
          λ i. elim i [
            | inl q ↦ by_handing e (ap (λ g. Hand g e) (sym q))
            | inr z ↦ absurd z
          ],
          λ w. inl (concerned c d h e DoneStep step k w),
        );
        by_name = subst (λ hs. IsStrictlySortedBy (handler_cmp cmp) hs) one (one_sorted (handler_cmp cmp) h);
      }

  module _ (c d : CoreView P S E L) (h : Handler E) (said : Stepped) (moved : Moved E L) (was : IsHanded M c h d said moved) where
    -- what was handed was handed without an error
    pub handed_well : IsStep M c (Hand h was.event) d DoneStep
    handed_well = subst (λ r. IsStep M c (Hand h was.event) d r) (hand_done c d h was.event said was.moving.step) was.moving.step

  -- a handler that can be handed something is there
  pub hand_held : (c : CoreView P S E L) (h : Handler E) (e : E) → CanTake M c (Hand h e) → IsSome ((state M c).handlers h)
  hand_held c h e can =
      let to : IsToHand M (state M c) h e = subst (λ f. CanStep M (at_fault (state M c) f) (Hand h e)) (no_error_before M (state M c) c.fault (Hand h e) can.0) can.0 in
      ap is_some to.on.is

  -- where a board isn't over, what comes next can be handed
  pub hand_open : HandsWhatComes P M → (program : P) (budget : ℕ) (s : Standing P S E L) → IsBoardSound M program budget s → s.over ≡ None
      → (h : Handler E) (e : E) → IsNext M.event_same s.core.table h e → CanTake M s.core (Hand h e)
  hand_open opens program budget s sound going h e comes = opens s.core (labels_of s.trace) sound.leads (no_fault M program budget s sound going) h e comes

  -- so its handler is there
  pub next_held : HandsWhatComes P M → (program : P) (budget : ℕ) (s : Standing P S E L) → IsBoardSound M program budget s → s.over ≡ None
      → (h : Handler E) (e : E) → IsNext M.event_same s.core.table h e → IsSome ((state M s.core).handlers h)
  next_held opens program budget s sound going h e comes = hand_held s.core h e (hand_open opens program budget s sound going h e comes)

  -- and nothing else comes next
  pub comes_once : HandsOneEvent P M → HandsWhatComes P M → (program : P) (budget : ℕ) (s : Standing P S E L) → IsBoardSound M program budget s → s.over ≡ None
      → (h : Handler E) (e f : E) → IsNext M.event_same s.core.table h e → IsNext M.event_same s.core.table h f → e ≡ f
  comes_once one opens program budget s sound going h e f y z = one s.core (labels_of s.trace) sound.leads h e f (hand_open opens program budget s sound going h e y) z

-- what a core says of its own program's machine it says of the program's
module _ {P S E R A L : Type 0} (machine : P → Machine S E R A L) (program : P) (c : CoreView P S E L) where
  pub own_left : {P1 B1 W : Type 0} → c.program ≡ program → (cmp : E → E → Ordering) (spot_of : E → W) (watched : R → Option W) (logged : ℕ) (own made : Option (TaskStand E L)) (added : Option (Handler E)) (handlers : List (Handler E)) (old new : List (TaskStand E L)) (ws : List (Work P1 B1 S L R A W E))
      → IsLeft cmp (machine c.program) spot_of watched c logged own made added handlers old new ws → IsLeft cmp (machine program) spot_of watched c logged own made added handlers old new ws
  own_left at cmp spot_of watched logged own made added handlers old new ws left = subst (λ p. IsLeft cmp (machine p) spot_of watched c logged own made added handlers old new ws) at left

-- what a contract sees of a board is what lies in it
module _ {P S E L : Type 0} {inside now : Standing P S E L} (view : inside ≡ now) where
  pub seen_core : now.core ≡ inside.core
  seen_core = sym (ap (λ b. b.core) view)

  pub seen_parked : now.parked ≡ inside.parked
  seen_parked = sym (ap (λ b. b.parked) view)

-- as a contract sees a board that isn't over, a handler for which something comes next is there
pub held_here : {P S E R A L : Type 0} (M : Machine S E R A L) → HandsWhatComes P M → (program : P) (budget : ℕ) {inside now : Standing P S E L} → inside ≡ now → IsBoardSound M program budget inside → inside.over ≡ None
    → (h : Handler E) (e : E) → IsNext M.event_same now.core.table h e → IsSome ((state M now.core).handlers h)
held_here M opens program budget {inside = inside} view sound going h e comes =
    subst (λ s. IsSome ((state M s.core).handlers h)) view (next_held M opens program budget inside sound going h e (subst (λ s. IsNext M.event_same s.core.table h e) (sym view) comes))
