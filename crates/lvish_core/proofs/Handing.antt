-- A handing, over any machine.
use Rattle.std.proofs.Common.{◌≡◌, ◌+◌, ◌<◌, ℕ, List, length, map, Contains, Some, None, slice_set, slice_index, option_map, option_and_then, refl, sym, ap, subst, ◌∙◌}
use Rattle.std.proofs.lemmas.List.{map-set}
use Rattle.std.proofs.lemmas.Option.{same_Some}
use Rattle.lvish_core.specs.Vocabulary.{Hand, Held, MOST_PROGRAM_STEPS, HandlerPlace, Handed}
use Rattle.lvish_calculus.specs.Machine.{Machine, IsLawful}
use Rattle.lvish_calculus.specs.Calculus.{Post, Task, Absent, Live, Change, hand_effect}
use Rattle.lvish_names.specs.Names.{Name, Handler, handed}
use Rattle.lvish_variable.specs.Variable.{VariableView as Variable}
use Rattle.lvish_handlers.specs.Handlers.{HandlersView as Handlers, next_of}
use Rattle.lvish_picture.specs.Picture.{Table, task_of}
use Rattle.lvish_picture.specs.Steps.{AreTasks, IsHandStep}
use Rattle.lvish_picture.specs.Laws.{HandKept, HandsTheNext, PostsAreHeld, NewTaskIsNew, IsHandlerSeated}
use Rattle.lvish_picture.specs.Counts.{AreCounts, HandCounted, StartIsFollowed, FewRun}
use Rattle.lvish_picture.proofs.Slots.{contained, among_here}
use Rattle.lvish_core.specs.Core.{CoreView, state}
use Rattle.lvish_core.specs.Changes.{touching}
use Rattle.lvish_core.specs.Tasks.{IsAt, Sets}
use Rattle.lvish_core.specs.Beside.{CanHand, HandedAt, one_more_in}
use Rattle.lvish_core.specs.Handed.{IsHanding}
use Rattle.lvish_core.specs.Kept.{IsKept}
use Rattle.lvish_core.proofs.Counting.{can_start}
use Rattle.lvish_core.proofs.Turns.{idle, child}
use Rattle.lvish_core.proofs.Goes.{Moves, moves, same_log}
use Rattle.lvish_core.proofs.Seated.{next_enabled}

module _ {P S E R A L : Type 0} {M : Machine S E R A L} (ok : IsLawful M) {variables n : ℕ} {places : List (Handler E × HandlerPlace)} {old : CoreView P S E L} (kept : IsKept M variables n places old)
    (known : (k v : ℕ) → M.pool_variable k ≡ Some v → v < variables) {h : Handler E} {place : HandlerPlace} {e : E} (hands : IsHanding M old h place e) where
  pub can_hand : FewRun M → old.steps < MOST_PROGRAM_STEPS → CanHand M.event_same old.table.variables h place old.table.handlers
  can_hand law room = record {
    at = hands.at;
    at_is = hands.at_is;
    within = λ hs is. kept.standing.pictured.table.within place.variable hands.at hs hands.at_is is;
    event = e;
    next = λ hs is. ap (λ (q : Handlers E). next_of M.event_same hands.at.log q.held h) (same_Some _ _ (sym is ∙ hands.beside_is)) ∙ hands.next;
    pool = can_start kept known law room place hands.own;
  }

  -- the task that handles the event isn't there
  pub not_there : PostsAreHeld M → HandsTheNext M → NewTaskIsNew M → task_of M.event_same old.table.tasks (handed h.adder h.number e) ≡ Absent
  not_there posts next fresh = (fresh kept.standing.run old.table kept.standing.pictured).1 h e (next_enabled M variables n places old kept ok posts next h e (record {
    variable = place.variable;
    at = hands.at;
    at_is = hands.at_is;
    beside = hands.beside;
    beside_is = hands.beside_is;
    next = hands.next;
  }))

  module _ (room : old.steps < MOST_PROGRAM_STEPS) (law : HandKept M) (law2 : HandCounted M) (posts : PostsAreHeld M) (follows : StartIsFollowed M) (absent : task_of M.event_same old.table.tasks (handed h.adder h.number e) ≡ Absent) {us : List (Name E × Task L)}
      (made : Sets M.event_same old.table.tasks (handed h.adder h.number e) (Live (M.start_handler place.procedure e) 0 0 0) us) {hss : List (Handlers E)} (w : HandedAt M.event_same old.table.variables h place old.table.handlers hss) where
    abbrev new : Table S E L
    new = record { variables = old.table.variables; handlers = hss; tasks = us }

    abbrev name : Name E
    name = handed h.adder h.number e

    same_procedure : place.procedure ≡ w.advanced.handler.procedure
    same_procedure =
        let seated : IsHandlerSeated old.table place.variable w.at w.from w.advanced.handler = record {
          at = w.at_is;
          beside = w.was;
          held = subst (λ (l : List (Held E)). Contains l w.advanced.handler) (sym w.advanced.was) (contained _ _ (among_here w.advanced.handler w.advanced.before w.advanced.after));
        } in
        let p = (posts kept.standing.run old.table place.variable w.at w.from w.advanced.handler kept.standing.pictured seated).0 in
        ap (λ (q : Post). q.procedure) (same_Some _ _ (sym hands.post ∙ sym (ap (state M old).handlers w.advanced.named) ∙ p))

    abbrev hand_step : IsHandStep M old.table h e new
    hand_step = record {
      variable = place.variable;
      at = w.at;
      at_is = w.at_is;
      old = w.from;
      was = w.was;
      next = ap (λ (q : Variable S E). next_of M.event_same q.log w.from.held h) (same_Some _ _ (sym w.at_is ∙ hands.at_is))
          ∙ ap (λ (q : Handlers E). next_of M.event_same hands.at.log q.held h) (same_Some _ _ (sym w.was ∙ hands.beside_is)) ∙ hands.next;
      new = w.to;
      advanced = w.advanced;
      variables = refl;
      handlers = ap (map (λ (q : Handlers E). q.held)) w.is ∙ map-set (λ (q : Handlers E). q.held) old.table.handlers place.variable (one_more_in place.pool w.to)
          ∙ sym (map-set (λ (q : Handlers E). q.held) old.table.handlers place.variable w.to);
      tasks = subst (λ q. AreTasks M.event_same old.table.tasks None (Some (name, Live (M.start_handler q e) 0 0 0)) us) same_procedure made.each;
    }

    abbrev change : Change S E L
    change = record { own = None; made = Some (name, Live (M.start_handler place.procedure e) 0 0 0); added = None; joined = None; froze = None; handing = Some (h, e) }

    counts : (t : Task L) → AreCounts M (state M old) None (Some (name, t)) old.table.handlers hss
    counts t =
        let c = kept.counted place.variable w.from place.pool w.was hands.own in
        subst (λ l. AreCounts M (state M old) None (Some (name, t)) old.table.handlers l)
        (sym (w.is ∙ ap (λ r. slice_set old.table.handlers place.variable (record { held = w.to.held; running = slice_set r place.pool (slice_index r place.pool + 1) })) w.advanced.pools))
        (follows (state M old) None name t old.table.handlers place.variable w.from w.to.held place.pool (ap (option_map (λ (q : Post). q.pool)) hands.post) hands.own w.was c.0 (λ q. refl))

    pub handing : (task_of M.event_same old.table.tasks name ≡ Absent → IsAt us (length old.table.tasks) name) → Moves ok kept (Hand h e) change new places (Handed place.variable)
    handing added = moves ok kept (Hand h e) change new places (Handed place.variable) hands.no_fault room
        (record { variable = place.variable; at = hands.at; at_is = hands.at_is; beside = hands.beside; beside_is = hands.beside_is; next = hands.next })
        (ap (touching (λ v. Handed v)) (sym (ap (option_and_then (λ (q : Post). M.pool_variable q.pool)) hands.post ∙ hands.own)))
        (record {
          does = ap (hand_effect M h e) hands.post;
          turn = idle;
          begins = child name (M.start_handler place.procedure e) absent;
          steps = λ xs r. law xs old.table new h e r hand_step;
          logs = same_log old.table.variables;
          long = refl;
          counted = law2 kept.standing.run old.table new h e kept.standing.pictured kept.counted hand_step (counts (Live (M.start_handler w.advanced.handler.procedure e) 0 0 0));
          index = record { posts = kept.index.posts; own = kept.index.own };
          indices = made.indices;
          last = λ x e. subst (λ u. IsAt us (length old.table.tasks) u) (ap (λ y. y.0) (same_Some _ _ e)) (added absent);
        })
