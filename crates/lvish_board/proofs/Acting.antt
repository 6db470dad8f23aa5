-- What a task's step leaves to a board, over any machine.
use Rattle.std.proofs.Common.{◌≡◌, inl, inr, ◌<◌, ℕ, true, false, List, [], ◌∷◌, ◌++◌, length, Ordering, Option, Some, None, is_some, option_and_then, refl, sym, ap, subst, ◌∙◌}
use Rattle.std.proofs.lemmas.Bool.{false≢true}
use Rattle.lvish_names.specs.NameOrder.{name_cmp, handler_cmp}
use Rattle.lvish_board.specs.Vocabulary.{RunError, Label, Act, ErrorKind, ErrorStep, Moved, TraceEntry, Outcome as Over, ErrorOver, Work}
use Rattle.lvish_calculus.specs.Machine.{Machine, IsLawful}
use Rattle.lvish_calculus.specs.Calculus.{Configuration, Running, Error, Effect, Changes, Fails, Nothing, CanStep, after, changed, effect}
use Rattle.lvish_names.specs.Names.{Name, Handler}
use Rattle.lvish_calculus.specs.Handing.{IsAmong}
use Rattle.lvish_picture.specs.Picture.{table_picture}
use Rattle.lvish_core.specs.Core.{CoreView, IsStep, CanTake, at_fault, state}
use Rattle.lvish_core.specs.Changes.{local_of, moved_in, nothing_moved, brings}
use Rattle.lvish_board.specs.Acts.{IsDone, entry_of}
use Rattle.lvish_board.specs.Left.{own_ticket, made_ticket}
use Rattle.lvish_board.specs.Listed.{Concerns, by_handing, by_adding, by_putting, IsListed, acts, handings, own_stand, stretches, tickets, option_list}
use Rattle.lvish_board.specs.Stand.{TaskStand}
use Rattle.lvish_board.specs.Board.{Standing, IsBlocked, IsBoardSound}
use Rattle.lvish_board.proofs.Handing.{made_same}
use Rattle.lvish_board.proofs.Blocked.{IsMade}
use Rattle.lvish_board.proofs.Those.{nothing_sorted}
use Rattle.lvish_board.proofs.Steps.{done_none, error_own, error_some, kept_step, own_told, some_over, stepped_from}

-- ---- a step that gives an error

module _ {P S E R A L : Type 0} (M : Machine S E R A L) (c d : CoreView P S E L) (t : Name E) (kind : ErrorKind) (step : IsStep M c (Act t) d (ErrorStep kind)) where
  -- nothing can be made after it
  shut : (l : Label E) → CanTake M d l → ⊥
  shut l can =
      let f = error_some M c d (Act t) kind step in
      subst (λ (q : Configuration S E L). CanStep M q l) (ap (at_fault (state M d)) f.1) can.0

  -- who was blocked is blocked after it
  still_blocked : (p : TaskStand E L) → IsBlocked M c p → IsBlocked M d p
  still_blocked p b = record {
    current = subst (λ k. local_of ((table_picture M k).tasks p.task) ≡ Some p.from) (sym (step.shows_before kind refl)) b.current;
    blocked = λ can. shut (Act p.task) can;
  }

  -- it moves nothing, and brings nothing to a log
  moves_nothing : (moved_in (effect M (state M c) (Act t)) ≡ nothing_moved) × ((v : ℕ) → brings M (state M c) v (effect M (state M c) (Act t)) ≡ [])
  moves_nothing = by (effect M (state M c) (Act t)) refl
    where
      by : (o : Effect S E L) → effect M (state M c) (Act t) ≡ o → (moved_in o ≡ nothing_moved) × ((v : ℕ) → brings M (state M c) v o ≡ [])
      by (Changes ch) e = absurd (
          let f = error_some M c d (Act t) kind step in
          let z : Error f.0.kind f.0.variable f.0.task ≡ Running (changed M ch (state M c)) = sym (ap (at_fault (state M d)) f.1) ∙ stepped_from M c d (Act t) (ErrorStep kind) step ∙ ap (after M (state M c)) e in
          let y : ⊥ = cc in y)
      by (Fails k v u) e = (refl, λ v. refl)
      by Nothing e = (refl, λ v. refl)

  concerns_none : (h : Handler E) → Concerns M c (Act t) h → ⊥
  concerns_none h k = elim k [
    | by_handing e same ↦ (let z : ⊥ = cc in z)
    | by_adding added ↦ (let z : None ≡ Some h = sym (ap (λ m. m.added) moves_nothing.0) ∙ added in let y : ⊥ = cc in y)
    | by_putting v on some ↦ some (moves_nothing.1 v)
  ]

  -- it leaves no work
  pub error_listed : {P1 B1 A1 W : Type 0} (cmp : E → E → Ordering) (s u : Standing P S E L) → s.core ≡ c → u.core ≡ d → u.parked ≡ s.parked → (ws : List (Work P1 B1 S L R A1 W E)) → ws ≡ [] → IsListed cmp M s (Act t) u ws
  error_listed cmp s u s_core u_core same ws none = record {
    woken = [];
    hands = [];
    is = none ∙ ap (λ m. stretches (tickets (Act t) m) ++ acts [] ++ handings []) (sym (ap (λ z. moved_in (effect M (state M z) (Act t))) s_core ∙ moves_nothing.0));
    woken_are = λ p. (λ i. absurd i, λ h. absurd (shut (Act p.task) (subst (λ z. CanTake M z (Act p.task)) u_core h.1)));
    woken_by_name = nothing_sorted (name_cmp cmp);
    still = λ p. (λ i. (subst (λ ps. IsAmong p ps) same i, λ can. shut (Act p.task) (subst (λ z. CanTake M z (Act p.task)) u_core can)), λ h. subst (λ ps. IsAmong p ps) (sym same) h.0);
    hands_are = λ h. (λ i. absurd i, λ k. absurd (concerns_none h (subst (λ z. Concerns M z (Act t) h) s_core k.1)));
    hands_by_name = nothing_sorted (handler_cmp cmp);
  }

  -- the board is over with it
  pub error_kept : (program : P) (budget : ℕ) (trace longer : List (TraceEntry E)) (over : Option (Over E)) (ps : List (TaskStand E L)) (worker : ℕ) (told : Over E)
      → IsBoardSound M program budget (record { trace = trace; core = c; over = over; parked = ps })
      → length trace < budget → longer ≡ trace ++ entry_of worker (Act t) ∷ [] → told ≡ ErrorOver kind (option_and_then (λ f. f.variable) d.fault) t
      → IsBoardSound M program budget (record { trace = longer; core = d; over = Some told; parked = ps })
  error_kept program budget trace longer over ps worker told sound room long is =
      subst (λ o. IsBoardSound M program budget (record { trace = longer; core = d; over = Some o; parked = ps })) (sym is)
      (kept_step M program budget trace longer c d over (Some (ErrorOver kind (option_and_then (λ f. f.variable) d.fault) t)) ps ps (Act t) worker (ErrorStep kind) sound step room long (error_own M c d t kind step) (some_over _) (λ p i. still_blocked p (sound.blocked p i)) sound.once)

  pub error_done : IsDone M d t
  error_done = let f = error_some M c d (Act t) kind step in inr (ap is_some f.1)

-- ---- a step that gives none

own_same : {E L : Type 0} (t : Name E) (own : Option L) → option_list (own_ticket t own) ≡ own_stand (Act t) own
own_same t None = refl
own_same t (Some l) = refl

-- its tickets are the task's next one, where it goes on, and a new task's
pub act_tickets : {E L : Type 0} (t : Name E) (moved : Moved E L) (own made : Option (TaskStand E L)) → own ≡ own_ticket t moved.own → made ≡ made_ticket moved.made → option_list own ++ option_list made ≡ tickets (Act t) moved
act_tickets t moved own made o m = (λ i. option_list (o i) ++ option_list (m i)) ∙ (λ i. own_same t moved.own i ++ made_same moved.made i)

module _ {P S E R A L : Type 0} {M : Machine S E R A L} (ok : IsLawful M) {cmp : E → E → Ordering} {c d : CoreView P S E L} {t : Name E} {logged : ℕ} {handlers : List (Handler E)} {added : Option (Handler E)} {moved : Moved E L} (k : IsMade M cmp c (Act t) d logged handlers added moved) where
  pub stands : local_of ((state M d).tasks t) ≡ moved.own
  stands = own_told M ok c d t k.step ∙ sym (ap (λ m. m.own) k.told)

  -- the task goes on where it has a ticket
  pub not_done : is_some (own_ticket t moved.own) ≡ true → IsDone M d t → ⊥
  not_done goes (inl e) = by moved.own (sym stands ∙ e) goes
    where
      by : (o : Option L) → o ≡ None → is_some (own_ticket t o) ≡ true → ⊥
      by None e z = (let y : ⊥ = cc in y)
      by (Some l) e z = (let y : ⊥ = cc in y)
  not_done goes (inr s) = false≢true (sym (ap (λ (q : Option (RunError E)). is_some q) (done_none M c d (Act t) k.step)) ∙ s)

  -- and else has ended
  pub is_done : is_some (own_ticket t moved.own) ≡ false → IsDone M d t
  is_done ends = inl (stands ∙ by moved.own ends)
    where
      by : (o : Option L) → is_some (own_ticket t o) ≡ false → o ≡ None
      by None z = refl
      by (Some l) z = absurd (let y : ⊥ = cc in y)
