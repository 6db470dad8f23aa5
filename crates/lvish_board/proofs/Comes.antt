-- All that a board says of its answer, for each answer, over any machine.
use Rattle.std.proofs.Common.{◌≡◌, ◌⊎◌, inr, ◌++◌, ◌∷◌, [], Bool, true, false, ℕ, Ordering, Option, None, Some, is_some, unwrap_or, IsSome, refl, sym, ap, subst, ◌∙◌}
use Rattle.std.proofs.lemmas.Bool.{false≢true, true≢false}
use Rattle.lvish_board.specs.Vocabulary.{Act, ActOn, Hand, HandTo, ActAnswer, Over, Stale, Parked, Memory, Next, Gone, ActKind, OverKind, StaleKind, ParkedKind, MemoryKind, NextKind, GoneKind, StepWork}
use Rattle.lvish_calculus.specs.Machine.{Machine}
use Rattle.lvish_names.specs.Names.{Handler}
use Rattle.lvish_core.specs.Tasks.{task_names}
use Rattle.lvish_board.specs.Acts.{ComesOfAct, ComesOfNoAct, IsDone, ComesOfHand, ComesOfNoHanding, entry_of, with_work}
use Rattle.lvish_board.specs.Listed.{IsListed, work_of}
use Rattle.lvish_trace.specs.Packed.{label_at}
use Rattle.lvish_board.specs.Stand.{TaskStand}
use Rattle.lvish_board.specs.Board.{Standing}
use Rattle.lvish_board.specs.Woken.{IsParkedBeside}
use Rattle.lvish_board.proofs.Steps.{none_is}

-- what isn't over is over in no way
pub not_over : {X Y : Type 0} (o : Option X) → o ≡ None → IsSome o → Y
not_over o none some = absurd (false≢true (subst (λ z. IsSome z) none some))

-- what holds of the content of a slot holds of whatever it is said to be
pub for_this : {X : Type 0} (F : X → Type 0) (x : X) (o : Option X) → Some x ≡ o → F x → (y : X) → o ≡ Some y → F y
for_this F x o same holds y there = subst F (ap (λ p. unwrap_or p x) (same ∙ there)) holds

module _ {P S E R Ans L P1 B1 A1 W : Type 0} {cmp : E → E → Ordering} {M : Machine S E R Ans L} {Stands Can Full : Type 0} {worker : ℕ} {asked : TaskStand E L} {old new : Standing P S E L} where
  -- the board is over, as it was or because the budget is used up
  pub act_over : IsSome old.over ⊎ (Stands × Can × Full) → new.trace ≡ old.trace → new.core ≡ old.core → IsSome new.over → new.parked ≡ old.parked → (IsSome old.over → new ≡ old) → ComesOfAct {P = P1} {B = B1} {A = A1} {W = W} cmp M Stands Can Full worker asked old new Over
  act_over why trace core some parked before = record {
    order = why;
    stays = λ _. (trace, core);
    step = λ e. absurd (false≢true e);
    gone = λ e. absurd (false≢true e);
    list = tt;
    noted = tt;
    own = tt;
    over = λ _. some;
    keeps = λ _. parked;
    done = λ e. (refl, before e);
    stale = λ e. absurd (false≢true e);
    parked = λ e. absurd (false≢true e);
    memory = (tt, tt);
  }

  -- the task isn't at its state
  pub act_stale : new ≡ old → old.over ≡ None → (Stands → ⊥) → ComesOfAct {P = P1} {B = B1} {A = A1} {W = W} cmp M Stands Can Full worker asked old new Stale
  act_stale same none never = record {
    order = (none, never);
    stays = λ _. (ap (λ b. b.trace) same, ap (λ b. b.core) same);
    step = λ e. absurd (false≢true e);
    gone = λ e. absurd (false≢true e);
    list = tt;
    noted = tt;
    own = tt;
    over = λ e. absurd (false≢true e);
    keeps = λ e. absurd (false≢true e);
    done = not_over old.over none;
    stale = λ _. same;
    parked = λ e. absurd (false≢true e);
    memory = (tt, tt);
  }

  -- a step was made, and the task goes on
  pub act_next : (list : StepWork P1 B1 S L R A1 W E) → (old.over ≡ None) × Stands × Can × (Full → ⊥) → new.trace ≡ old.trace ++ entry_of worker (Act asked.task) ∷ [] → (IsDone M new.core asked.task → ⊥) → IsListed cmp M old (Act asked.task) new (work_of list) → label_at (task_names new.core.table.tasks) list.step ≡ Act asked.task → IsSome list.own → ComesOfAct {P = P1} {B = B1} {A = A1} {W = W} cmp M Stands Can Full worker asked old new (Next list)
  act_next list order written goes listed noted own = record {
    order = order;
    stays = λ e. absurd (true≢false e);
    step = λ _. written;
    gone = λ _. (λ e. absurd (false≢true e), λ done. absurd (goes done));
    list = listed;
    noted = noted;
    own = own;
    over = λ e. absurd (false≢true e);
    keeps = λ e. absurd (false≢true e);
    done = not_over old.over order.0;
    stale = λ e. absurd (false≢true e);
    parked = λ e. absurd (false≢true e);
    memory = (tt, tt);
  }

  -- a step was made, and the task goes on no more
  pub act_gone : (list : StepWork P1 B1 S L R A1 W E) → (old.over ≡ None) × Stands × Can × (Full → ⊥) → new.trace ≡ old.trace ++ entry_of worker (Act asked.task) ∷ [] → IsDone M new.core asked.task → IsListed cmp M old (Act asked.task) new (work_of list) → label_at (task_names new.core.table.tasks) list.step ≡ Act asked.task → list.own ≡ None → ComesOfAct {P = P1} {B = B1} {A = A1} {W = W} cmp M Stands Can Full worker asked old new (Gone list)
  act_gone list order written done listed noted own = record {
    order = order;
    stays = λ e. absurd (true≢false e);
    step = λ _. written;
    gone = λ _. (λ _. done, λ _. refl);
    list = listed;
    noted = noted;
    own = own;
    over = λ e. absurd (false≢true e);
    keeps = λ e. absurd (false≢true e);
    done = not_over old.over order.0;
    stale = λ e. absurd (false≢true e);
    parked = λ e. absurd (false≢true e);
    memory = (tt, tt);
  }

  -- a step was made, and the answer says whether the task goes on
  pub act_left : (goes_on : Bool) (list : StepWork P1 B1 S L R A1 W E) (came : ActKind) → (goes_on ≡ true → came ≡ NextKind) → (goes_on ≡ false → came ≡ GoneKind)
      → (old.over ≡ None) × Stands × Can × (Full → ⊥) → new.trace ≡ old.trace ++ entry_of worker (Act asked.task) ∷ [] → (goes_on ≡ true → IsDone M new.core asked.task → ⊥) → (goes_on ≡ false → IsDone M new.core asked.task)
      → IsListed cmp M old (Act asked.task) new (work_of list) → label_at (task_names new.core.table.tasks) list.step ≡ Act asked.task → is_some list.own ≡ goes_on → ComesOfAct cmp M Stands Can Full worker asked old new (with_work came (ActOn asked) list)
  act_left true list came next gone order written goes ends listed noted own = subst (λ k. ComesOfAct cmp M Stands Can Full worker asked old new (with_work k (ActOn asked) list)) (sym (next refl)) (act_next list order written (goes refl) listed noted own)
  act_left false list came next gone order written goes ends listed noted own = subst (λ k. ComesOfAct cmp M Stands Can Full worker asked old new (with_work k (ActOn asked) list)) (sym (gone refl)) (act_gone list order written (ends refl) listed noted (none_is list.own own))

  -- the task is blocked, and parked
  act_parked : old.over ≡ None → Stands → (Can → ⊥) → new.trace ≡ old.trace → new.core ≡ old.core → IsParkedBeside old.parked asked new.parked → ComesOfAct {P = P1} {B = B1} {A = A1} {W = W} cmp M Stands Can Full worker asked old new Parked
  act_parked none stands blocked trace core beside = record {
    order = (none, stands, blocked);
    stays = λ _. (trace, core);
    step = λ e. absurd (false≢true e);
    gone = λ e. absurd (false≢true e);
    list = tt;
    noted = tt;
    own = tt;
    over = λ e. absurd (false≢true e);
    keeps = λ e. absurd (false≢true e);
    done = not_over old.over none;
    stale = λ e. absurd (false≢true e);
    parked = λ _. beside;
    memory = (tt, tt);
  }

  -- a growth was refused
  pub act_memory : old.over ≡ None → Stands → (Can → Full → ⊥) → new ≡ old → ComesOfAct {P = P1} {B = B1} {A = A1} {W = W} cmp M Stands Can Full worker asked old new (Memory (ActOn asked))
  act_memory none stands never same = record {
    order = (none, stands, never);
    stays = λ _. (ap (λ b. b.trace) same, ap (λ b. b.core) same);
    step = λ e. absurd (false≢true e);
    gone = λ e. absurd (false≢true e);
    list = tt;
    noted = tt;
    own = tt;
    over = λ e. absurd (false≢true e);
    keeps = λ e. absurd (false≢true e);
    done = not_over old.over none;
    stale = λ e. absurd (false≢true e);
    parked = λ e. absurd (false≢true e);
    memory = (refl, same);
  }

  -- no step was made of a task at its state
  pub act_unmade : (list : StepWork P1 B1 S L R A1 W E) (came : ActKind) → old.over ≡ None → Stands → new.trace ≡ old.trace → new.core ≡ old.core → ComesOfNoAct Can Full asked old new came → ComesOfAct cmp M Stands Can Full worker asked old new (with_work came (ActOn asked) list)
  act_unmade list OverKind none stands trace core some = act_over (inr (stands, some.0, some.1)) trace core some.2 some.3 (not_over old.over none)
  act_unmade list ParkedKind none stands trace core kept = act_parked none stands kept.0 trace core kept.1
  act_unmade list MemoryKind none stands trace core kept = act_memory none stands kept.0 kept.1
  act_unmade list StaleKind none stands trace core never = absurd never
  act_unmade list NextKind none stands trace core never = absurd never
  act_unmade list GoneKind none stands trace core never = absurd never

  -- what holds of the answer with its work holds of the answer that is made of both
  pub act_whole : (list : StepWork P1 B1 S L R A1 W E) (came : ActKind) (result : ActAnswer P1 B1 S L R A1 W E) → result ≡ with_work came (ActOn asked) list → ComesOfAct cmp M Stands Can Full worker asked old new (with_work came (ActOn asked) list) → ComesOfAct cmp M Stands Can Full worker asked old new result
  act_whole list came result same comes = subst (λ r. ComesOfAct cmp M Stands Can Full worker asked old new r) (sym same) comes

-- a step whose answer says whether the task goes on was not refused
pub left_kept : {Y : Type 0} (goes_on : Bool) (came : ActKind) → (goes_on ≡ true → came ≡ NextKind) → (goes_on ≡ false → came ≡ GoneKind) → came ≡ MemoryKind → Y
left_kept true came next gone refused = absurd (let z : NextKind ≡ MemoryKind = sym (next refl) ∙ refused in let y : ⊥ = cc in y)
left_kept false came next gone refused = absurd (let z : GoneKind ≡ MemoryKind = sym (gone refl) ∙ refused in let y : ⊥ = cc in y)

module _ {P S E R Ans L P1 B1 A1 W : Type 0} {cmp : E → E → Ordering} {M : Machine S E R Ans L} {Held : Type 0} {IsNext : E → Type 0} {Full : Type 0} {worker : ℕ} {handler : Handler E} {old new : Standing P S E L} where
  -- the board is over, as it was or because the budget is used up
  pub hand_over : IsSome old.over ⊎ (Held × ((e : E) × IsNext e) × Full) → new.trace ≡ old.trace → new.core ≡ old.core → new.parked ≡ old.parked → IsSome new.over → (IsSome old.over → new ≡ old) → ComesOfHand {P = P1} {B = B1} {A = A1} {W = W} cmp M Held IsNext Full worker handler old new Over
  hand_over why trace core parked some before = record {
    order = why;
    stays = λ _. (trace, core, parked);
    step = λ e. absurd (false≢true e);
    gone = refl;
    own = tt;
    over = λ _. some;
    done = λ e. (refl, before e);
    stale = λ e. absurd (false≢true e);
    parked = λ e. absurd (false≢true e);
    memory = (tt, tt);
    refused = λ e. absurd (false≢true e);
  }

  -- there is no such handler
  pub hand_stale : new ≡ old → old.over ≡ None → (Held → ⊥) → ComesOfHand {P = P1} {B = B1} {A = A1} {W = W} cmp M Held IsNext Full worker handler old new Stale
  hand_stale same none never = record {
    order = (none, never);
    stays = λ _. (ap (λ b. b.trace) same, ap (λ b. b.core) same, ap (λ b. b.parked) same);
    step = λ e. absurd (false≢true e);
    gone = refl;
    own = tt;
    over = λ e. absurd (false≢true e);
    done = not_over old.over none;
    stale = λ _. same;
    parked = λ e. absurd (false≢true e);
    memory = (tt, tt);
    refused = λ e. absurd (false≢true e);
  }

  -- nothing comes next for it
  pub hand_drained : new ≡ old → old.over ≡ None → Held → ((e : E) → IsNext e → ⊥) → ComesOfHand {P = P1} {B = B1} {A = A1} {W = W} cmp M Held IsNext Full worker handler old new Parked
  hand_drained same none held never = record {
    order = (none, held, λ z. never z.0 z.1);
    stays = λ _. (ap (λ b. b.trace) same, ap (λ b. b.core) same, ap (λ b. b.parked) same);
    step = λ e. absurd (false≢true e);
    gone = refl;
    own = tt;
    over = λ e. absurd (false≢true e);
    done = not_over old.over none;
    stale = λ e. absurd (false≢true e);
    parked = λ _. same;
    memory = (tt, tt);
    refused = λ e. absurd (false≢true e);
  }

  -- a growth was refused
  pub hand_memory : old.over ≡ None → Held → ((e : E) × IsNext e) → (Full → ⊥) → new ≡ old → ComesOfHand {P = P1} {B = B1} {A = A1} {W = W} cmp M Held IsNext Full worker handler old new (Memory (HandTo handler))
  hand_memory none held next room same = record {
    order = (none, held, λ _. room);
    stays = λ _. (ap (λ b. b.trace) same, ap (λ b. b.core) same, ap (λ b. b.parked) same);
    step = λ e. absurd (false≢true e);
    gone = refl;
    own = tt;
    over = λ e. absurd (false≢true e);
    done = not_over old.over none;
    stale = λ e. absurd (false≢true e);
    parked = λ e. absurd (false≢true e);
    memory = (refl, same);
    refused = λ _. next;
  }

  -- what came next was handed
  pub hand_next : (list : StepWork P1 B1 S L R A1 W E) (event : E) → IsNext event → old.over ≡ None → Held → (Full → ⊥) → new.trace ≡ old.trace ++ entry_of worker (Hand handler event) ∷ [] → IsListed cmp M old (Hand handler event) new (work_of list) → label_at (task_names new.core.table.tasks) list.step ≡ Hand handler event → list.own ≡ None → ComesOfHand {P = P1} {B = B1} {A = A1} {W = W} cmp M Held IsNext Full worker handler old new (Next list)
  hand_next list event next none held room written listed noted own = record {
    order = (none, held, (event, next), room);
    stays = λ e. absurd (true≢false e);
    step = λ _. (event, next, written, listed, noted);
    gone = refl;
    own = own;
    over = λ e. absurd (false≢true e);
    done = not_over old.over none;
    stale = λ e. absurd (false≢true e);
    parked = λ e. absurd (false≢true e);
    memory = (tt, tt);
    refused = λ e. absurd (false≢true e);
  }

  -- nothing was handed
  pub hand_unmade : (list : StepWork P1 B1 S L R A1 W E) (came : ActKind) → ((e : E) → IsNext e → Held) → old.over ≡ None → (new.trace ≡ old.trace) × (new.core ≡ old.core) × (new.parked ≡ old.parked) → ComesOfNoHanding Held IsNext Full old new came → ComesOfHand cmp M Held IsNext Full worker handler old new (with_work came (HandTo handler) list)
  hand_unmade list OverKind held none stays some = hand_over (inr (held some.0.0 some.0.1, some.0, some.1)) stays.0 stays.1 stays.2 some.2 (not_over old.over none)
  hand_unmade list StaleKind held none stays kept = hand_stale kept.1 none kept.0
  hand_unmade list ParkedKind held none stays kept = hand_drained kept.2 none kept.0 kept.1
  hand_unmade list MemoryKind held none stays kept = hand_memory none (held kept.0.0 kept.0.1) kept.0 kept.1 kept.2
  hand_unmade list NextKind held none stays never = absurd never
  hand_unmade list GoneKind held none stays never = absurd never

  -- what holds of the answer with its work holds of the answer that is made of both
  pub hand_whole : (list : StepWork P1 B1 S L R A1 W E) (came : ActKind) (result : ActAnswer P1 B1 S L R A1 W E) → result ≡ with_work came (HandTo handler) list → ComesOfHand cmp M Held IsNext Full worker handler old new (with_work came (HandTo handler) list) → ComesOfHand cmp M Held IsNext Full worker handler old new result
  hand_whole list came result same comes = subst (λ r. ComesOfHand cmp M Held IsNext Full worker handler old new r) (sym same) comes
