-- Work that is added to an agenda.
use Rattle.std.proofs.Common.{◌≡◌, ◌⊎◌, ◌↔◌, inl, inr, true, cond, List, [], ◌∷◌, ◌++◌, Option, Some, None, Ordering, refl, sym, ap, ◌∙◌, subst, Equal, is_eq}
use Rattle.std.proofs.lemmas.Bool.{cases_Bool, both_ways}
use Rattle.std.proofs.lemmas.Option.{none-some}
use Rattle.std.specs.Cmp.{Equal-is}
use Rattle.lvish_names.specs.NameOrder.{name_cmp, handler_cmp}
use Rattle.lvish_names.specs.Names.{Name, Handler}
use Rattle.lvish_board.specs.declared.work.Work.{Work}
use Rattle.lvish_board.specs.declared.work.Work.TheVariants.{Stretch, Act as ActOn, Hand as HandTo}
use Rattle.lvish_board.specs.Stand.{TaskStand}
use Rattle.lvish_board.specs.Listed.{stretches, acts, handings}
use Rattle.lvish_core.specs.laws.Lists.{either_among, among_first, among_last, among_map}
use Rattle.lvish_board.proofs.Among.{of_map}
use Rattle.lvish_calculus.specs.Handing.{IsAmong}
use Rattle.lvish_run.specs.Agenda.{Open, SetsOpenTask, HasHandler, Opens, IsTaskOf, Adds}

module _ {K V : Type 0} (c : K → K → Ordering) (exact : (t u : K) → (c t u ≡ Equal) ↔ (t ≡ u)) (old new : K → V) (t : K) (x : V) (has : (u : K) → new u ≡ cond (is_eq (c t u)) x (old u)) where
  -- where something was written, and elsewhere
  pub written : (u : K) → ((t ≡ u) × (new u ≡ x)) ⊎ ((t ≡ u → ⊥) × (new u ≡ old u))
  written u = elim (cases_Bool (is_eq (c t u))) [
    | inl is ↦ inl ((exact t u).0 ((Equal-is (c t u)).0 is), has u ∙ ap (λ b. cond b x (old u)) is)
    | inr is ↦ inr (λ e. both_ways _ is (ap is_eq ((exact t u).1 e)), has u ∙ ap (λ b. cond b x (old u)) is)
  ]

module _ {L E : Type 0} where
  module _ (cmp : E → E → Ordering) (old new : Open E L) where
    -- a task is opened
    module _ (exact : (t u : Name E) → (name_cmp cmp t u ≡ Equal) ↔ (t ≡ u)) (p : TaskStand E L) (has : SetsOpenTask cmp old p.task (Some p) new) where
      at : (t : Name E) → ((p.task ≡ t) × (new.at t ≡ Some p)) ⊎ ((p.task ≡ t → ⊥) × (new.at t ≡ old.at t))
      at t = written (name_cmp cmp) exact old.at new.at p.task (Some p) has.at t

      pub opens_task : Opens (p ∷ []) [] old new
      opens_task = record {
        from = λ t q e. elim (at t) [
          | inl z ↦
              let both : Some p ≡ Some q = sym z.1 ∙ e in
              let same : p ≡ q = cc in
              inr (ap (λ r. r.task) (sym same) ∙ z.0, inl (sym same))
          | inr z ↦ inl (sym z.1 ∙ e)
        ];
        kept = λ t none. elim (at t) [
          | inl z ↦ absurd (let no : None ≡ Some p = sym none ∙ z.1 in let n : ⊥ = cc in n)
          | inr z ↦ (sym z.1 ∙ none, λ q i e. elim i [ inl same ↦ z.0 (ap (λ r. r.task) (sym same) ∙ e) | inr n ↦ n ])
        ];
        hands = λ h none. (ap (λ f. f h) (sym has.has) ∙ none, λ z. z);
      }

    -- a handler is opened
    pub opens_handler : ((h k : Handler E) → (handler_cmp cmp h k ≡ Equal) ↔ (h ≡ k)) → (h : Handler E) → HasHandler cmp old h true new → Opens [] (h ∷ []) old new
    opens_handler exact h has = record {
      from = λ t p e. inl (ap (λ f. f t) (sym has.at) ∙ e);
      kept = λ t none. (ap (λ f. f t) (sym has.at) ∙ none, λ q i e. i);
      hands = λ k none. elim (written (handler_cmp cmp) exact old.has new.has h true has.has k) [
        | inl z ↦ absurd (both_ways _ none z.1)
        | inr z ↦ (sym z.1 ∙ none, λ i. elim i [ inl e ↦ z.0 (sym e) | inr n ↦ n ])
      ];
    }

  pub opens_none : (a : Open E L) → Opens [] [] a a
  opens_none a = record {
    from = λ t p e. inl e;
    kept = λ t none. (none, λ q i e. i);
    hands = λ h none. (none, λ z. z);
  }

  -- some are opened, and then more
  module _ (ps qs : List (TaskStand E L)) (hs ks : List (Handler E)) (a b c : Open E L) where
    pub opens_more : Opens ps hs a b → Opens qs ks b c → Opens (ps ++ qs) (hs ++ ks) a c
    opens_more one others = record {
      from = λ t p e. elim (others.from t p e) [
        | inl was ↦ elim (one.from t p was) [ inl before ↦ inl before | inr z ↦ inr (z.0, among_first p ps qs z.1) ]
        | inr z ↦ inr (z.0, among_last p ps qs z.1)
      ];
      kept = λ t none.
          let z = others.kept t none in
          let y = one.kept t z.0 in
          (y.0, λ p i e. elim (either_among p ps qs i) [ inl j ↦ y.1 p j e | inr j ↦ z.1 p j e ]);
      hands = λ h none.
          let z = others.hands h none in
          let y = one.hands h z.0 in
          (y.0, λ i. elim (either_among h hs ks i) [ inl j ↦ y.1 j | inr j ↦ z.1 j ]);
    }

module _ {P B S L R A W E : Type 0} where
  -- the task of a piece of work
  abbrev pub stand_in : Work P B S L R A W E → Option (TaskStand E L)
  stand_in (Stretch p) = Some p
  stand_in (ActOn p) = Some p
  stand_in (HandTo h) = None

  -- the handler of a piece of work
  abbrev handler_in : Work P B S L R A W E → Option (Handler E)
  handler_in (HandTo h) = Some h
  handler_in w = None

  pub task_of_one : (w : Work P B S L R A W E) (p : TaskStand E L) → IsTaskOf (w ∷ []) p → stand_in w ≡ Some p
  task_of_one w p (inl (inl e)) = ap stand_in (sym e)
  task_of_one w p (inl (inr z)) = absurd z
  task_of_one w p (inr (inl e)) = ap stand_in (sym e)
  task_of_one w p (inr (inr z)) = absurd z

  -- work whose tasks and handlers were opened was added
  pub adds_opened : (ws : List (Work P B S L R A W E)) (ps : List (TaskStand E L)) (hs : List (Handler E)) (a b : Open E L) → Opens ps hs a b → ((p : TaskStand E L) → IsAmong p ps → IsTaskOf ws p) → ((p : TaskStand E L) → IsTaskOf ws p → IsAmong p ps) → ((h : Handler E) → IsAmong (HandTo h) ws → IsAmong h hs) → Adds ws a b
  adds_opened ws ps hs a b opens listed task_of handler_of = record {
    from = λ t p e. elim (opens.from t p e) [ inl was ↦ inl was | inr z ↦ inr (z.0, listed p z.1) ];
    kept = λ t none. let z = opens.kept t none in (z.0, λ p i e. z.1 p (task_of p i) e);
    hands = λ h none. let z = opens.hands h none in (z.0, λ i. z.1 (handler_of h i));
  }

  module _ (cmp : E → E → Ordering) (old new : Open E L) (w : Work P B S L R A W E) where
    -- the work of a task
    pub adds_task : ((t u : Name E) → (name_cmp cmp t u ≡ Equal) ↔ (t ≡ u)) → (p : TaskStand E L) → SetsOpenTask cmp old p.task (Some p) new → stand_in w ≡ Some p → IsTaskOf (w ∷ []) p → Adds (w ∷ []) old new
    adds_task exact p has is own = adds_opened (w ∷ []) (p ∷ []) [] old new (opens_task cmp old new exact p has)
        (λ q i. elim i [ inl same ↦ subst (λ r. IsTaskOf (w ∷ []) r) (sym same) own | inr n ↦ absurd n ])
        (λ q i. let both : Some p ≡ Some q = sym is ∙ task_of_one w q i in let same : q ≡ p = cc in inl same)
        (λ h i. elim i [ inl e ↦ let no : None ≡ Some p = ap stand_in e ∙ is in absurd (let n : ⊥ = cc in n) | inr n ↦ n ])

    -- the work of a handler
    pub adds_handler : ((h k : Handler E) → (handler_cmp cmp h k ≡ Equal) ↔ (h ≡ k)) → (h : Handler E) → HasHandler cmp old h true new → w ≡ HandTo h → Adds (w ∷ []) old new
    adds_handler exact h has is = adds_opened (w ∷ []) [] (h ∷ []) old new (opens_handler cmp old new exact h has)
        (λ q i. absurd i)
        (λ q i. absurd (let no : None ≡ Some q = ap stand_in (sym is) ∙ task_of_one w q i in let n : ⊥ = cc in n))
        (λ k i. elim i [ inl e ↦ let both : Some k ≡ Some h = ap handler_in (e ∙ is) in let same : k ≡ h = cc in inl same | inr n ↦ absurd n ])

-- the work of a list
module _ {P B S L R A W E : Type 0} (ws : List (Work P B S L R A W E)) (ts woken : List (TaskStand E L)) (hs : List (Handler E)) (is : ws ≡ stretches ts ++ acts woken ++ handings hs) where
  parts : (w : Work P B S L R A W E) → IsAmong w ws → IsAmong w (stretches ts) ⊎ (IsAmong w (acts woken) ⊎ IsAmong w (handings hs))
  parts w i = elim (either_among w (stretches ts ++ acts woken) (handings hs) (subst (λ us. IsAmong w us) is i)) [
    | inr j ↦ inr (inr j)
    | inl j ↦ elim (either_among w (stretches ts) (acts woken) j) [ inl k ↦ inl k | inr k ↦ inr (inl k) ]
  ]

  of_work : (w : Work P B S L R A W E) (p : TaskStand E L) → stand_in w ≡ Some p → IsAmong w ws → IsAmong p ts ⊎ IsAmong p woken
  of_work w p at i = elim (parts w i) [
    | inl j ↦ let z = of_map {Y = Work P B S L R A W E} (λ q. Stretch q) w ts j in inl (subst (λ q. IsAmong q ts) (same z.0 (ap stand_in z.2 ∙ at)) z.1)
    | inr (inl j) ↦ let z = of_map {Y = Work P B S L R A W E} (λ q. ActOn q) w woken j in inr (subst (λ q. IsAmong q woken) (same z.0 (ap stand_in z.2 ∙ at)) z.1)
    | inr (inr j) ↦ let z = of_map {Y = Work P B S L R A W E} (λ h. HandTo h) w hs j in absurd (none-some p (ap stand_in z.2 ∙ at))
  ]
    where
      same : (q : TaskStand E L) → Some q ≡ Some p → q ≡ p
      same q e = cc

  pub task_from : (p : TaskStand E L) → IsTaskOf ws p → IsAmong p ts ⊎ IsAmong p woken
  task_from p (inl i) = of_work (Stretch p) p refl i
  task_from p (inr i) = of_work (ActOn p) p refl i

  listed : (w : Work P B S L R A W E) → IsAmong w (stretches ts) ⊎ (IsAmong w (acts woken) ⊎ IsAmong w (handings hs)) → IsAmong w ws
  listed w i = subst (λ us. IsAmong w us) (sym is) (elim i [
    | inl j ↦ among_first w (stretches ts ++ acts woken) (handings hs) (among_first w (stretches ts) (acts woken) j)
    | inr (inl j) ↦ among_first w (stretches ts ++ acts woken) (handings hs) (among_last w (stretches ts) (acts woken) j)
    | inr (inr j) ↦ among_last w (stretches ts ++ acts woken) (handings hs) j
  ])

  pub ticket_listed : (p : TaskStand E L) → IsAmong p ts → IsTaskOf ws p
  ticket_listed p i = inl (listed (Stretch p) (inl (among_map {Y = Work P B S L R A W E} (λ q. Stretch q) p ts i)))

  pub woken_listed : (p : TaskStand E L) → IsAmong p woken → IsTaskOf ws p
  woken_listed p i = inr (listed (ActOn p) (inr (inl (among_map {Y = Work P B S L R A W E} (λ q. ActOn q) p woken i))))

  pub handler_listed : (h : Handler E) → IsAmong h hs → IsAmong (HandTo h) ws
  handler_listed h i = listed (HandTo h) (inr (inr (among_map {Y = Work P B S L R A W E} (λ k. HandTo k) h hs i)))

  handler_from : (h : Handler E) → IsAmong (HandTo h) ws → IsAmong h hs
  handler_from h i = elim (parts (HandTo h) i) [
    | inl j ↦ let z = of_map {Y = Work P B S L R A W E} (λ q. Stretch q) (HandTo h) ts j in absurd (none-some z.0 (sym (ap stand_in z.2)))
    | inr (inl j) ↦ let z = of_map {Y = Work P B S L R A W E} (λ q. ActOn q) (HandTo h) woken j in absurd (none-some z.0 (sym (ap stand_in z.2)))
    | inr (inr j) ↦ let z = of_map {Y = Work P B S L R A W E} (λ k. HandTo k) (HandTo h) hs j in subst (λ k. IsAmong k hs) (same z.0 (ap handler_in z.2)) z.1
  ]
    where
      same : (k : Handler E) → Some k ≡ Some h → k ≡ h
      same k e = cc

  -- what its tasks and handlers open, the list adds
  pub adds_listed : (a b : Open E L) → Opens (ts ++ woken) hs a b → Adds ws a b
  adds_listed a b opens = adds_opened ws (ts ++ woken) hs a b opens (λ p i. elim (either_among p ts woken i) [ inl j ↦ ticket_listed p j | inr j ↦ woken_listed p j ]) (λ p i. elim (task_from p i) [ inl j ↦ among_first p ts woken j | inr j ↦ among_last p ts woken j ]) handler_from
