-- An agenda whose first task stands before the others.
use Rattle.std.proofs.Common.{◌≡◌, ◌<◌, ◌⊎◌, ◌↔◌, inl, inr, Bool, true, false, cond, length, List, [], ◌∷◌, ◌++◌, Option, Some, None, IsSome, Ordering, Less, Equal, Greater, refl, sym, ap, ◌∙◌, subst, is_eq, is_gt, is_some, arith, MatchOption, Result, Ok, Err, IfOk, IfErr}
use Rattle.std.proofs.lemmas.Bool.{cases_Bool, both_ways, false≢true}
use Rattle.std.specs.Cmp.{IsTotalOrder, Equal-is}
use Rattle.std.specs.Ordering.{ordering_reverse}
use Rattle.std.specs.Map.{lookup}
use Rattle.std.specs.BTreeMap.{is_at}
use Rattle.lvish_names.specs.NameOrder.{name_cmp}
use Rattle.lvish_names.specs.Names.{Name, Handler}
use Rattle.lvish_board.specs.Stand.{TaskStand}
use Rattle.lvish_run.specs.Agenda.{Agenda, Open, open_in, entry_of, SetsOpenTask, IsTaskGone, PutsAt, IsBelow, IsFirstOf}

module _ {E : Type 0} (cmp : E → E → Ordering) (total : IsTotalOrder (name_cmp cmp)) (exact : (t u : Name E) → (name_cmp cmp t u ≡ Equal) ↔ (t ≡ u)) where
  -- a name is at itself
  itself : (t u : Name E) → t ≡ u → is_eq (name_cmp cmp t u) ≡ true
  itself t u e = ap is_eq ((exact t u).1 e)

  -- and at no other
  other : (t u : Name E) → (t ≡ u → ⊥) → is_eq (name_cmp cmp t u) ≡ false
  other t u ne = elim (cases_Bool (is_eq (name_cmp cmp t u))) [ inl is ↦ absurd (ne ((exact t u).0 ((Equal-is (name_cmp cmp t u)).0 is))) | inr is ↦ is ]

  -- two names are the same or not
  same_or : (t u : Name E) → (t ≡ u) ⊎ (t ≡ u → ⊥)
  same_or t u = elim (cases_Bool (is_eq (name_cmp cmp t u))) [
    | inl is ↦ inl ((exact t u).0 ((Equal-is (name_cmp cmp t u)).0 is))
    | inr is ↦ inr (λ e. both_ways _ is (itself t u e))
  ]

  -- what is below isn't the same
  less_other : (t u : Name E) → name_cmp cmp t u ≡ Less → t ≡ u → ⊥
  less_other t u less e = let same : Less ≡ Equal = sym less ∙ (exact t u).1 e in let n : ⊥ = cc in n

  -- what is above is seen from below
  pub turned : (s t : Name E) → name_cmp cmp s t ≡ Greater → name_cmp cmp t s ≡ Less
  turned s t e = total.antisymm t s ∙ ap ordering_reverse e

  -- nor is what is above
  pub greater_other : (t u : Name E) → name_cmp cmp t u ≡ Greater → t ≡ u → ⊥
  greater_other t u greater e = let same : Greater ≡ Equal = sym greater ∙ (exact t u).1 e in let n : ⊥ = cc in n

  -- a comparison of two names, told of equal ones
  pub compared : (o r : Ordering) (s u t v : Name E) → o ≡ name_cmp cmp s u → s ≡ t → u ≡ v → o ≡ r → name_cmp cmp t v ≡ r
  compared o r s u t v e one two is = subst (λ x. name_cmp cmp x v ≡ r) one (subst (λ y. name_cmp cmp s y ≡ r) two (sym e ∙ is))

  -- names that compare as equal are the same
  pub equal_from : (t u : Name E) (b : Bool) → b ≡ true → (o : Ordering) → b ≡ is_eq o → name_cmp cmp t u ≡ o → t ≡ u
  equal_from t u b holds o is at = (exact t u).0 (at ∙ (Equal-is o).0 (sym is ∙ holds))

  -- and names that don't, are not
  pub other_from : (t u : Name E) (b : Bool) → b ≡ false → (o : Ordering) → b ≡ is_eq o → name_cmp cmp t u ≡ o → t ≡ u → ⊥
  other_from t u b isnt o is at e = both_ways _ (sym is ∙ isnt) (ap is_eq (sym at ∙ (exact t u).1 e))

  module _ {L : Type 0} where
    -- what stands at a name
    abbrev at : List (Name E × TaskStand E L) → Name E → Option (TaskStand E L)
    at es t = lookup (is_at (name_cmp cmp t)) es

    -- what is open with these tasks and handlers
    abbrev of : List (Name E × TaskStand E L) → List (Handler E) → Open E L
    of es hs = open_in cmp (record { tasks = es; handlers = hs })

    -- where a task stands alone in front
    in_front : (p : TaskStand E L) (es : List (Name E × TaskStand E L)) (u : Name E) → p.task ≡ u → at ((p.task, p) ∷ es) u ≡ Some p
    in_front p es u e = ap (λ b. cond b (Some p) (at es u)) (itself u p.task (sym e))

    -- elsewhere the others are seen
    behind : (p : TaskStand E L) (es : List (Name E × TaskStand E L)) (u : Name E) → (p.task ≡ u → ⊥) → at ((p.task, p) ∷ es) u ≡ at es u
    behind p es u ne = ap (λ b. cond b (Some p) (at es u)) (other u p.task (λ e. ne (sym e)))

    -- where something is set, it stands
    set_there : (x a : Option (TaskStand E L)) (t u : Name E) → t ≡ u → cond (is_eq (name_cmp cmp t u)) x a ≡ x
    set_there x a t u e = ap (λ b. cond b x a) (itself t u e)

    -- and elsewhere what was
    set_not : (x a : Option (TaskStand E L)) (t u : Name E) → (t ≡ u → ⊥) → cond (is_eq (name_cmp cmp t u)) x a ≡ a
    set_not x a t u ne = ap (λ b. cond b x a) (other t u ne)

    -- below all others, a name isn't among them
    absent : (t : Name E) (es : List (Name E × TaskStand E L)) → IsBelow cmp t es → at es t ≡ None
    absent t es below = by (at es t) refl
      where
        by : (o : Option (TaskStand E L)) → at es t ≡ o → at es t ≡ None
        by None e = e
        by (Some q) e = absurd (less_other t t (below t (ap is_some e)) refl)

    first_without : (p : TaskStand E L) (es : List (Name E × TaskStand E L)) (hs : List (Handler E)) → IsBelow cmp p.task es → SetsOpenTask cmp (of ((p.task, p) ∷ es) hs) p.task None (of es hs)
    first_without p es hs below = record {
      at = λ u. elim (same_or p.task u) [
        | inl e ↦ subst (λ v. at es v ≡ None) e (absent p.task es below) ∙ sym (set_there None (at ((p.task, p) ∷ es) u) p.task u e)
        | inr ne ↦ sym (behind p es u ne) ∙ sym (set_not None (at ((p.task, p) ∷ es) u) p.task u ne)
      ];
      has = refl;
    }

    -- the first task is taken
    pub first_gone : (p : TaskStand E L) (es : List (Name E × TaskStand E L)) (hs : List (Handler E)) → IsBelow cmp p.task es → IsTaskGone cmp (of ((p.task, p) ∷ es) hs) p (of es hs)
    first_gone p es hs below = record {
      task = p.task;
      was = in_front p es p.task refl;
      first = λ u there. elim (same_or p.task u) [
        | inl e ↦ ap is_gt ((exact p.task u).1 e)
        | inr ne ↦ ap is_gt (below u (subst IsSome (behind p es u ne) there))
      ];
      without = first_without p es hs below;
      fewer = omega arith;
    }

    -- a task stands in front, and the others are as before but where its name is
    pub put_first : (p : TaskStand E L) (old es : List (Name E × TaskStand E L)) (hs : List (Handler E)) → ((u : Name E) → (p.task ≡ u → ⊥) → at es u ≡ at old u) → SetsOpenTask cmp (of old hs) p.task (Some p) (of ((p.task, p) ∷ es) hs)
    put_first p old es hs others = record {
      at = λ u. elim (same_or p.task u) [
        | inl e ↦ in_front p es u e ∙ sym (set_there (Some p) (at old u) p.task u e)
        | inr ne ↦ behind p es u ne ∙ others u ne ∙ sym (set_not (Some p) (at old u) p.task u ne)
      ];
      has = refl;
    }

    -- the task in front steps back among the others
    pub put_before : (p q : TaskStand E L) (es new : List (Name E × TaskStand E L)) (hs : List (Handler E)) → PutsAt cmp es q.task (Some q) new → SetsOpenTask cmp (of ((q.task, q) ∷ es) hs) p.task (Some p) (of ((p.task, p) ∷ new) hs)
    put_before p q es new hs puts = put_first p ((q.task, q) ∷ es) new hs (λ u ne. elim (same_or q.task u) [
      | inl e ↦ puts u ∙ set_there (Some q) (at es u) q.task u e ∙ sym (in_front q es u e)
      | inr far ↦ puts u ∙ set_not (Some q) (at es u) q.task u far ∙ sym (behind q es u far)
    ])

    -- the task in front is replaced
    pub put_again : (p q : TaskStand E L) (es : List (Name E × TaskStand E L)) (hs : List (Handler E)) → p.task ≡ q.task → SetsOpenTask cmp (of ((q.task, q) ∷ es) hs) p.task (Some p) (of ((p.task, p) ∷ es) hs)
    put_again p q es hs same = put_first p ((q.task, q) ∷ es) es hs (λ u ne. sym (behind q es u (λ e. ne (same ∙ e))))

    -- something changes among the others
    pub put_behind : (p : TaskStand E L) (t : Name E) (x : Option (TaskStand E L)) (es new : List (Name E × TaskStand E L)) (hs : List (Handler E)) → (p.task ≡ t → ⊥) → PutsAt cmp es t x new → SetsOpenTask cmp (of ((p.task, p) ∷ es) hs) t x (of ((p.task, p) ∷ new) hs)
    put_behind p t x es new hs apart puts = record {
      at = λ u. elim (same_or p.task u) [
        | inl e ↦ in_front p new u e ∙ sym (in_front p es u e) ∙ sym (set_not x (at ((p.task, p) ∷ es) u) t u (λ is. apart (e ∙ sym is)))
        | inr ne ↦ behind p new u ne ∙ puts u ∙ ap (λ a. cond (is_eq (name_cmp cmp t u)) x a) (sym (behind p es u ne))
      ];
      has = refl;
    }

    -- a name stays below the others where what is put among them is above it
    pub below_put : (s t : Name E) (p : TaskStand E L) (es new : List (Name E × TaskStand E L)) → IsBelow cmp s es → name_cmp cmp s t ≡ Less → PutsAt cmp es t (Some p) new → IsBelow cmp s new
    below_put s t p es new below less puts u there = elim (same_or t u) [
      | inl e ↦ subst (λ v. name_cmp cmp s v ≡ Less) e less
      | inr ne ↦ below u (subst IsSome (puts u ∙ set_not (Some p) (at es u) t u ne) there)
    ]

    -- and where one of them is taken out
    pub below_taken : (s t : Name E) (es new : List (Name E × TaskStand E L)) → IsBelow cmp s es → PutsAt cmp es t None new → IsBelow cmp s new
    below_taken s t es new below puts u there = elim (same_or t u) [
      | inl e ↦ absurd (false≢true (subst IsSome (puts u ∙ set_there None (at es u) t u e) there))
      | inr ne ↦ below u (subst IsSome (puts u ∙ set_not None (at es u) t u ne) there)
    ]

    -- what is below a name is below all that this is below
    pub below_lower : (s t : Name E) (es : List (Name E × TaskStand E L)) → name_cmp cmp s t ≡ Less → IsBelow cmp t es → IsBelow cmp s es
    below_lower s t es less below u there = total.trans s t u less (below u there)

    -- a name that is below the least of the others is below them all
    pub below_least : (s t : Name E) (es : List (Name E × TaskStand E L)) → name_cmp cmp s t ≡ Less → ((u : Name E) → IsSome (at es u) → is_gt (name_cmp cmp t u) ≡ false) → IsBelow cmp s es
    below_least s t es less least u there = by (name_cmp cmp t u) refl
      where
        by : (o : Ordering) → name_cmp cmp t u ≡ o → name_cmp cmp s u ≡ Less
        by Less e = total.trans s t u less e
        by Equal e = subst (λ v. name_cmp cmp s v ≡ Less) ((exact t u).0 e) less
        by Greater e = absurd (false≢true (sym (least u there) ∙ ap is_gt e))

    -- any name is below none
    pub below_none : (s : Name E) (es : List (Name E × TaskStand E L)) → (0 < length es → ⊥) → IsBelow cmp s es
    below_none s [] none u there = absurd (false≢true there)
    below_none s (e ∷ es) none u there = absurd (none (omega arith))

    -- ---- what an agenda's calls leave, from its fields: the task in front, if any, the others and the handlers

    -- what contracts see of an agenda with these fields
    abbrev seen : Option (TaskStand E L) → List (Name E × TaskStand E L) → List (Handler E) → Agenda E L
    seen first es hs = record { tasks = entry_of first ++ es; handlers = hs }

    module _ (a : Agenda E L) (first : Option (TaskStand E L)) (es : List (Name E × TaskStand E L)) (hs : List (Handler E)) (is : a ≡ seen first es hs) where
      -- the task in front is taken
      pub popped_first : (r n : Option (TaskStand E L)) → IsFirstOf cmp first es → is_some first ≡ true → r ≡ first → n ≡ None → (X : Type 0) → MatchOption r X (λ p. IsTaskGone cmp (open_in cmp a) p (open_in cmp (seen n es hs)))
      popped_first r n below some e none X = subst (λ b. MatchOption r X (λ p. IsTaskGone cmp (open_in cmp b) p (open_in cmp (seen n es hs)))) (sym is) (subst (λ m. MatchOption r X (λ p. IsTaskGone cmp (open_in cmp (seen first es hs)) p (open_in cmp (seen m es hs)))) (sym none) (subst (λ o. MatchOption o X (λ p. IsTaskGone cmp (open_in cmp (seen first es hs)) p (of es hs))) (sym e) (by first below some)))
        where
          by : (f : Option (TaskStand E L)) → IsFirstOf cmp f es → is_some f ≡ true → MatchOption f X (λ p. IsTaskGone cmp (open_in cmp (seen f es hs)) p (of es hs))
          by None below some = absurd (false≢true some)
          by (Some p) below some = first_gone p es hs below

      -- none is in front, and the first of the others is taken
      pub popped_other : (k : Name E) (p : TaskStand E L) (new : List (Name E × TaskStand E L)) → is_some first ≡ false → at es k ≡ Some p → ((u : Name E) → IsSome (at es u) → is_gt (name_cmp cmp k u) ≡ false) → PutsAt cmp es k None new → es ≡ (k, p) ∷ new → IsTaskGone cmp (open_in cmp a) p (open_in cmp (seen first new hs))
      popped_other k p new none was least puts left = subst (λ b. IsTaskGone cmp (open_in cmp b) p (open_in cmp (seen first new hs))) (sym is) (by first none)
        where
          by : (f : Option (TaskStand E L)) → is_some f ≡ false → IsTaskGone cmp (open_in cmp (seen f es hs)) p (open_in cmp (seen f new hs))
          by (Some q) none = absurd (false≢true (sym none))
          by None none = let long = ap length left in record { task = k; was = was; first = least; without = record { at = puts; has = refl }; fewer = omega (arith, long) }

      -- the task in front has the name that is taken
      pub taken_first : (p : TaskStand E L) (t : Name E) (r n : Option (TaskStand E L)) → IsFirstOf cmp first es → first ≡ Some p → p.task ≡ t → r ≡ first → n ≡ None → (r ≡ (open_in cmp a).at t) × SetsOpenTask cmp (open_in cmp a) t None (open_in cmp (seen n es hs))
      taken_first p t r n below f there e none =
          let without = first_without p es hs (subst (λ o. IsFirstOf cmp o es) f below) in
          subst (λ b. (r ≡ (open_in cmp b).at t) × SetsOpenTask cmp (open_in cmp b) t None (open_in cmp (seen n es hs))) (sym (is ∙ ap (λ o. seen o es hs) f)) (
            e ∙ f ∙ sym (in_front p es t there),
            subst (λ m. SetsOpenTask cmp (of ((p.task, p) ∷ es) hs) t None (open_in cmp (seen m es hs))) (sym none) (subst (λ u. SetsOpenTask cmp (of ((p.task, p) ∷ es) hs) u None (of es hs)) there without),
          )

      -- it doesn't, or there is none
      pub taken_other : (t : Name E) (r : Option (TaskStand E L)) (new : List (Name E × TaskStand E L)) → ((p : TaskStand E L) → first ≡ Some p → p.task ≡ t → ⊥) → r ≡ at es t → PutsAt cmp es t None new → (r ≡ (open_in cmp a).at t) × SetsOpenTask cmp (open_in cmp a) t None (open_in cmp (seen first new hs))
      taken_other t r new apart e puts = subst (λ b. (r ≡ (open_in cmp b).at t) × SetsOpenTask cmp (open_in cmp b) t None (open_in cmp (seen first new hs))) (sym is) (by first apart)
        where
          by : (f : Option (TaskStand E L)) → ((p : TaskStand E L) → f ≡ Some p → p.task ≡ t → ⊥) → (r ≡ (open_in cmp (seen f es hs)).at t) × SetsOpenTask cmp (open_in cmp (seen f es hs)) t None (open_in cmp (seen f new hs))
          by None apart = (e, record { at = puts; has = refl })
          by (Some p) apart = (e ∙ sym (behind p es t (apart p refl)), put_behind p t None es new hs (apart p refl) puts)

      -- a task is put in front, where none was
      pub opened_alone : (p : TaskStand E L) → first ≡ None → SetsOpenTask cmp (open_in cmp a) p.task (Some p) (open_in cmp (seen (Some p) es hs))
      opened_alone p none = subst (λ b. SetsOpenTask cmp (open_in cmp b) p.task (Some p) (of ((p.task, p) ∷ es) hs)) (sym (is ∙ ap (λ o. seen o es hs) none)) (put_first p es es hs (λ u ne. refl))

      -- a task is put among the others, where none of its name is in front
      pub opened_other : (p : TaskStand E L) (new : List (Name E × TaskStand E L)) → ((q : TaskStand E L) → first ≡ Some q → q.task ≡ p.task → ⊥) → PutsAt cmp es p.task (Some p) new → SetsOpenTask cmp (open_in cmp a) p.task (Some p) (open_in cmp (seen first new hs))
      opened_other p new apart puts = subst (λ b. SetsOpenTask cmp (open_in cmp b) p.task (Some p) (open_in cmp (seen first new hs))) (sym is) (by first apart)
        where
          by : (f : Option (TaskStand E L)) → ((q : TaskStand E L) → f ≡ Some q → q.task ≡ p.task → ⊥) → SetsOpenTask cmp (open_in cmp (seen f es hs)) p.task (Some p) (open_in cmp (seen f new hs))
          by None apart = record { at = puts; has = refl }
          by (Some q) apart = put_behind q p.task (Some p) es new hs (apart q refl) puts

      -- a task is put in front, and the one there among the others
      pub opened_before : (p q : TaskStand E L) (new : List (Name E × TaskStand E L)) → first ≡ Some q → PutsAt cmp es q.task (Some q) new → SetsOpenTask cmp (open_in cmp a) p.task (Some p) (open_in cmp (seen (Some p) new hs))
      opened_before p q new f puts = subst (λ b. SetsOpenTask cmp (open_in cmp b) p.task (Some p) (of ((p.task, p) ∷ new) hs)) (sym (is ∙ ap (λ o. seen o es hs) f)) (put_before p q es new hs puts)

      -- the same, told of what stands in front after it
      pub opened_front : (p q : TaskStand E L) (n : Option (TaskStand E L)) (new : List (Name E × TaskStand E L)) → first ≡ Some q → n ≡ Some p → PutsAt cmp es q.task (Some q) new → SetsOpenTask cmp (open_in cmp a) p.task (Some p) (open_in cmp (seen n new hs))
      opened_front p q n new f front puts = subst (λ o. SetsOpenTask cmp (open_in cmp a) p.task (Some p) (open_in cmp (seen o new hs))) (sym front) (opened_before p q new f puts)

      -- the task in front is replaced
      pub opened_again : (p q : TaskStand E L) → first ≡ Some q → p.task ≡ q.task → SetsOpenTask cmp (open_in cmp a) p.task (Some p) (open_in cmp (seen (Some p) es hs))
      opened_again p q f same = subst (λ b. SetsOpenTask cmp (open_in cmp b) p.task (Some p) (of ((p.task, p) ∷ es) hs)) (sym (is ∙ ap (λ o. seen o es hs) f)) (put_again p q es hs same)

    -- ---- that a task in front stays below the others

    -- after a growth that may have been refused
    put_or : {A B : Type 0} (r : Result A B) (es new : List (Name E × TaskStand E L)) (t : Name E) (x : Option (TaskStand E L)) → IfOk r (λ _. PutsAt cmp es t x new) → IfErr r (λ _. new ≡ es) → PutsAt cmp es t x new ⊎ (new ≡ es)
    put_or (Ok _) es new t x ok err = inl ok
    put_or (Err _) es new t x ok err = inr err

    -- whether or not the growth was refused
    below_still : {A B : Type 0} (r : Result A B) (s t : Name E) (p : TaskStand E L) (es new : List (Name E × TaskStand E L)) → IsBelow cmp s es → name_cmp cmp s t ≡ Less → IfOk r (λ _. PutsAt cmp es t (Some p) new) → IfErr r (λ _. new ≡ es) → IsBelow cmp s new
    below_still r s t p es new below less ok err = elim (put_or r es new t (Some p) ok err) [
      | inl puts ↦ below_put s t p es new below less puts
      | inr same ↦ subst (λ xs. IsBelow cmp s xs) (sym same) below
    ]

    module _ (first : Option (TaskStand E L)) (es : List (Name E × TaskStand E L)) (below : IsFirstOf cmp first es) (p f : TaskStand E L) (there : first ≡ Some f) where
      -- what is in front is below the others
      below_there : IsBelow cmp f.task es
      below_there = subst (λ o. IsFirstOf cmp o es) there below

      -- a task comes in front of the one there
      pub stands_before : {A B : Type 0} (r : Result A B) (n : Option (TaskStand E L)) (q : TaskStand E L) (new : List (Name E × TaskStand E L)) → first ≡ Some q → name_cmp cmp p.task f.task ≡ Less → n ≡ Some p → IfOk r (λ _. PutsAt cmp es q.task (Some q) new) → IfErr r (λ _. new ≡ es) → IsFirstOf cmp n new
      stands_before r n q new that less front ok err =
          let both : Some f ≡ Some q = sym there ∙ that in
          let same : f ≡ q = cc in
          let lower : name_cmp cmp p.task q.task ≡ Less = subst (λ x. name_cmp cmp p.task x.task ≡ Less) same less in
          subst (λ o. IsFirstOf cmp o new) (sym front) (below_still r p.task q.task q es new (below_lower p.task f.task es less below_there) lower ok err)

      -- a task replaces it
      pub stands_again : p.task ≡ f.task → IsBelow cmp p.task es
      stands_again same = subst (λ t. IsBelow cmp t es) (sym same) below_there

      -- a task comes behind it
      pub stands_still : {A B : Type 0} (r : Result A B) (new : List (Name E × TaskStand E L)) → name_cmp cmp p.task f.task ≡ Greater → IfOk r (λ _. PutsAt cmp es p.task (Some p) new) → IfErr r (λ _. new ≡ es) → IsFirstOf cmp first new
      stands_still r new above ok err = subst (λ o. IsFirstOf cmp o new) (sym there) (below_still r f.task p.task p es new below_there (turned p.task f.task above) ok err)
