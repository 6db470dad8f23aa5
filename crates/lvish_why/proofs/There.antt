-- What is told of the code's run holds of the script's.
use Rattle.std.proofs.Common.{◌≡◌, ◌↔◌, ◌<◌, inl, inr, ℕ, zero, suc, Bool, List, [], ◌∷◌, ◌++◌, length, Option, Some, None, is_some, MatchOption, refl, sym, ap, ◌∙◌, subst, arith, Ordering, option_map, option_and_then}
use Rattle.std.proofs.lemmas.Bool.{false≢true}
use Rattle.std.proofs.lemmas.Option.{none-some, slice_get_within}
use Rattle.std.specs.List.{slice_get}
use Rattle.lvish_compound.specs.declared.event.Event.{Event}
use Rattle.lvish_calculus.specs.declared.label.Label.{Label}
use Rattle.lvish_calculus.specs.declared.label.Label.TheVariants.{Act}
use Rattle.lvish_calculus.specs.Machine.{IsBelow}
use Rattle.lvish_calculus.specs.Program.{Functions, machine_of}
use Rattle.lvish_calculus.specs.Handing.{IsAmong, Introduces}
use Rattle.lvish_calculus.specs.SameRuns.{HaveSameRuns}
use Rattle.lvish_calculus.proofs.SameThere.{Base, over, flip_runs, core_there, reached}
use Rattle.lvish_names.specs.Names.{Name}
use Rattle.lvish_variable.specs.Variable.{VariableView as Variable}
use Rattle.lvish_syntax.specs.declared.kind.VariableKind.{VariableKind}
use Rattle.lvish_syntax.specs.declared.script.Script.{Script}
use Rattle.lvish_code.specs.Compile.{variable_kinds}
use Rattle.lvish_retrace.specs.declared.bringer.Bringer.{Bringer}
use Rattle.lvish_retrace.specs.Brought.{AreBringers, IsPutOf}
use Rattle.lvish_retrace.specs.Walk.{IsCoreRun}
use Rattle.lvish_why.specs.declared.question.Question.{Question}
use Rattle.lvish_why.specs.Why.{event_of, kind_at, IsIntroduced, IsNamed, IsThere}

-- what stands at a place is an element
among_at : {X : Type 0} (xs : List X) (k : ℕ) (x : X) → slice_get xs k ≡ Some x → IsAmong x xs
among_at [] k x at = absurd (none-some x at)
among_at (y ∷ xs) zero x at = inl cc
among_at (y ∷ xs) (suc k) x at = inr (among_at xs k x at)

-- there is something at each place of a list
there_at : {X : Type 0} (xs : List X) (k : ℕ) → k < length xs → (x : X) × (slice_get xs k ≡ Some x)
there_at [] k less = absurd (omega (arith, less))
there_at (x ∷ xs) zero less = (x, refl)
there_at (x ∷ xs) (suc k) less = there_at xs k (omega (arith, less))

same_event : {X : Type 0} {x y : X} → Some x ≡ Some y → x ≡ y
same_event e = cc

-- where a place was found, a put is of the event, and else none
pub found : (kinds : List VariableKind) (asked : Question) (bs : List (Bringer Event)) (place : Option ℕ) → MatchOption (event_of kinds asked) (place ≡ None) (λ e. IsPutOf bs asked.variable e place) → IsNamed kinds asked bs (is_some place)
found kinds asked bs place says = by (event_of kinds asked) refl place says
  where
    Asks : Type 0
    Asks = (e : Event) × (event_of kinds asked ≡ Some e) × ((b : Bringer Event) × IsAmong b bs × (b.variable ≡ asked.variable) × (b.event ≡ e))

    none_asked : event_of kinds asked ≡ None → Asks → ⊥
    none_asked none (e, is, b) = none-some e (sym none ∙ is)

    not_put : (e : Event) → event_of kinds asked ≡ Some e → ((b : Bringer Event) → IsAmong b bs → b.variable ≡ asked.variable → b.event ≡ e → ⊥) → Asks → ⊥
    not_put e some never (x, is, (b, i, at, ev)) = never b i at (ev ∙ same_event (sym is ∙ some))

    by : (o : Option Event) → event_of kinds asked ≡ o → (p : Option ℕ) → MatchOption o (p ≡ None) (λ e. IsPutOf bs asked.variable e p) → IsNamed kinds asked bs (is_some p)
    by None none None gone = (λ t. absurd (false≢true t), λ (z : Asks). absurd (none_asked none z))
    by None none (Some k) gone = absurd (none-some k (sym gone))
    by (Some e) some None never = (λ t. absurd (false≢true t), λ (z : Asks). absurd (not_put e some never z))
    by (Some e) some (Some k) put = (λ t. (e, some, (put.put, among_at bs k put.put put.at, put.variable, put.event)), λ (z : Asks). refl)

module _ {S E R A L K : Type 0} (B : Base S E R A) (f : Functions S E R A L) (g : Functions S E R A K) (H : HaveSameRuns (over B f) (over B g)) where
  -- what a run of the one introduces, the run of the other with the same labels does
  introduces_there : (p : List (Label E)) (t : Name E) (v : ℕ) (e : E) → Introduces (over B f) p t v e → Introduces (over B g) p t v e
  introduces_there p t v e i =
      let a = reached (over B f) (over B g) H p i.before i.reaches_before in
      let b = reached (over B f) (over B g) H (p ++ Act t ∷ []) i.after i.reaches_after in
      record {
        before = a.0;
        after = b.0;
        reaches_before = a.1;
        reaches_after = b.1;
        new = λ z. i.new (subst (λ s. IsBelow (over B f) e s) (sym (a.2.content v)) z);
        below = subst (λ s. IsBelow (over B g) e s) (b.2.content v) i.below;
      }

module _ {S E R A L K : Type 0} (same : S → S → Bool) (event_same : E → E → Bool) (order : E → E → Ordering) (bottom : S) (join : S → S → Option S) (events : S → List E) (answer : R → S → Option A) (f : Functions S E R A L) (g : Functions S E R A K)
    (H : HaveSameRuns (machine_of same event_same order bottom join events answer f) (machine_of same event_same order bottom join events answer g)) where
  abbrev base : Base S E R A
  base = record { same = same; event_same = event_same; cmp = order; bottom = bottom; join = join; events = events; answer = answer }

  abbrev flip : HaveSameRuns (over base g) (over base f)
  flip = flip_runs (over base f) (over base g) H

  -- a core run of the one is one of the other
  pub run_back : (xs : List (Label E)) → IsCoreRun (machine_of same event_same order bottom join events answer g) xs → IsCoreRun (machine_of same event_same order bottom join events answer f) xs
  run_back xs h =
      let z = H.back xs h.last h.run in
      record { last = z.0; run = z.1; core = core_there base g f flip xs h.core; within = h.within }

  -- the puts that are told are of all events that a run of the other introduces
  pub introduced : (variables : List (Variable S E)) (xs : List (Label E)) (bs : List (Bringer E)) → AreBringers (machine_of same event_same order bottom join events answer f) variables xs bs → (v : ℕ) (e : E) → v < length variables
      → ((b : Bringer E) × IsAmong b bs × (b.variable ≡ v) × (b.event ≡ e)) ↔ IsIntroduced (machine_of same event_same order bottom join events answer g) xs v e
  introduced variables xs bs told v e within = (to, from)
    where
      to : ((b : Bringer E) × IsAmong b bs × (b.variable ≡ v) × (b.event ≡ e)) → IsIntroduced (machine_of same event_same order bottom join events answer g) xs v e
      to (b, i, at, is) =
          let put = told.each b i in
          let there = introduces_there base f g H put.before b.task b.variable b.event put.put.introduces in
          (put.before, put.put.after, b.task, put.put.is, subst (λ w. Introduces (over base g) put.before b.task w e) at (subst (λ x. Introduces (over base g) put.before b.task b.variable x) is there))

      from : IsIntroduced (machine_of same event_same order bottom join events answer g) xs v e → (b : Bringer E) × IsAmong b bs × (b.variable ≡ v) × (b.event ≡ e)
      from (before, after, t, cut, new) =
          let x = there in
          told.all v x.0 x.1 before after t e cut (introduces_there base g f flip before t v e new)
        where
          there : (x : Variable S E) × (slice_get variables v ≡ Some x)
          there = there_at variables v within

-- a variable whose event is asked for is there
within : (kinds : List VariableKind) (asked : Question) (e : Event) → event_of kinds asked ≡ Some e → asked.variable < length kinds
within kinds asked e is = by (slice_get kinds asked.variable) refl
  where
    by : (o : Option VariableKind) → slice_get kinds asked.variable ≡ o → asked.variable < length kinds
    by (Some x) at = slice_get_within kinds asked.variable x at
    by None at = absurd (none-some e (sym (ap (λ o. option_map (λ kind. record { key = asked.key; kind = kind; number = asked.number }) (option_and_then (kind_at asked.key) o)) at) ∙ is))

module _ {S R A L K : Type 0} (same : S → S → Bool) (event_same : Event → Event → Bool) (order : Event → Event → Ordering) (bottom : S) (join : S → S → Option S) (events : S → List Event) (answer : R → S → Option A) (f : Functions S Event R A L) (g : Functions S Event R A K)
    (H : HaveSameRuns (machine_of same event_same order bottom join events answer f) (machine_of same event_same order bottom join events answer g)) where
  -- whether one of the puts that are told is of the event tells whether it is introduced
  pub is_there : (script : Script) (asked : Question) (kinds : List VariableKind) → kinds ≡ variable_kinds script.declarations → (variables : List (Variable S Event)) → length variables ≡ length kinds → (xs : List (Label Event)) (bs : List (Bringer Event))
      → AreBringers (machine_of same event_same order bottom join events answer f) variables xs bs → (flag : Bool) → IsNamed kinds asked bs flag → IsThere (machine_of same event_same order bottom join events answer g) script asked xs flag
  is_there script asked kinds are variables many xs bs told flag named = (λ t. to (named.0 t), λ z. named.1 (from z))
    where
      Put : Event → Type 0
      Put e = (b : Bringer Event) × IsAmong b bs × (b.variable ≡ asked.variable) × (b.event ≡ e)

      Step : Event → Type 0
      Step e = IsIntroduced (machine_of same event_same order bottom join events answer g) xs asked.variable e

      put : (e : Event) → event_of kinds asked ≡ Some e → Put e ↔ Step e
      put e is = introduced same event_same order bottom join events answer f g H variables xs bs told asked.variable e (let less = within kinds asked e is in omega (arith, less, many))

      to : ((e : Event) × (event_of kinds asked ≡ Some e) × Put e) → (e : Event) × (event_of (variable_kinds script.declarations) asked ≡ Some e) × Step e
      to (e, is, b) = (e, subst (λ ks. event_of ks asked ≡ Some e) are is, (put e is).0 b)

      from : ((e : Event) × (event_of (variable_kinds script.declarations) asked ≡ Some e) × Step e) → (e : Event) × (event_of kinds asked ≡ Some e) × Put e
      from (e, is, i) = let here : event_of kinds asked ≡ Some e = subst (λ ks. event_of ks asked ≡ Some e) (sym are) is in (e, here, (put e here).1 i)
