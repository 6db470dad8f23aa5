-- Where a handler is, and what comes next for it.
use Rattle.std.proofs.Common.{◌≡◌, ◌↔◌, ◌<◌, ℕ, Bool, false, List, Option, Some, None, refl, sym, ap, subst, ◌∙◌, is_some, option_map, slice_get, true, Result, Ok, Err, IsErrAnd, MatchResult, MatchOption, IsTrue, IsSome, Contains}
use Rattle.lvish_calculus.specs.Machine.{Machine, IsLawful}
use Rattle.lvish_core.specs.Vocabulary.{Hand, Held, HandlerPlace, Label, Stepped, StepFault, NotEnabled, Full, Memory, Moved}
use Rattle.lvish_calculus.specs.Calculus.{Post, IsEnabled}
use Rattle.lvish_names.specs.Names.{Handler}
use Rattle.lvish_variable.specs.Variable.{VariableView as Variable}
use Rattle.lvish_handlers.specs.Handlers.{HandlersView as Handlers, next_of}
use Rattle.lvish_picture.specs.Laws.{IsHandlerSeated, PostsAreHeld, HandsTheNext}
use Rattle.lvish_picture.proofs.Cursors.{seat_with}
use Rattle.lvish_core.specs.Reads.{AreHandlers}
use Rattle.lvish_core.proofs.Shown.{can_step, no_fault}
use Rattle.lvish_core.proofs.Coming.{coming, next_one as one_next}
use Rattle.lvish_core.specs.Core.{CoreView, IsNext, CanTake, state, IsStep, IsStepRefused}
use Rattle.lvish_core.specs.Places.{place_at, post_of}
use Rattle.lvish_core.specs.Kept.{IsKept}
use Rattle.std.proofs.lemmas.Bool.{false≢true}
use Rattle.std.proofs.lemmas.Option.{same_Some}
use Rattle.lvish_core.specs.Handed.{IsHanding, IsHanded, IsNotHanded}

map_some : {X Y : Type 0} (f : X → Y) (o : Option X) (y : Y) → option_map f o ≡ Some y → (x : X) × (o ≡ Some x) × (f x ≡ y)
map_some f None y e = absurd (cc e)
map_some f (Some x) y e = (x, refl, cc e)

module _ {P S E R A L : Type 0} (M : Machine S E R A L) (n running : ℕ) (places : List (Handler E × HandlerPlace)) (c : CoreView P S E L) (k : IsKept M n running places c) where
  -- a place is on a variable of the program
  pub placed : ((q v : ℕ) → M.pool_variable q ≡ Some v → v < n) → (name : Handler E) (p : HandlerPlace) → place_at M.event_same places name ≡ Some p → p.variable < n
  placed known name p at = known p.pool p.variable (k.index.own name p at)

  module _ (ok : IsLawful M) (posts : PostsAreHeld M) where
    -- where a handler of the table is
    pub record IsIndexed (v : ℕ) (h : Held E) : Type 0 where
      pub place : HandlerPlace
      pub at : place_at M.event_same places h.name ≡ Some place
      pub variable : place.variable ≡ v
      pub pool : place.pool ≡ h.pool
      pub procedure : place.procedure ≡ h.procedure

    pub indexed : (v : ℕ) (x : Variable S E) (hs : Handlers E) (h : Held E) → IsHandlerSeated c.table v x hs h → IsIndexed v h
    indexed v x hs h s =
        let post = posts k.standing.run c.table v x hs h k.standing.pictured s in
        let there = map_some post_of (place_at M.event_same places h.name) (record { pool = h.pool; procedure = h.procedure }) (k.index.posts h.name ∙ post.0) in
        let own : M.pool_variable (there.0).pool ≡ Some (there.0).variable = k.index.own h.name there.0 there.1 in
        let pool : (there.0).pool ≡ h.pool = ap (λ (q : Post). q.pool) there.2 in
        record {
          place = there.0;
          at = there.1;
          variable = same_Some _ _ (sym own ∙ ap M.pool_variable pool ∙ post.1);
          pool = pool;
          procedure = ap (λ (q : Post). q.procedure) there.2;
        }

    -- what comes next for a handler comes next at its place
    pub next_place : (name : Handler E) (e : E) (z : IsNext M.event_same c.table name e) → (p : HandlerPlace) × (place_at M.event_same places name ≡ Some p) × (p.variable ≡ z.variable)
    next_place name e z =
        let h = coming M ok c.table name e z in
        let i : IsIndexed z.variable h.0 = indexed z.variable z.at z.beside h.0 h.1 in
        (i.place, ap (λ g. place_at M.event_same places g) (sym h.2) ∙ i.at, i.variable)

    -- what comes next at the place of a handler comes next for it, and nothing else
    pub next_there : (name : Handler E) (p : HandlerPlace) → place_at M.event_same places name ≡ Some p → (x : Variable S E) → slice_get c.table.variables p.variable ≡ Some x → (hs : Handlers E) → slice_get c.table.handlers p.variable ≡ Some hs
        → (r : Option E) → r ≡ next_of M.event_same x.log hs.held name → MatchOption r ((e : E) → IsNext M.event_same c.table name e → ⊥) (λ e. IsNext M.event_same c.table name e)
    next_there name p at x there hs beside (Some e) is = record { variable = p.variable; at = x; at_is = there; beside = hs; beside_is = beside; next = sym is }
    next_there name p at x there hs beside None is = λ e z.
        let q = next_place name e z in
        let v : p.variable ≡ z.variable = ap (λ (q : HandlerPlace). q.variable) (same_Some _ _ (sym at ∙ q.1)) ∙ q.2 in
        let xx : x ≡ z.at = same_Some _ _ (sym there ∙ ap (λ u. slice_get c.table.variables u) v ∙ z.at_is) in
        let hh : hs ≡ z.beside = same_Some _ _ (sym beside ∙ ap (λ u. slice_get c.table.handlers u) v ∙ z.beside_is) in
        let none : None ≡ Some e = is ∙ ap (λ (y : Variable S E). next_of M.event_same y.log hs.held name) xx ∙ ap (λ (y : Handlers E). next_of M.event_same (z.at).log y.held name) hh ∙ z.next in
        cc none

    -- and where it has no place nothing comes next
    pub none_next : (name : Handler E) → place_at M.event_same places name ≡ None → (e : E) → IsNext M.event_same c.table name e → ⊥
    none_next name at e z = let q = next_place name e z in let none : None ≡ Some q.0 = sym at ∙ q.1 in cc none

    -- only one event comes next
    pub next_one : (name : Handler E) (e f : E) → IsNext M.event_same c.table name e → IsNext M.event_same c.table name f → e ≡ f
    next_one = one_next M ok c.table posts k.standing.run k.standing.pictured

    -- what comes next can be handed
    pub next_enabled : HandsTheNext M → (name : Handler E) (e : E) → IsNext M.event_same c.table name e → IsEnabled M (state M c) (Hand name e)
    next_enabled hands name e z =
        let h = coming M ok c.table name e z in
        let next : next_of M.event_same (z.at).log (z.beside).held (h.0).name ≡ Some e = ap (λ g. next_of M.event_same (z.at).log (z.beside).held g) h.2 ∙ z.next in
        let both = (hands k.standing.run c.table z.variable z.at z.beside h.0 k.standing.pictured h.1 e).0 next in
        subst (λ g. IsEnabled M (state M c) (Hand g e)) h.2 both.0

    -- the core hands what comes next, where there is no error
    pub next_can : HandsTheNext M → is_some c.fault ≡ false → (name : Handler E) (e : E) → IsNext M.event_same c.table name e → CanTake M c (Hand name e)
    next_can hands no_error name e z = ((can_step M n running places c k no_error (Hand name e)).1 (next_enabled hands name e z), z)

    -- and of a handler's events just that one
    pub hand_can : HandsTheNext M → is_some c.fault ≡ false → (name : Handler E) (e f : E) → IsNext M.event_same c.table name e → (b : Bool) → b ≡ M.event_same e f → IsTrue b ↔ CanTake M c (Hand name f)
    hand_can hands no_error name e f next b is = (
      λ z. subst (λ x. CanTake M c (Hand name x)) ((ok.event_same_is e f).0 (sym is ∙ z)) (next_can hands no_error name e next),
      λ z. is ∙ (ok.event_same_is e f).1 (next_one name e f next z.1),
    )

    -- what the list beside a variable holds are the picture's handlers on it
    pub are_handlers : (v : ℕ) (x : Variable S E) → slice_get c.table.variables v ≡ Some x → (hs : Handlers E) → slice_get c.table.handlers v ≡ Some hs → (held : List (Held E)) → held ≡ hs.held → AreHandlers M c v held
    are_handlers v x at hs beside held is = record {
      beside = hs;
      at = beside;
      are = is;
      just = λ name post. (
        λ z.
            let there : Contains hs.held z.handler = subst (λ (ys : List (Held E)). Contains ys z.handler) is z.there in
            let post_of = posts k.standing.run c.table v x hs z.handler k.standing.pictured (record { at = at; beside = beside; held = there }) in
            (ap (λ h. (state M c).handlers h) (sym z.named) ∙ post_of.0 ∙ ap (λ q. Some q) (same_post {p = record { pool = (z.handler).pool; procedure = (z.handler).procedure }} z.pool z.procedure), ap M.pool_variable (sym z.pool) ∙ post_of.1),
        λ z.
            let s = seat_with M ok c.table k.standing.run k.standing.pictured name post z.0 in
            let seated : IsHandlerSeated c.table s.0 s.1 s.2 s.3 = s.4 in
            let other = posts k.standing.run c.table s.0 s.1 s.2 s.3 k.standing.pictured seated in
            let post_is : post_at s.3 ≡ post = same_Some _ _ (sym other.0 ∙ ap (λ h. (state M c).handlers h) s.5 ∙ z.0) in
            let pool : (s.3).pool ≡ post.pool = ap (λ (q : Post). q.pool) post_is in
            let v_is : s.0 ≡ v = same_Some _ _ (sym other.1 ∙ ap M.pool_variable pool ∙ z.1) in
            let hs_is : s.2 ≡ hs = same_Some _ _ (sym seated.beside ∙ ap (λ u. slice_get c.table.handlers u) v_is ∙ beside) in
            record {
              handler = s.3;
              there = subst (λ (ys : List (Held E)). Contains ys (s.3)) (ap (λ (y : Handlers E). y.held) hs_is ∙ sym is) seated.held;
              named = s.5;
              pool = pool;
              procedure = ap (λ (q : Post). q.procedure) post_is;
            },
      );
    }
      where
        same_post : {p q : Post} → p.pool ≡ q.pool → p.procedure ≡ q.procedure → p ≡ q
        same_post e d = λ i. record { pool = e i; procedure = d i }

        post_at : Held E → Post
        post_at h = record { pool = h.pool; procedure = h.procedure }

-- ---- what a handler is handed next, by its place

module _ {P S E R A L : Type 0} (M : Machine S E R A L) (n running : ℕ) (places : List (Handler E × HandlerPlace)) (c : CoreView P S E L) (k : IsKept M n running places c) (ok : IsLawful M) (posts : PostsAreHeld M) (name : Handler E) where
  module _ (p : HandlerPlace) (at : place_at M.event_same places name ≡ Some p) (x : Variable S E) (there : slice_get c.table.variables p.variable ≡ Some x) (hs : Handlers E) (beside : slice_get c.table.handlers p.variable ≡ Some hs) where
    pub at_end_none : next_of M.event_same x.log hs.held name ≡ None → (e : E) → CanTake M c (Hand name e) → ⊥
    at_end_none none e z = next_there M n running places c k ok posts name p at x there hs beside None (sym none) e z.1

    next_is : (e : E) → next_of M.event_same x.log hs.held name ≡ Some e → IsNext M.event_same c.table name e
    next_is e is = record { variable = p.variable; at = x; at_is = there; beside = hs; beside_is = beside; next = is }

    pub next_taken : HandsTheNext M → is_some c.fault ≡ false → (e : E) → next_of M.event_same x.log hs.held name ≡ Some e → CanTake M c (Hand name e)
    next_taken hands no_error e is = next_can M n running places c k ok posts hands no_error name e (next_is e is)

    pub is_handing : is_some c.fault ≡ false → (e : E) → next_of M.event_same x.log hs.held name ≡ Some e → IsHanding M c name p e
    is_handing no_error e is = record {
      no_fault = no_fault c.fault no_error;
      post = sym (k.index.posts name) ∙ ap (option_map post_of) at;
      own = k.index.own name p at;
      at = x;
      at_is = there;
      beside = hs;
      beside_is = beside;
      next = is;
    }

  -- the core takes no event but the one that comes next
  pub other_refused : (e f : E) → IsNext M.event_same c.table name e → M.event_same e f ≡ false → CanTake M c (Hand name f) → ⊥
  other_refused e f next other z = false≢true (sym other ∙ (ok.event_same_is e f).1 (next_one M n running places c k ok posts name e f next z.1))

  -- so what was handed is that event
  pub handed_it : (e f : E) → IsNext M.event_same c.table name e → M.event_same e f ≡ true → (new : CoreView P S E L) (said : Stepped) (moved : Moved E L) → IsHanded M c name new said moved → IsStep M c (Hand name f) new said
  handed_it e f next same new said moved h =
      let step = h.moving.step in
      subst (λ x. IsStep M c (Hand name x) new said) (next_one M n running places c k ok posts name h.event e (step.enabled).1 next ∙ (ok.event_same_is e f).0 same) step

  -- and why it wasn't
  pub refused_it : HandsTheNext M → is_some c.fault ≡ false → (e f : E) → IsNext M.event_same c.table name e → M.event_same e f ≡ true → (why : StepFault) → IsNotHanded M c name why → IsStepRefused M c (Hand name f) why
  refused_it hands none e f next same NotEnabled w = w f
  refused_it hands none e f next same Full w = (subst (λ x. CanTake M c (Hand name x)) ((ok.event_same_is e f).0 same) (next_can M n running places c k ok posts hands none name e next), w.2)
  refused_it hands none e f next same Memory w = tt

-- a fault goes on as it is
pub goes_on : {P S E R A L : Type 0} (M : Machine S E R A L) (c new : CoreView P S E L) (l : Label E) (r : Result Stepped StepFault) (why : StepFault) → IsErrAnd r (λ e. e ≡ why) → IsStepRefused M c l why → new ≡ c
    → MatchResult r (λ s. IsStep M c l new s) (λ e. IsStepRefused M c l e × (new ≡ c))
goes_on M c new l (Ok s) why h refused same = absurd h
goes_on M c new l (Err e) why h refused same = (subst (λ q. IsStepRefused M c l q) (sym h) refused, same)

-- whether an event comes next, by the one that does
pub comes_next : {E : Type 0} {IsNext : E → Type 0} (o : Option E) → MatchOption o ((e : E) → IsNext e → ⊥) (λ e. IsNext e) → IsSome o ↔ ((e : E) × IsNext e)
comes_next None never = (λ s. absurd (false≢true s), λ z. absurd (never z.0 z.1))
comes_next (Some e) is = (λ _. (e, is), λ _. refl)
