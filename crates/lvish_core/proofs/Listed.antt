-- What is listed from the tasks and the handlers are the labels that the core can take, in order.
use Rattle.std.proofs.Common.{◌≡◌, ◌↔◌, inl, inr, ℕ, Bool, true, false, List, [], ◌++◌, Some, None, is_some, Ordering, refl, sym, ap, subst, ◌∙◌, Less}
use Rattle.std.specs.Ordering.{eq_by_cmp, ordering_then}
use Rattle.std.specs.List.{AllByRecursion, IsDistinct}
use Rattle.std.specs.List.Sorted.{IsStrictlySortedBy}
use Rattle.std.proofs.lemmas.Map.Keys.{IsDistinct-from_sorted}
use Rattle.lvish_names.specs.NameOrder.{name_cmp, handler_cmp}
use Rattle.lvish_core.specs.Vocabulary.{Label, Act, Hand, HandlerPlace}
use Rattle.lvish_calculus.specs.Machine.{Machine, IsLawful}
use Rattle.lvish_calculus.specs.Calculus.{Task, State, IsReadyTask}
use Rattle.lvish_names.specs.Names.{Name, Handler, same_name, same_handler}
use Rattle.lvish_calculus.specs.Handing.{IsAmong}
use Rattle.lvish_calculus.proofs.Names.{same_name-true, same_name-refl, same_handler-true, same_handler-refl}
use Rattle.lvish_picture.specs.Picture.{Table, task_of}
use Rattle.lvish_picture.specs.Laws.{PostsAreHeld, HandsTheNext}
use Rattle.lvish_core.specs.Core.{CoreView, IsNext, CanTake, state}
use Rattle.lvish_core.specs.Labels.{label_cmp, AreLabels}
use Rattle.lvish_core.specs.Places.{place_at, handlers_of}
use Rattle.lvish_core.specs.Tasks.{SameTasks, task_names}
use Rattle.lvish_core.specs.Kept.{IsKept}
use Rattle.lvish_core.specs.laws.Lists.{either_among, among_first, among_last}
use Rattle.lvish_core.proofs.Shown.{can_step, none_can}
use Rattle.lvish_core.proofs.Seated.{next_place, next_one, next_can}
use Rattle.lvish_core.proofs.Listing.{AreOf, all_at, each_found, found_there, listed_of, item_listed, listed_ascend, sorted_append}

-- a ready task's label
abbrev pub TaskItem : {S E R A L : Type 0} → Machine S E R A L → State S E L → Name E × Task L → Label E → Type 0
TaskItem M s x l = (l ≡ Act x.0) × IsReadyTask M s x.1

-- the handing of what comes next for a handler
abbrev pub HandItem : {S E L : Type 0} → (E → E → Bool) → Table S E L → Handler E × HandlerPlace → Label E → Type 0
HandItem {E = E} eq c x l = (e : E) × (l ≡ Hand x.0 e) × IsNext eq c x.0 e

module _ {E : Type 0} (eq : E → E → Bool) (is : (a b : E) → (eq a b ≡ true) ↔ (a ≡ b)) where
  -- the tasks of a list without repeats
  pub each_task : {L : Type 0} → ((t u : Name E) → same_name eq t u ≡ same_name eq u t) → (xs : List (Name E × Task L)) → IsDistinct (same_name eq) (task_names xs) → AllByRecursion (λ x. task_of eq xs x.0 ≡ x.1) xs
  each_task {L} symm = each_found (same_name eq) (same_name-refl eq is) (task_of eq) (λ (k : Task L). k) (λ x xs k. refl) symm

  pub each_in_order : {L : Type 0} (cmp : E → E → Ordering) → ((t u : Name E) → same_name eq t u ≡ same_name eq u t) → ((t u : Name E) → same_name eq t u ≡ eq_by_cmp (name_cmp cmp) t u)
      → (xs : List (Name E × Task L)) → IsStrictlySortedBy (name_cmp cmp) (task_names xs) → AllByRecursion (λ x. task_of eq xs x.0 ≡ x.1) xs
  each_in_order cmp symm ties xs s = each_task symm xs (subst (λ test. IsDistinct test (task_names xs)) (λ i t u. sym (ties t u) i) (IsDistinct-from_sorted (name_cmp cmp) (task_names xs) s))

  pub task_there : {S R A L : Type 0} (M : Machine S E R A L) (s : State S E L) (xs : List (Name E × Task L)) (t : Name E) → IsReadyTask M s (task_of eq xs t) → IsAmong (t, task_of eq xs t) xs
  task_there {L = L} M s xs t ready = elim (found_there (same_name eq) (same_name-refl eq is) (task_of eq) (λ (k : Task L). k) (λ x xs k. refl) (same_name-true eq is) xs t) [
    | inl none ↦ absurd (subst (λ k. IsReadyTask M s k) (sym none) ready)
    | inr there ↦ subst (λ k. IsAmong (t, k) xs) (sym there.1) there.2
  ]

  -- the places of a list in order
  pub each_place : (cmp : E → E → Ordering) → ((h k : Handler E) → same_handler eq h k ≡ same_handler eq k h) → ((h k : Handler E) → same_handler eq h k ≡ eq_by_cmp (handler_cmp cmp) h k)
      → (xs : List (Handler E × HandlerPlace)) → IsStrictlySortedBy (handler_cmp cmp) (handlers_of xs) → AllByRecursion (λ x. place_at eq xs x.0 ≡ Some x.1) xs
  each_place cmp symm ties xs s = each_found (same_handler eq) (same_handler-refl eq is) (place_at eq) (λ p. Some p) (λ x xs k. refl) symm xs
      (subst (λ test. IsDistinct test (handlers_of xs)) (λ i h k. sym (ties h k) i) (IsDistinct-from_sorted (handler_cmp cmp) (handlers_of xs) s))

  place_there : (xs : List (Handler E × HandlerPlace)) (h : Handler E) (p : HandlerPlace) → place_at eq xs h ≡ Some p → IsAmong (h, p) xs
  place_there xs h p at = elim (found_there (same_handler eq) (same_handler-refl eq is) (place_at eq) (λ p. Some p) (λ x xs k. refl) (same_handler-true eq is) xs h) [
    | inl none ↦ let no : None ≡ Some p = none ∙ at in absurd (cc no)
    | inr there ↦ let same : there.0 ≡ p = cc (there.1, at) in subst (λ q. IsAmong (h, q) xs) same there.2
  ]

module _ {P S E R A L : Type 0} (M : Machine S E R A L) (n running : ℕ) (places : List (Handler E × HandlerPlace)) (c : CoreView P S E L) (k : IsKept M n running places c) (ok : IsLawful M) (posts : PostsAreHeld M) (cmp : E → E → Ordering) where
  -- after an error there is none
  pub no_labels : is_some c.fault ≡ true → AreLabels cmp M c []
  unfolding IsStrictlySortedBy
  no_labels error = record { ascending = tt; just = λ l. (λ z. absurd z, λ z. none_can M n running places c k error l z) }

  module _ (hands : HandsTheNext M) (no_error : is_some c.fault ≡ false) (all : List (Name E × Task L)) (same : SameTasks M.event_same all c.table.tasks) (by_name : IsStrictlySortedBy (name_cmp cmp) (task_names all)) (each : AllByRecursion (λ x. task_of M.event_same all x.0 ≡ x.1) all)
      (by_handler : IsStrictlySortedBy (handler_cmp cmp) (handlers_of places)) (ts hs : List (Label E)) (tasks : AreOf (TaskItem M (state M c)) all ts) (handings : AreOf (HandItem M.event_same c.table) places hs) where
    between : (x y : Label E) → IsAmong x ts → IsAmong y hs → label_cmp cmp x y ≡ Less
    between x y i j =
        let t = listed_of (TaskItem M (state M c)) all ts tasks x i in
        let h = listed_of (HandItem M.event_same c.table) places hs handings y j in
        ap (λ q. label_cmp cmp q y) t.2.0 ∙ ap (λ q. label_cmp cmp (Act t.0.0) q) h.2.1

    taken : (l : Label E) → IsAmong l (ts ++ hs) → CanTake M c l
    taken l i = elim (either_among l ts hs i) [
      | inl a ↦
          let t = listed_of (TaskItem M (state M c)) all ts tasks l a in
          let ready = subst (λ x. IsReadyTask M (state M c) x) (sym (all_at (λ x. task_of M.event_same all x.0 ≡ x.1) all each t.0 t.1) ∙ same t.0.0) t.2.1 in
          subst (λ q. CanTake M c q) (sym t.2.0) ((can_step M n running places c k no_error (Act t.0.0)).1 ready, tt)
      | inr b ↦
          let h = listed_of (HandItem M.event_same c.table) places hs handings l b in
          subst (λ q. CanTake M c q) (sym h.2.1) (next_can M n running places c k ok posts hands no_error h.0.0 h.2.0 h.2.2)
    ]

    listed : (l : Label E) → CanTake M c l → IsAmong l (ts ++ hs)
    listed (Act t) z =
        let ready = subst (λ x. IsReadyTask M (state M c) x) (sym (same t)) ((can_step M n running places c k no_error (Act t)).0 z.0) in
        among_first (Act t) ts hs (item_listed (TaskItem M (state M c)) all ts tasks _ (Act t) (task_there M.event_same ok.event_same_is M (state M c) all t ready) (refl, ready) (λ m y. sym y.0))
    listed (Hand h e) z =
        let p = next_place M n running places c k ok posts h e z.1 in
        among_last (Hand h e) ts hs (item_listed (HandItem M.event_same c.table) places hs handings _ (Hand h e) (place_there M.event_same ok.event_same_is places h p.0 p.1) (e, refl, z.1)
        (λ m y. ap (λ q. Hand h q) (next_one M n running places c k ok posts h e y.0 z.1 y.2) ∙ sym y.1))

    -- just the labels that the core can take
    pub are_labels : (first ls : List (Label E)) → first ≡ ts → ls ≡ first ++ hs → AreLabels cmp M c ls
    are_labels first ls firsts is = subst (λ (xs : List (Label E)). AreLabels cmp M c xs) (sym (is ∙ ap (λ xs. xs ++ hs) firsts)) (record {
      ascending = sorted_append (label_cmp cmp) ts hs
          (listed_ascend (TaskItem M (state M c)) (λ x. x.0) (name_cmp cmp) (label_cmp cmp) (λ x y l m i j less. ap (λ q. label_cmp cmp q m) i.0 ∙ ap (λ q. label_cmp cmp (Act x.0) q) j.0 ∙ less) all ts tasks by_name)
          (listed_ascend (HandItem M.event_same c.table) (λ x. x.0) (handler_cmp cmp) (label_cmp cmp)
          (λ x y l m i j less. ap (λ q. label_cmp cmp q m) i.1 ∙ ap (λ q. label_cmp cmp (Hand x.0 i.0) q) j.1 ∙ ap (λ o. ordering_then o (cmp i.0 j.0)) less) places hs handings by_handler) between;
      just = λ l. (taken l, listed l);
    })
