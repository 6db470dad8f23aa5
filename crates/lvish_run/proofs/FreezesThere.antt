-- Two machines with the same runs freeze the same variables in the same order.
use Rattle.std.proofs.Common.{◌≡◌, ◌&&◌, not, ℕ, Bool, true, false, List, [], ◌∷◌, ◌++◌, Option, Some, None, refl, sym, ap, ◌∙◌, if◌then◌else◌}
use Rattle.lvish_calculus.specs.declared.label.Label.{Label}
use Rattle.lvish_calculus.specs.declared.label.Label.TheVariants.{Act, Hand}
use Rattle.lvish_calculus.specs.declared.request.Request.{Request}
use Rattle.lvish_calculus.specs.declared.request.Request.TheVariants.{Put, Get, Fork, Add, Freeze, Pause, End, Fault}
use Rattle.lvish_calculus.specs.declared.request.ErrorKind.{ErrorKind}
use Rattle.lvish_calculus.specs.Machine.{Machine}
use Rattle.lvish_calculus.specs.Program.{Functions}
use Rattle.lvish_calculus.specs.Calculus.{Task, Absent, Live, Ended, Post, State, Configuration, Running, Error, IsRun, Changes, Fails, just, put_effect, get_effect, add_effect, hand_effect, request_effect, task_effect, effect, start, step}
use Rattle.lvish_names.specs.Names.{Name, Handler, is_deep}
use Rattle.lvish_calculus.specs.FreezeOrder.{froze_by, first_frozen, freezes_from, freeze_order}
use Rattle.lvish_calculus.specs.SameRuns.{without_child, SameTask, HaveSameRuns}
use Rattle.lvish_calculus.proofs.SameThere.{Base, over, Both, both_start, both_step}

-- the variable that a request freezes, if it freezes one
abbrev frozen_variable : {S R L : Type 0} → Request S R L → Option ℕ
frozen_variable (Freeze v pools) = Some v
frozen_variable q = None

childless : {S R L : Type 0} (q : Request S R L) → frozen_variable q ≡ frozen_variable (without_child q)
childless (Put v d) = refl
childless (Get v r) = refl
childless (Fork l) = refl
childless (Add k p) = refl
childless (Freeze v ks) = refl
childless Pause = refl
childless End = refl
childless (Fault k) = refl

module _ {S E R A L : Type 0} (M : Machine S E R A L) (c : State S E L) where
  put_freezes : (t : Name E) (k : Task L) (v : ℕ) (d : S) (o : Option S) → froze_by (put_effect M c t k v d o) ≡ None
  put_freezes t k v d None = refl
  put_freezes t k v d (Some s) = by (c.frozen v && not (M.same s (c.content v))) _
    where
      by : (b : Bool) (e : ErrorKind) → froze_by (if b then Fails e (Some v) t else Changes (record (just {S = S} t k) { joined = Some (v, d) })) ≡ None
      by true e = refl
      by false e = refl

  get_freezes : (t : Name E) (l : L) (f a p : ℕ) (o : Option A) → froze_by (get_effect M t l f a p o) ≡ None
  get_freezes t l f a p None = refl
  get_freezes t l f a p (Some x) = refl

  add_freezes : (t : Name E) (k : Task L) (h : Handler E) (post : Post) (o : Option ℕ) → froze_by (add_effect c t k h post o) ≡ None
  add_freezes t k h post None = refl
  add_freezes t k h post (Some v) = by (c.frozen v) _
    where
      by : (b : Bool) (e : ErrorKind) → froze_by (if b then Fails e (Some v) t else Changes (record (just {S = S} t k) { added = Some (h, post) })) ≡ None
      by true e = refl
      by false e = refl

  request_freezes : (t : Name E) (l : L) (f a p : ℕ) (q : Request S R L) → froze_by (request_effect M c t l f a p q) ≡ frozen_variable q
  request_freezes t l f a p (Put v d) = put_freezes t _ v d _
  request_freezes t l f a p (Get v r) = get_freezes t l f a p _
  request_freezes t l f a p (Fork k) = by (is_deep t) _ _ _
    where
      by : (b : Bool) (e : ErrorKind) (j : Task L) (u : Name E) → froze_by (if b then Fails e None t else Changes (record (just {S = S} t j) { made = Some (u, Live k 0 0 0) })) ≡ None
      by true e j u = refl
      by false e j u = refl
  request_freezes t l f a p (Add pool procedure) = by (is_deep t) _ _ _ _
    where
      by : (b : Bool) (e : ErrorKind) (j : Task L) (h : Handler E) (post : Post) → froze_by (if b then Fails e None t else add_effect c t j h post (M.pool_variable pool)) ≡ None
      by true e j h post = refl
      by false e j h post = add_freezes t j h post (M.pool_variable pool)
  request_freezes t l f a p (Freeze v pools) = refl
  request_freezes t l f a p Pause = refl
  request_freezes t l f a p End = refl
  request_freezes t l f a p (Fault k) = refl

  hand_freezes : (h : Handler E) (e : E) (o : Option Post) → froze_by (hand_effect M h e o) ≡ None
  hand_freezes h e None = refl
  hand_freezes h e (Some post) = refl

module _ {S E R A L K : Type 0} (B : Base S E R A) (f : Functions S E R A L) (g : Functions S E R A K) (H : HaveSameRuns (over B f) (over B g)) where
  task_same : (c : State S E L) (d : State S E K) (t : Name E) (k : Task L) (j : Task K) → SameTask (over B f) (over B g) k j → froze_by (task_effect (over B f) c t k) ≡ froze_by (task_effect (over B g) d t j)
  task_same c d t Absent Absent h = refl
  task_same c d t (Live l i a p) (Live k x y z) h =
      request_freezes (over B f) c t _ i a p (f.request l) ∙ childless (f.request l) ∙ ap frozen_variable h.0 ∙ sym (childless (g.request k)) ∙ sym (request_freezes (over B g) d t _ x y z (g.request k))
  task_same c d t Ended Ended h = refl
  task_same c d t k j h = absurd h

  froze_same : (c : State S E L) (d : State S E K) → ((t : Name E) → SameTask (over B f) (over B g) (c.tasks t) (d.tasks t)) → (l : Label E) → froze_by (effect (over B f) c l) ≡ froze_by (effect (over B g) d l)
  froze_same c d same (Act t) = task_same c d t (c.tasks t) (d.tasks t) (same t)
  froze_same c d same (Hand h e) = hand_freezes (over B f) c h e (c.handlers h) ∙ sym (hand_freezes (over B g) d h e (d.handlers h))

  first_same : (c : State S E L) (d : State S E K) → ((v : ℕ) → c.frozen v ≡ d.frozen v) → (o : Option ℕ) (vs : List ℕ) → first_frozen c o vs ≡ first_frozen d o vs
  first_same c d marks None vs = refl
  first_same c d marks (Some v) vs = ap (λ b. if b then vs else v ∷ vs) (marks v)

  freezes_from_there : (ps xs : List (Label E)) (C : Configuration S E L) (D : Configuration S E K) (last : Configuration S E L) → Both B f g H ps C D → IsRun (over B f) C xs last → freezes_from (over B f) C xs ≡ freezes_from (over B g) D xs
  freezes_from_there ps [] C D last b run = refl
  freezes_from_there ps (l ∷ ls) (Running c) (Running d) last b run =
      ap (λ o. first_frozen c o (freezes_from (over B f) (step (over B f) c l) ls)) (froze_same c d b.same.tasks l)
      ∙ ap (first_frozen c (froze_by (effect (over B g) d l))) (freezes_from_there (ps ++ l ∷ []) ls (step (over B f) c l) (step (over B g) d l) last (both_step B f g H ps c d l b run.0) run.1)
      ∙ first_same c d b.same.frozen (froze_by (effect (over B g) d l)) (freezes_from (over B g) (step (over B g) d l) ls)
  freezes_from_there ps (l ∷ ls) (Running c) (Error k x t) last b run = absurd b.same
  freezes_from_there ps (l ∷ ls) (Error k x t) D last b run = absurd run

  -- a run's order of freezes is that of the same run of the other machine
  pub freeze_order_there : (xs : List (Label E)) (last : Configuration S E L) → IsRun (over B f) (Running (start (over B f))) xs last → freeze_order (over B f) xs ≡ freeze_order (over B g) xs
  freeze_order_there xs last run = freezes_from_there [] xs _ _ last (both_start B f g H) run
