-- All ends of one machine are one, seen from outside, where they are of a machine that has the same runs.
use Rattle.std.proofs.Common.{ℕ, refl, ap, [], ◌∷◌, ◌++◌, Option, append-nil, arith, length-append, ◌≡◌, List, sym, ◌∙◌, subst, length}
use Rattle.std.specs.Prelude.{IsPermutation}
use Rattle.lvish_calculus.specs.Program.{Functions}
use Rattle.lvish_calculus.specs.declared.label.Label.{Label}
use Rattle.lvish_calculus.specs.Machine.{Machine}
use Rattle.lvish_names.specs.Names.{Name}
use Rattle.std.proofs.lemmas.List.Sorted.{length_permutation}
use Rattle.lvish_calculus.specs.declared.request.ErrorKind.{ErrorKind}
use Rattle.lvish_calculus.specs.Agreement.{AllLeadToTheEnd}
use Rattle.lvish_calculus.specs.Calculus.{Running, Error, IsRun, Task, Absent, Live, Ended, State, IsEnd}
use Rattle.lvish_calculus.specs.Laws.{Reaches}
use Rattle.lvish_calculus.specs.SameRuns.{SameTask, SameState, HaveSameRuns}
use Rattle.lvish_calculus.proofs.SameThere.{Base, over, flip_runs, reached, end_there, never_there}
use Rattle.lvish_alike.specs.OneEnd.{HasOneEnd, OneEndShowsAll}

module _ {S E R A L K : Type 0} (M : Machine S E R A L) (N : Machine S E R A K) where
  -- two tasks that are the same as one are the same
  task_through : (x y : Task L) (k : Task K) → SameTask M N x k → SameTask M N y k → SameTask M M x y
  task_through Absent Absent Absent h g = tt
  task_through (Live l f a p) (Live m g b q) (Live k x y z) h i = (h.0 ∙ sym i.0, h.1 ∙ sym i.1, h.2 ∙ sym i.2, h.3 ∙ sym i.3)
  task_through Ended Ended Ended h g = tt
  task_through Absent y (Live k a b c) h g = absurd h
  task_through Absent y Ended h g = absurd h
  task_through Ended y (Live k a b c) h g = absurd h
  task_through Ended y Absent h g = absurd h
  task_through (Live l f a p) y Absent h g = absurd h
  task_through (Live l f a p) y Ended h g = absurd h
  task_through x y k h g = absurd g

  state_through : (a b : State S E L) (c : State S E K) → SameState M N a c → SameState M N b c → SameState M M a b
  state_through a b c h g = record {
    content = λ v. h.content v ∙ sym (g.content v);
    frozen = λ v. h.frozen v ∙ sym (g.frozen v);
    tasks = λ t. task_through (a.tasks t) (b.tasks t) (c.tasks t) (h.tasks t) (g.tasks t);
    handlers = λ x. h.handlers x ∙ sym (g.handlers x);
    handed = λ x e. h.handed x e ∙ sym (g.handed x e);
  }

-- any two ends of the one are one, with the same labels
abbrev pub IsOneEnd : {S E R A L : Type 0} → Machine S E R A L → Type 0
IsOneEnd {S} {E} {R} {A} {L} M = (xs ys : List (Label E)) (a b : State S E L) → Reaches M xs a → Reaches M ys b → IsEnd M a → IsEnd M b
    → (a ≡ b) × (length xs ≡ length ys) × IsPermutation xs ys

module _ {S E R A L K : Type 0} (B : Base S E R A) (f : Functions S E R A L) (g : Functions S E R A K) (H : HaveSameRuns (over B f) (over B g)) where
  pub one_end_there : IsOneEnd (over B f) → HasOneEnd (over B g)
  one_end_there one xs ys a b ra rb enda endb =
      let x = reached (over B g) (over B f) (flip_runs (over B f) (over B g) H) xs a ra in
      let y = reached (over B g) (over B f) (flip_runs (over B f) (over B g) H) ys b rb in
      let ends = λ (d : State S E K) (c : State S E L) (s : SameState (over B g) (over B f) d c) (end : IsEnd (over B g) d). end_there B g f (λ p. sym (H.pools p)) d c s end in
      let z = one xs ys x.0 y.0 x.1 y.1 (ends a x.0 x.2 enda) (ends b y.0 y.2 endb) in
      let sb : SameState (over B g) (over B f) b x.0 = subst (λ c. SameState (over B g) (over B f) b c) (sym z.0) y.2 in
      (state_through (over B g) (over B f) a b x.0 x.2 sb, z.1, z.2)

-- ---- where each run leads to the end of one that ends

module _ {S E R A L : Type 0} (M : Machine S E R A L) (lead : AllLeadToTheEnd M) where
  -- from an end a run leads nowhere
  end_stays : (b a : State S E L) (zs : List (Label E)) → IsEnd M b → IsRun M (Running b) zs (Running a) → (b ≡ a) × (zs ≡ [])
  end_stays b a [] end run = (cc run, refl)
  end_stays b a (z ∷ zs) end run = absurd (end z run.0)

  pub one_end_led : IsOneEnd M
  one_end_led xs ys a b ra rb enda endb =
      let g = lead xs a ra enda ys (Running b) rb in
      let z = end_stays b a g.0 endb g.1 in
      let same : IsPermutation xs ys = subst (λ q. IsPermutation xs q) (ap (λ q. ys ++ q) z.1 ∙ append-nil ys) g.2 in
      (sym z.0, sym (length_permutation xs ys same), same)

  error_stays : (kind : ErrorKind) (v : Option ℕ) (t : Name E) (a : State S E L) (zs : List (Label E)) → IsRun M (Error kind v t) zs (Running a) → ⊥
  error_stays kind v t a [] run = cc run
  error_stays kind v t a (z ∷ zs) run = run

  pub shows_all_led : OneEndShowsAll M
  shows_all_led xs a ra enda = (
    (λ ls kind v t run. let g = lead xs a ra enda ls (Error kind v t) run in error_stays kind v t a g.0 g.1),
    (λ ys b rb. let g = lead xs a ra enda ys (Running b) rb in let count = length_permutation xs (ys ++ g.0) g.2 in omega (arith, count, length-append ys g.0)),
  )

module _ {S E R A L K : Type 0} (B : Base S E R A) (f : Functions S E R A L) (g : Functions S E R A K) (H : HaveSameRuns (over B f) (over B g)) where
  pub shows_all_there : OneEndShowsAll (over B f) → OneEndShowsAll (over B g)
  shows_all_there shows xs a ra enda =
      let back = flip_runs (over B f) (over B g) H in
      let x = reached (over B g) (over B f) back xs a ra in
      let z = shows xs x.0 x.1 (end_there B g f (λ p. sym (H.pools p)) a x.0 x.2 enda) in
      (never_there (over B f) (over B g) H z.0, λ ys b rb. let y = reached (over B g) (over B f) back ys b rb in z.1 ys y.0 y.1)
