-- The tasks after a step, and how many of them are live.
use Rattle.std.proofs.Common.{◌≡◌, ◌↔◌, ◌≤◌, ◌+◌, ◌-◌, inl, inr, ℕ, Bool, true, Option, Some, None, length, sym, subst, ◌∙◌, arith}
use Rattle.lvish_calculus.specs.Machine.{Machine, IsLawful}
use Rattle.lvish_calculus.specs.Calculus.{Task, Absent, Live, Ended, State, Change, IsLive, is_live, changed, with_task}
use Rattle.lvish_names.specs.Names.{Name}
use Rattle.lvish_calculus.specs.Live.{HasLive}
use Rattle.lvish_calculus.proofs.Names.{cases_name, with_task-same, with_task-other}
use Rattle.lvish_calculus.proofs.Among.{Count, count_same, count_more, count_fewer, one_less}
use Rattle.lvish_core.specs.Kept.{AreFew}

-- one more, where a task is made
abbrev pub joined : {E L : Type 0} → Option (Name E × Task L) → ℕ → ℕ
joined None n = n
joined (Some x) n = n + 1

-- one less, where the acting task ends
abbrev pub left : {E L : Type 0} → Option (Name E × Task L) → ℕ → ℕ
left (Some (t, Ended)) n = n - 1
left _ n = n

pub no_more : {E L : Type 0} (own made : Option (Name E × Task L)) (n : ℕ) → left own (joined made n) ≤ n + 1
no_more (Some (t, Ended)) None n = omega arith
no_more (Some (t, Ended)) (Some x) n = omega arith
no_more own None n = omega arith
no_more own (Some x) n = omega arith

pub live_is : {L : Type 0} (k : Task L) (l : L) (f a p : ℕ) → k ≡ Live l f a p → IsLive k
live_is {L} k l f a p e = subst (λ (x : Task L). IsLive x) (sym e) is_live

-- there is a live task
pub live_some : {S E L : Type 0} (eq : E → E → Bool) → ((a b : E) → (eq a b ≡ true) ↔ (a ≡ b)) → (c : State S E L) (n : ℕ) (t : Name E) → IsLive (c.tasks t) → HasLive c n → 1 ≤ n
live_some eq is c n t was h = let e : length h.names ≡ n = h.count in let f = one_less eq is t h.names ((h.just t).1 was) in omega (arith, e, f)

-- a task starts that wasn't there, or none does
pub data Start {E L : Type 0} (tasks : Name E → Task L) : Option (Name E × Task L) → Type 0 where
  nobody : Start tasks None
  child : (t : Name E) (l : L) → tasks t ≡ Absent → Start tasks (Some (t, Live l 0 0 0))

-- a live task goes on, with at most one more of each number, or ends; or none acts
pub data Turn {E L : Type 0} (tasks : Name E → Task L) : Option (Name E × Task L) → Type 0 where
  idle : Turn tasks None
  on : (t : Name E) (l o : L) (f a p g b q : ℕ) → tasks t ≡ Live l f a p → g ≤ f + 1 → b ≤ a + 1 → q ≤ p + 1 → Turn tasks (Some (t, Live o g b q))
  off : (t : Name E) (l : L) (f a p : ℕ) → tasks t ≡ Live l f a p → Turn tasks (Some (t, Ended))

module _ {E L : Type 0} (eq : E → E → Bool) (is : (a b : E) → (eq a b ≡ true) ↔ (a ≡ b)) (tasks : Name E → Task L) where
  abbrev pub Lives : ℕ → Type 0
  Lives n = Count (λ t. IsLive (tasks t)) n

  same_live : {j k : Task L} → j ≡ k → IsLive k ↔ IsLive j
  same_live e = (λ z. subst (λ (x : Task L). IsLive x) (sym e) z, λ z. subst (λ (x : Task L). IsLive x) e z)

  module _ (t : Name E) (k : Task L) where
    here : with_task eq (Some (t, k)) tasks t ≡ k
    here = with_task-same eq is t k tasks

    other : (u : Name E) → (u ≡ t → ⊥) → IsLive (tasks u) ↔ IsLive (with_task eq (Some (t, k)) tasks u)
    other u ne = same_live (with_task-other eq is t k tasks u ne)

    stays_live : IsLive (tasks t) → IsLive k → (u : Name E) → IsLive (tasks u) ↔ IsLive (with_task eq (Some (t, k)) tasks u)
    stays_live was now u = elim (cases_name eq is u t) [
      | inl e ↦ (
        λ z. subst (λ x. IsLive (with_task eq (Some (t, k)) tasks x)) (sym e) ((same_live here).0 now),
        λ z. subst (λ x. IsLive (tasks x)) (sym e) was,
      )
      | inr ne ↦ other u ne
    ]

    few_with : (n m : ℕ) → AreFew tasks n → n ≤ m → ((l : L) (f a p : ℕ) → k ≡ Live l f a p → (f ≤ m) × (a ≤ m) × (p ≤ m)) → AreFew (with_task eq (Some (t, k)) tasks) m
    few_with n m was le now u l f a p e = elim (cases_name eq is u t) [
      | inl q ↦ now l f a p (sym (subst (λ x. with_task eq (Some (t, k)) tasks x ≡ k) (sym q) here) ∙ e)
      | inr ne ↦ let w = was u l f a p (sym (with_task-other eq is t k tasks u ne) ∙ e) in (omega (arith, w.0), omega (arith, w.1), omega (arith, w.2))
    ]

  numbers_of : (o l : L) (g b q f a p n : ℕ) → g ≤ n → b ≤ n → q ≤ n → Live o g b q ≡ Live l f a p → (f ≤ n) × (a ≤ n) × (p ≤ n)
  numbers_of o l g b q f a p n gn bn qn e =
      let x : g ≡ f = cc in let y : b ≡ a = cc in let z : q ≡ p = cc in
      (omega arith, omega arith, omega arith)

  pub lives_joined : (made : Option (Name E × Task L)) (n : ℕ) → Start tasks made → Lives n → Count (λ t. IsLive (with_task eq made tasks t)) (joined made n)
  lives_joined _ n nobody h = h
  lives_joined _ n (child t l none) h =
      count_more eq is (λ u. IsLive (tasks u)) (λ u. IsLive (with_task eq (Some (t, Live l 0 0 0)) tasks u)) n t (λ z. elim (subst (λ (x : Task L). IsLive x) none z) [ ])
      ((same_live (here t (Live l 0 0 0))).0 is_live) (other t (Live l 0 0 0)) h

  pub lives_left : (own : Option (Name E × Task L)) (n : ℕ) → Turn tasks own → Lives n → Count (λ t. IsLive (with_task eq own tasks t)) (left own n)
  lives_left _ n idle h = h
  lives_left _ n (on t l o f a p g b q was gf ba qp) h =
      count_same (λ u. IsLive (tasks u)) (λ u. IsLive (with_task eq (Some (t, Live o g b q)) tasks u)) n (stays_live t (Live o g b q) (live_is _ l f a p was) is_live) h
  lives_left _ n (off t l f a p was) h =
      count_fewer eq is (λ u. IsLive (tasks u)) (λ u. IsLive (with_task eq (Some (t, Ended)) tasks u)) n t (live_is _ l f a p was)
      (λ z. elim ((same_live (here t Ended)).1 z) [ ]) (other t Ended) h

  pub few_joined : (made : Option (Name E × Task L)) (n : ℕ) → Start tasks made → AreFew tasks n → AreFew (with_task eq made tasks) n
  few_joined _ n nobody h = h
  few_joined _ n (child t k none) h = few_with t (Live k 0 0 0) n n h (omega arith) (λ l f a p e. numbers_of k l 0 0 0 f a p n (omega arith) (omega arith) (omega arith) e)

  pub few_gone : (own : Option (Name E × Task L)) (n : ℕ) → Turn tasks own → AreFew tasks n → AreFew (with_task eq own tasks) (n + 1)
  few_gone _ n idle h = λ u l f a p e. let w = h u l f a p e in (omega (arith, w.0), omega (arith, w.1), omega (arith, w.2))
  few_gone _ n (on t l o f a p g b q was gf ba qp) h =
      let w = h t l f a p was in
      few_with t (Live o g b q) n (n + 1) h (omega arith) (λ l2 f2 a2 p2 e. numbers_of o l2 g b q f2 a2 p2 (n + 1) (omega (arith, w.0, gf)) (omega (arith, w.1, ba)) (omega (arith, w.2, qp)) e)
  few_gone _ n (off t l f a p was) h = few_with t Ended n (n + 1) h (omega arith) (λ l2 f2 a2 p2 e. absurd (cc e))

  -- the acting task isn't the one that starts
  still : (made : Option (Name E × Task L)) → Start tasks made → (t : Name E) (l : L) (f a p : ℕ) → tasks t ≡ Live l f a p → with_task eq made tasks t ≡ Live l f a p
  still _ nobody t l f a p was = was
  still _ (child u k none) t l f a p was =
      with_task-other eq is u (Live k 0 0 0) tasks t (λ e. let no : Live l f a p ≡ Absent = sym was ∙ subst (λ x. tasks x ≡ Absent) (sym e) none in cc no) ∙ was

  pub turns_still : (own made : Option (Name E × Task L)) → Start tasks made → Turn tasks own → Turn (with_task eq made tasks) own
  turns_still _ made s idle = idle
  turns_still _ made s (on t l o f a p g b q was gf ba qp) = on t l o f a p g b q (still made s t l f a p was) gf ba qp
  turns_still _ made s (off t l f a p was) = off t l f a p (still made s t l f a p was)

module _ {S E R A L : Type 0} (M : Machine S E R A L) (ok : IsLawful M) (c : State S E L) where
  module _ (ch : Change S E L) (n : ℕ) (t : Turn c.tasks ch.own) (s : Start c.tasks ch.made) where
    pub live_after : HasLive c n → HasLive (changed M ch c) (left ch.own (joined ch.made n))
    live_after h =
        let more = lives_joined M.event_same ok.event_same_is c.tasks ch.made n s (record { names = h.names; once = h.once; just = h.just; count = h.count }) in
        let z = lives_left M.event_same ok.event_same_is (with_task M.event_same ch.made c.tasks) ch.own _ (turns_still M.event_same ok.event_same_is c.tasks ch.own ch.made s t) more in
        record { names = z.names; once = z.once; just = z.just; count = z.count }

    pub few_after : AreFew c.tasks n → AreFew (changed M ch c).tasks (n + 1)
    few_after h = few_gone M.event_same ok.event_same_is (with_task M.event_same ch.made c.tasks) ch.own n (turns_still M.event_same ok.event_same_is c.tasks ch.own ch.made s t)
        (few_joined M.event_same ok.event_same_is c.tasks ch.made n s h)
