-- Runs in two parts, and core runs label by label.
use Rattle.std.proofs.Common.{◌≡◌, ℕ, List, [], ◌∷◌, ◌++◌, refl, sym, ◌∙◌, ap, subst, true, false, map, append_assoc, append-nil}
use Rattle.lvish_names.specs.Names.{main, Handler, Name}
use Rattle.lvish_calculus.specs.Machine.{Machine, IsLawful, IsBelow}
use Rattle.lvish_calculus.specs.Calculus.{Post, State, Running, Label, changed, IsRun, IsOn, start, Act, Hand}
use Rattle.lvish_calculus.specs.Laws.{Reaches}
use Rattle.lvish_calculus.specs.Handing.{IsNoLater, HandsOldestFirst}
use Rattle.lvish_calculus.proofs.Order.{below_le}
use Rattle.lvish_calculus.proofs.Sound.{IsSound, some_is}
use Rattle.lvish_calculus.proofs.Moves.{content_le}
use Rattle.lvish_calculus.proofs.Ends.{Way, here, goes, same_change}
use Rattle.lvish_calculus.proofs.Runs.{way_keeps, walked, reached, step_is}

module _ {S E R A L : Type 0} (M : Machine S E R A L) (ok : IsLawful M) where
  pub record Split (c d : State S E L) (xs ys : List (Label E)) : Type 0 where
    pub mid : State S E L
    pub front : Way M c xs mid
    pub back : Way M mid ys d

  pub split : (c d : State S E L) (xs ys : List (Label E)) → Way M c (xs ++ ys) d → Split c d xs ys
  split c d [] ys w = record { mid = c; front = here; back = w }
  split c d (l ∷ xs) ys (goes ch m en w) = let g = split (changed M ch c) d xs ys w in record { mid = g.mid; front = goes ch m en g.front; back = g.back }

  pub one_end : (c d d2 : State S E L) (ls : List (Label E)) → Way M c ls d → Way M c ls d2 → d ≡ d2
  one_end c d d2 [] here here = refl
  one_end c d d2 (l ∷ ls) (goes ch m en w) (goes ch2 m2 en2 w2) =
      let e : ch ≡ ch2 = same_change M ok c l ch ch2 m m2 in
      one_end (changed M ch2 c) d d2 ls (subst (λ x. Way M (changed M x c) ls d) e w) w2

  pub way_run : (c d : State S E L) (ls : List (Label E)) → Way M c ls d → IsRun M (Running c) ls (Running d)
  way_run c d [] here = refl
  way_run c d (l ∷ ls) (goes ch m en w) = (en, subst (λ x. IsRun M x ls (Running d)) (sym (step_is M ok c l ch m)) (way_run (changed M ch c) d ls w))

  pub run_way : (ls : List (Label E)) (c : State S E L) → Reaches M ls c → Way M (start M) ls c
  run_way ls c r = (walked M ok main ls (start M) c r).way

  content_way : (c d : State S E L) (ls : List (Label E)) → IsSound c → Way M c ls d → (v : ℕ) (e : E) → IsBelow M e (c.content v) → IsBelow M e (d.content v)
  content_way c d ls s w v e z = way_keeps M ok (λ (x : State S E L). IsBelow M e (x.content v)) (λ x l ch m en sx. below_le M ok e _ _ (content_le M ok x l ch m en sx v)) c d ls s w z

  -- a run leads to one configuration
  pub one_last : (ls : List (Label E)) (c d : State S E L) → Reaches M ls c → Reaches M ls d → c ≡ d
  one_last ls c d rc rd = one_end (start M) c d ls (run_way ls c rc) (run_way ls d rd)

  -- what is below at a first part of a run is below at its end
  pub below_later : (xs q r : List (Label E)) (c d : State S E L) → Reaches M xs d → xs ≡ q ++ r → Reaches M q c → (v : ℕ) (e : E) → IsBelow M e (c.content v) → IsBelow M e (d.content v)
  below_later xs q r c d rd cuts rc v e z =
      let w : Way M (start M) (q ++ r) d = subst (λ x. Way M (start M) x d) cuts (run_way xs d rd) in
      let g = split (start M) d q r w in
      let same : g.mid ≡ c = one_end (start M) g.mid c q g.front (run_way q c rc) in
      content_way c d r (reached M ok q c rc) (subst (λ x. Way M x r d) same g.back) v e z

-- a handler is on one variable
pub on_one : {S E R A L : Type 0} (M : Machine S E R A L) (c : State S E L) (h : Handler E) (v w : ℕ) → IsOn M c h v → IsOn M c h w → v ≡ w
on_one M c h v w x y = some_is (sym x.of ∙ ap (λ (p : Post). M.pool_variable p.pool) (some_is (sym x.is ∙ y.is)) ∙ y.of)

-- a list with one more in two parts: its whole, or within
pub data Cut {X : Type 0} (xs : List X) (l : X) (q : List X) : Type 0 where
  whole : q ≡ xs ++ l ∷ [] → Cut xs l q
  within : (r : List X) → xs ≡ q ++ r → Cut xs l q

head_is : {X : Type 0} {x y : X} {xs ys : List X} → x ∷ xs ≡ y ∷ ys → x ≡ y
head_is e = cc

tail_is : {X : Type 0} {x y : X} {xs ys : List X} → x ∷ xs ≡ y ∷ ys → xs ≡ ys
tail_is e = cc

no_cons : {X : Type 0} (x : X) (xs : List X) → [] ≡ x ∷ xs → ⊥
no_cons x xs e = cc

pub cut : {X : Type 0} (xs : List X) (l : X) (q r : List X) → xs ++ l ∷ [] ≡ q ++ r → Cut xs l q
cut xs l [] r e = within xs refl
cut [] l (y ∷ []) r e = whole (ap (λ z. z ∷ []) (sym (head_is e)))
cut [] l (y ∷ z ∷ q) r e = absurd (no_cons z (q ++ r) (tail_is e))
cut (x ∷ xs) l (y ∷ q) r e = elim (cut xs l q r (tail_is e)) [
  | whole w ↦ whole (ap (λ z. z ∷ q) (sym (head_is e)) ∙ ap (λ z. x ∷ z) w)
  | within s w ↦ within s (ap (λ z. x ∷ z) w ∙ ap (λ z. z ∷ (q ++ s)) (head_is e))
]

-- where an element of a list with one more stands
pub data Seat {X : Type 0} (xs : List X) (l : X) (p : List X) (y : X) : Type 0 where
  last : p ≡ xs → y ≡ l → Seat xs l p y
  before : (s : List X) → xs ≡ p ++ y ∷ s → Seat xs l p y

pub seat : {X : Type 0} (xs : List X) (l : X) (p : List X) (y : X) (s : List X) → xs ++ l ∷ [] ≡ p ++ y ∷ s → Seat xs l p y
seat [] l [] y s e = last refl (sym (head_is e))
seat [] l (z ∷ []) y s e = absurd (no_cons y s (tail_is e))
seat [] l (z ∷ w ∷ p) y s e = absurd (no_cons w (p ++ y ∷ s) (tail_is e))
seat (x ∷ xs) l [] y s e = before xs (ap (λ z. z ∷ xs) (head_is e))
seat (x ∷ xs) l (z ∷ p) y s e = elim (seat xs l p y s (tail_is e)) [
  | last a b ↦ last (ap (λ w. w ∷ p) (sym (head_is e)) ∙ ap (λ w. x ∷ w) a) b
  | before r w ↦ before r (ap (λ q. x ∷ q) w ∙ ap (λ q. q ∷ (p ++ y ∷ r)) (head_is e))
]

module _ {S E R A L : Type 0} (M : Machine S E R A L) (ok : IsLawful M) where
  module _ (xs : List (Label E)) (l : Label E) (c d : State S E L) (rc : Reaches M xs c) (rd : Reaches M (xs ++ l ∷ []) d) where
    -- what is below after the step is below before, in a part of the run
    pub no_later_one : (v : ℕ) (e x : E) → IsNoLater M xs v e x → IsBelow M e (d.content v) → IsNoLater M (xs ++ l ∷ []) v e x
    no_later_one v e x h below q r c1 cuts r1 b = elim (cut xs l q r cuts) [
      | whole w ↦ subst (λ (k : State S E L). IsBelow M e (k.content v)) (sym (one_last M ok q c1 d r1 (subst (λ k. Reaches M k d) (sym w) rd))) below
      | within s w ↦ h q s c1 w r1 b
    ]

    pub no_later_less : (v : ℕ) (e x : E) → IsNoLater M (xs ++ l ∷ []) v e x → IsNoLater M xs v e x
    no_later_less v e x h q r c1 w r1 b = h q (r ++ l ∷ []) c1 (ap (λ k. k ++ l ∷ []) w ∙ append_assoc q r (l ∷ [])) r1 b

    pub no_later_new : (v : ℕ) (e x : E) → (IsBelow M x (c.content v) → ⊥) → IsNoLater M xs v e x
    no_later_new v e x new q r c1 w r1 b = absurd (new (below_later M ok xs q r c1 c rc w r1 v x b))

  -- e is to be handed next: of the events that h wasn't handed, the first in the run's order
  pub record IsNext (xs : List (Label E)) (c : State S E L) (h : Handler E) (v : ℕ) (e : E) : Type 0 where
    pub first : (x : E) → IsBelow M x (c.content v) → c.handed h x ≡ false → IsNoLater M xs v e x × (IsNoLater M xs v x e → M.event_le e x ≡ true)

  pub core_none : HandsOldestFirst M []
  core_none [] s h e cuts c rc v on x below un = absurd (cc cuts)
  core_none (l ∷ p) s h e cuts c rc v on x below un = absurd (cc cuts)

  -- a step of a task
  pub core_act : (xs : List (Label E)) (t : Name E) → HandsOldestFirst M xs → HandsOldestFirst M (xs ++ Act t ∷ [])
  core_act xs t core p s h e cuts c rc v on x below un = elim (seat xs (Act t) p (Hand h e) s cuts) [
    | last a b ↦ absurd (cc b)
    | before r w ↦ core p r h e w c rc v on x below un
  ]

  pub core_acts : (xs : List (Label E)) (ts : List (Name E)) → HandsOldestFirst M xs → HandsOldestFirst M (xs ++ map Act ts)
  core_acts xs [] core = subst (λ q. HandsOldestFirst M q) (sym (append-nil xs)) core
  core_acts xs (t ∷ ts) core = subst (λ q. HandsOldestFirst M q) (append_assoc xs (Act t ∷ []) (map Act ts)) (core_acts (xs ++ Act t ∷ []) ts (core_act xs t core))

  -- the next event is handed
  pub core_hand : (xs : List (Label E)) (c : State S E L) (h : Handler E) (v : ℕ) (e : E) → Reaches M xs c → IsOn M c h v → IsNext xs c h v e → HandsOldestFirst M xs → HandsOldestFirst M (xs ++ Hand h e ∷ [])
  core_hand xs c h v e rc on next core p s g y cuts c1 rc1 u on1 x below un = elim (seat xs (Hand h e) p (Hand g y) s cuts) [
    | last a b ↦
        let N : List (Label E) → ℕ → E → Type 0 = λ q w z. IsNoLater M q w z x × (IsNoLater M q w x z → M.event_le z x ≡ true) in
        let gh : g ≡ h = cc in
        let ye : y ≡ e = cc in
        let cc1 : c1 ≡ c = one_last M ok xs c1 c (subst (λ q. Reaches M q c1) a rc1) rc in
        let on2 : IsOn M c h u = subst (λ k. IsOn M k h u) cc1 (subst (λ k. IsOn M c1 k u) gh on1) in
        let uv : u ≡ v = on_one M c h u v on2 on in
        let below2 : IsBelow M x (c.content v) = subst (λ k. IsBelow M x (c.content k)) uv (subst (λ (k : State S E L). IsBelow M x (k.content u)) cc1 below) in
        let un2 : c.handed h x ≡ false = subst (λ (k : State S E L). k.handed h x ≡ false) cc1 (subst (λ k. c1.handed k x ≡ false) gh un) in
        subst (λ q. N q u y) (sym a) (subst (λ w. N xs w y) (sym uv) (subst (λ z. N xs v z) (sym ye) (next.first x below2 un2)))
    | before r w ↦ core p r g y w c1 rc1 u on1 x below un
  ]
