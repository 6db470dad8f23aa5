-- Programs whose local states are matched play alike.
use Rattle.std.proofs.Common.{◌≡◌, ℕ, Bool, List, Option, Some, Ordering, refl, sym, ◌∙◌, subst}
use Rattle.lvish_names.specs.Names.{Name}
use Rattle.lvish_calculus.specs.declared.request.Request.{Request}
use Rattle.lvish_calculus.specs.declared.request.Request.TheVariants.{Put, Get, Fork, Add, Freeze, Pause, End, Fault}
use Rattle.lvish_calculus.specs.declared.request.Reply.{Reply}
use Rattle.lvish_calculus.specs.declared.request.Reply.TheVariants.{Done, Answer, Content}
use Rattle.lvish_calculus.specs.Machine.{Machine}
use Rattle.lvish_calculus.specs.Program.{Functions, IsReplyTo, machine_of}
use Rattle.lvish_calculus.specs.LeastModel.{Plays, main_starts, after_put, after_get, after_fork, child_starts, after_add, handler_starts, after_freeze, after_pause}
use Rattle.lvish_calculus.specs.SameRuns.{SameRequest, IsMatch, without_child}
use Rattle.lvish_calculus.proofs.SameThere.{Base, over}
use Rattle.lvish_task.specs.SamePlays.{HaveSamePlays}

module _ {S R L K : Type 0} (P : L → K → Type 0) where
  -- what is the same as a request that is known
  put_there : (q : Request S R K) (v : ℕ) (d : S) → SameRequest P (Put v d) q → q ≡ Put v d
  put_there (Put w e) v d z = λ i. Put ((sym z.0) i) ((sym z.1) i)
  put_there q v d z = absurd z

  get_there : (q : Request S R K) (v : ℕ) (r : R) → SameRequest P (Get v r) q → q ≡ Get v r
  get_there (Get w e) v r z = λ i. Get ((sym z.0) i) ((sym z.1) i)
  get_there q v r z = absurd z

  fork_there : (q : Request S R K) (l : L) → SameRequest P (Fork l) q → (k : K) × (q ≡ Fork k) × P l k
  fork_there (Fork k) l z = (k, refl, z)
  fork_there q l z = absurd z

  add_there : (q : Request S R K) (p n : ℕ) → SameRequest P (Add p n) q → q ≡ Add p n
  add_there (Add j m) p n z = λ i. Add ((sym z.0) i) ((sym z.1) i)
  add_there q p n z = absurd z

  freeze_there : (q : Request S R K) (v : ℕ) (pools : List ℕ) → SameRequest P (Freeze v pools) q → q ≡ Freeze v pools
  freeze_there (Freeze w js) v pools z = λ i. Freeze ((sym z.0) i) ((sym z.1) i)
  freeze_there q v pools z = absurd z

  pause_there : (q : Request S R K) → SameRequest P Pause q → q ≡ Pause
  pause_there Pause z = refl
  pause_there q z = absurd z

  -- and the other way round
  put_back : (q : Request S R L) (v : ℕ) (d : S) → SameRequest P q (Put v d) → q ≡ Put v d
  put_back (Put w e) v d z = λ i. Put (z.0 i) (z.1 i)
  put_back q v d z = absurd z

  get_back : (q : Request S R L) (v : ℕ) (r : R) → SameRequest P q (Get v r) → q ≡ Get v r
  get_back (Get w e) v r z = λ i. Get (z.0 i) (z.1 i)
  get_back q v r z = absurd z

  fork_back : (q : Request S R L) (k : K) → SameRequest P q (Fork k) → (l : L) × (q ≡ Fork l) × P l k
  fork_back (Fork l) k z = (l, refl, z)
  fork_back q k z = absurd z

  add_back : (q : Request S R L) (p n : ℕ) → SameRequest P q (Add p n) → q ≡ Add p n
  add_back (Add j m) p n z = λ i. Add (z.0 i) (z.1 i)
  add_back q p n z = absurd z

  freeze_back : (q : Request S R L) (v : ℕ) (pools : List ℕ) → SameRequest P q (Freeze v pools) → q ≡ Freeze v pools
  freeze_back (Freeze w js) v pools z = λ i. Freeze (z.0 i) (z.1 i)
  freeze_back q v pools z = absurd z

  pause_back : (q : Request S R L) → SameRequest P q Pause → q ≡ Pause
  pause_back Pause z = refl
  pause_back q z = absurd z

  -- the same requests are equal but for a fork's child
  same_outside : (r : Request S R L) (q : Request S R K) → SameRequest P r q → without_child r ≡ without_child q
  same_outside (Put v d) (Put w e) z = λ i. Put (z.0 i) (z.1 i)
  same_outside (Get v r) (Get w q) z = λ i. Get (z.0 i) (z.1 i)
  same_outside (Fork l) (Fork k) z = refl
  same_outside (Add i p) (Add j q) z = λ x. Add (z.0 x) (z.1 x)
  same_outside (Freeze v is) (Freeze w js) z = λ i. Freeze (z.0 i) (z.1 i)
  same_outside Pause Pause z = refl
  same_outside End End z = refl
  same_outside (Fault i) (Fault j) z = λ x. Fault (z x)
  same_outside r q z = absurd z

module _ {S E R A L K : Type 0} (B : Base S E R A) (f : Functions S E R A L) (g : Functions S E R A K) (P : L → K → Type 0) (Q : ℕ → Type 0) (ok : IsMatch f g P Q) where
  abbrev M : Machine S E R A L
  M = over B f

  abbrev N : Machine S E R A K
  N = over B g

  -- the matched local state asks for the same as one whose request is known
  asks_there : (l : L) (k : K) (r : Request S R L) → P l k → f.request l ≡ r → SameRequest P r (g.request k)
  asks_there l k r m e = subst (λ x. SameRequest P x (g.request k)) e (ok.request l k m)

  asks_back : (l : L) (k : K) (r : Request S R K) → P l k → g.request k ≡ r → SameRequest P (f.request l) r
  asks_back l k r m e = subst (λ x. SameRequest P (f.request l) x) e (ok.request l k m)

  -- local states after the reply to a request that is known are matched
  replied : (l : L) (k : K) (r : Request S R L) (x : Reply S A) → P l k → f.request l ≡ r → IsReplyTo r x → P (f.resume (f.at l) x) (g.resume (g.at k) x)
  replied l k r x m e z = ok.resume l k x m (subst (λ y. IsReplyTo y x) (sym e) z)

  module _ (seen frozen : ℕ → S → Type 0) where
    -- what plays of the one plays of the other, at a matched local state
    plays_over : {t : Name E} {l : L} {n a : ℕ} → Plays M seen frozen t l n a → (k : K) × Plays N seen frozen t k n a × P l k
    plays_over main_starts = (g.start, main_starts, ok.start)
    plays_over (after_put {l = l} v d play q) =
        let z = plays_over play in
        (_, after_put v d z.1 (put_there P (g.request z.0) v d (asks_there l z.0 (Put v d) z.2 q)), replied l z.0 (Put v d) Done z.2 q tt)
    plays_over (after_get {l = l} v r s x play q is y) =
        let z = plays_over play in
        (_, after_get v r s x z.1 (get_there P (g.request z.0) v r (asks_there l z.0 (Get v r) z.2 q)) is y, replied l z.0 (Get v r) (Answer x) z.2 q tt)
    plays_over (after_fork {l = l} c play q) =
        let z = plays_over play in
        let y = fork_there P (g.request z.0) c (asks_there l z.0 (Fork c) z.2 q) in
        (_, after_fork y.0 z.1 y.1, replied l z.0 (Fork c) Done z.2 q tt)
    plays_over (child_starts {l = l} c play q) =
        let z = plays_over play in
        let y = fork_there P (g.request z.0) c (asks_there l z.0 (Fork c) z.2 q) in
        (y.0, child_starts y.0 z.1 y.1, y.2)
    plays_over (after_add {l = l} pool procedure play q) =
        let z = plays_over play in
        (_, after_add pool procedure z.1 (add_there P (g.request z.0) pool procedure (asks_there l z.0 (Add pool procedure) z.2 q)), replied l z.0 (Add pool procedure) Done z.2 q tt)
    plays_over (handler_starts {l = l} pool procedure v s e play q of is below) =
        let z = plays_over play in (
          _,
          handler_starts pool procedure v s e z.1 (add_there P (g.request z.0) pool procedure (asks_there l z.0 (Add pool procedure) z.2 q)) (sym (ok.pools pool) ∙ of) is below,
          ok.start_handler procedure e (ok.adds l z.0 z.2 pool procedure q),
        )
    plays_over (after_freeze {l = l} v pools s play q is) =
        let z = plays_over play in
        (_, after_freeze v pools s z.1 (freeze_there P (g.request z.0) v pools (asks_there l z.0 (Freeze v pools) z.2 q)) is, replied l z.0 (Freeze v pools) (Content s) z.2 q tt)
    plays_over (after_pause {l = l} play q) =
        let z = plays_over play in
        (_, after_pause z.1 (pause_there P (g.request z.0) (asks_there l z.0 Pause z.2 q)), replied l z.0 Pause Done z.2 q tt)

    -- and back
    plays_back : {t : Name E} {k : K} {n a : ℕ} → Plays N seen frozen t k n a → (l : L) × Plays M seen frozen t l n a × P l k
    plays_back main_starts = (f.start, main_starts, ok.start)
    plays_back (after_put {l = k} v d play q) =
        let z = plays_back play in
        let e = put_back P (f.request z.0) v d (asks_back z.0 k (Put v d) z.2 q) in
        (_, after_put v d z.1 e, replied z.0 k (Put v d) Done z.2 e tt)
    plays_back (after_get {l = k} v r s x play q is y) =
        let z = plays_back play in
        let e = get_back P (f.request z.0) v r (asks_back z.0 k (Get v r) z.2 q) in
        (_, after_get v r s x z.1 e is y, replied z.0 k (Get v r) (Answer x) z.2 e tt)
    plays_back (after_fork {l = k} c play q) =
        let z = plays_back play in
        let y = fork_back P (f.request z.0) c (asks_back z.0 k (Fork c) z.2 q) in
        (_, after_fork y.0 z.1 y.1, replied z.0 k (Fork y.0) Done z.2 y.1 tt)
    plays_back (child_starts {l = k} c play q) =
        let z = plays_back play in
        let y = fork_back P (f.request z.0) c (asks_back z.0 k (Fork c) z.2 q) in
        (y.0, child_starts y.0 z.1 y.1, y.2)
    plays_back (after_add {l = k} pool procedure play q) =
        let z = plays_back play in
        let e = add_back P (f.request z.0) pool procedure (asks_back z.0 k (Add pool procedure) z.2 q) in
        (_, after_add pool procedure z.1 e, replied z.0 k (Add pool procedure) Done z.2 e tt)
    plays_back (handler_starts {l = k} pool procedure v s x play q of is below) =
        let z = plays_back play in
        let e = add_back P (f.request z.0) pool procedure (asks_back z.0 k (Add pool procedure) z.2 q) in
        (_, handler_starts pool procedure v s x z.1 e (ok.pools pool ∙ of) is below, ok.start_handler procedure x (ok.adds z.0 k z.2 pool procedure e))
    plays_back (after_freeze {l = k} v pools s play q is) =
        let z = plays_back play in
        let e = freeze_back P (f.request z.0) v pools (asks_back z.0 k (Freeze v pools) z.2 q) in
        (_, after_freeze v pools s z.1 e is, replied z.0 k (Freeze v pools) (Content s) z.2 e tt)
    plays_back (after_pause {l = k} play q) =
        let z = plays_back play in
        let e = pause_back P (f.request z.0) (asks_back z.0 k Pause z.2 q) in
        (_, after_pause z.1 e, replied z.0 k Pause Done z.2 e tt)

  outside : (l : L) (k : K) → P l k → without_child (f.request l) ≡ without_child (g.request k)
  outside l k m = same_outside P (f.request l) (g.request k) (ok.request l k m)

  same_plays : HaveSamePlays M N
  same_plays = record {
    there = λ X F t l n a play. let z = plays_over (λ v s. s ≡ X v) (λ v s. F v ≡ Some s) play in (z.0, z.1, outside l z.0 z.2);
    back = λ X F t k n a play. let z = plays_back (λ v s. s ≡ X v) (λ v s. F v ≡ Some s) play in (z.0, z.1, sym (outside z.0 k z.2));
  }

-- programs whose local states are matched play alike
pub matching_plays : {S E R A L K : Type 0} (same : S → S → Bool) (event_same : E → E → Bool) (cmp : E → E → Ordering) (bottom : S) (join : S → S → Option S) (events : S → List E) (answer : R → S → Option A)
    (f : Functions S E R A L) (g : Functions S E R A K) (P : L → K → Type 0) (Q : ℕ → Type 0)
    → IsMatch f g P Q → HaveSamePlays (machine_of same event_same cmp bottom join events answer f) (machine_of same event_same cmp bottom join events answer g)
matching_plays {S} {E} {R} {A} same event_same cmp bottom join events answer f g P Q ok = same_plays base f g P Q ok
  where
    base : Base S E R A
    base = record { same = same; event_same = event_same; cmp = cmp; bottom = bottom; join = join; events = events; answer = answer }
