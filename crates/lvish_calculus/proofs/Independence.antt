-- Steps of disjoint footprints commute, and steps stay in greater contents.
use Rattle.std.proofs.Common.{◌≡◌, ◌⊎◌, inl, inr, ℕ, Contains, false, Option, Some, None, IsSome, refl, sym, ◌∙◌, ap, subst}
use Rattle.std.proofs.lemmas.Bool.{cases_Bool}
use Rattle.lvish_names.specs.Names.{Name}
use Rattle.lvish_lattice.specs.Lattice.{IsAtOrBelow}
use Rattle.lvish_calculus.specs.Machine.{Machine, IsLawful, Put, Get, Fork, Add, Freeze, Pause, End, Content, Conflict}
use Rattle.lvish_calculus.specs.Calculus.{State, Running, Error, Live, Label, Act, Hand, Change, Changes, changed, IsOn, IsQuiescent, IsEnabled, Freezes, effect, step}
use Rattle.lvish_calculus.specs.Independence.{footprint, AreDisjoint, DisjointCommute, task_variable, request_variable, with_contents, StepsStay}
use Rattle.lvish_calculus.proofs.Steps.{Makes, puts, gets, forks, adds, freezes, pauses, ends, hands, view, unview}
use Rattle.lvish_calculus.proofs.Order.{IsLe, le_trans, below_le}
use Rattle.lvish_calculus.proofs.Sound.{IsSound, some_is}
use Rattle.lvish_calculus.proofs.Keeps.{handlers_stay}
use Rattle.lvish_calculus.proofs.Moves.{ready_at, ready_from, content_le, task_stays, not_handed_stays, frozen_by, touches, Untouched, quiet_stays}
use Rattle.lvish_calculus.proofs.Diamond.{commute}
use Rattle.lvish_calculus.proofs.Runs.{step_is, made_by, reached}

module _ {S E R A L : Type 0} (M : Machine S E R A L) (ok : IsLawful M) (c : State S E L) where
  -- a task's request tells its footprint
  footprint_at : (t : Name E) (o : L) (f a p v : ℕ) → c.tasks t ≡ Live o f a p → request_variable M (M.request o) ≡ Some v → (l : Label E) → l ≡ Act t → footprint M c l ≡ Some v
  footprint_at t o f a p v is q l e = ap (λ x. footprint M c x) e ∙ ap (λ k. task_variable M k) is ∙ q

  module _ (s : IsSound c) (m : Label E) (chm : Change S E L) (mm : Makes M c m chm) (enm : IsEnabled M c m) where
    -- a step leaves a variable that isn't in its footprint as it was
    untouched : (v : ℕ) → (footprint M c m ≡ Some v → ⊥) → Untouched M c (changed M chm c) v
    untouched v out = elim (touches M ok c m chm mm v) [
      | inl un ↦ un
      | inr (inl r) ↦ absurd (out (footprint_at r.task r.local r.forks r.adds r.puts v r.is (ap (request_variable M) r.asked) m r.label))
      | inr (inr r) ↦ absurd (out (footprint_at r.task r.local r.forks r.adds r.puts v r.is (ap (request_variable M) r.asked ∙ r.of) m r.label))
    ]

    unfrozen : (v : ℕ) → (footprint M c m ≡ Some v → ⊥) → c.frozen v ≡ false → (changed M chm c).frozen v ≡ false
    unfrozen v out z = elim (cases_Bool ((changed M chm c).frozen v)) [
      | inl y ↦ let fr = frozen_by M ok c m chm mm v z y in
          absurd (out (footprint_at fr.task fr.local fr.forks fr.adds fr.puts v fr.is (ap (request_variable M) fr.asked) m fr.label))
      | inr y ↦ y
    ]

    -- a step l after another one, m, of a disjoint footprint
    after_disjoint : (l : Label E) (chl : Change S E L) → Makes M c l chl → IsEnabled M c l → (m ≡ l → ⊥) → AreDisjoint M c l m
        → Makes M (changed M chm c) l chl × IsEnabled M (changed M chm c) l
    after_disjoint l chl (puts t o f a p v d z is q j same) en ne apart =
        let is2 = task_stays M ok c m chm mm enm s t o f a p is ne in
        let out = apart v (footprint_at t o f a p v is (ap (request_variable M) q) (Act t) refl) in
        let un = untouched v out in
        let same2 : ((changed M chm c).frozen v ≡ false) ⊎ (z ≡ (changed M chm c).content v) = elim same [ inl x ↦ inl (unfrozen v out x) | inr x ↦ inr (x ∙ sym un.content) ] in
        (puts t o f a p v d z is2 q (ap (λ x. M.join x d) un.content ∙ j) same2, ready_at M ok (changed M chm c) t o f a p (Put v d) is2 q tt)
    after_disjoint l chl (gets t o f a p v r x is q j) en ne apart =
        let is2 = task_stays M ok c m chm mm enm s t o f a p is ne in
        let j2 : M.answer r ((changed M chm c).content v) ≡ Some x = ok.answer_stays o v r q _ _ x (content_le M ok c m chm mm enm s v) j in
        (gets t o f a p v r x is2 q j2, ready_at M ok (changed M chm c) t o f a p (Get v r) is2 q (subst (λ y. IsSome y) (sym j2) refl))
    after_disjoint l chl (forks t o f a p k is q b) en ne apart =
        let is2 = task_stays M ok c m chm mm enm s t o f a p is ne in
        (forks t o f a p k is2 q b, ready_at M ok (changed M chm c) t o f a p (Fork k) is2 q tt)
    after_disjoint l chl (adds t o f a p pool procedure v is q b w z) en ne apart =
        let is2 = task_stays M ok c m chm mm enm s t o f a p is ne in
        let out = apart v (footprint_at t o f a p v is (ap (request_variable M) q ∙ w) (Act t) refl) in
        (adds t o f a p pool procedure v is2 q b w (unfrozen v out z), ready_at M ok (changed M chm c) t o f a p (Add pool procedure) is2 q tt)
    after_disjoint l chl (freezes t o f a p v pools is q) en ne apart =
        let is2 = task_stays M ok c m chm mm enm s t o f a p is ne in
        let quiet : IsQuiescent M c v pools = ready_from M ok c t o f a p (Freeze v pools) is q en in
        let un = untouched v (apart v (footprint_at t o f a p v is (ap (request_variable M) q) (Act t) refl)) in (
          subst (λ x. Makes M (changed M chm c) (Act t) (record { own = Some (t, Live (M.resume (M.at o) (Content x)) f a p); made = None; added = None; joined = None; froze = Some v; handing = None })) un.content (freezes t o f a p v pools is2 q),
          ready_at M ok (changed M chm c) t o f a p (Freeze v pools) is2 q (quiet_stays M ok c m chm mm enm s v pools (ok.freeze_own o v pools q) quiet un),
        )
    after_disjoint l chl (pauses t o f a p is q) en ne apart =
        let is2 = task_stays M ok c m chm mm enm s t o f a p is ne in
        (pauses t o f a p is2 q, ready_at M ok (changed M chm c) t o f a p Pause is2 q tt)
    after_disjoint l chl (ends t o f a p is q) en ne apart =
        let is2 = task_stays M ok c m chm mm enm s t o f a p is ne in
        (ends t o f a p is2 q, ready_at M ok (changed M chm c) t o f a p End is2 q tt)
    after_disjoint l chl (hands h x post is) en ne apart =
        let on2 : IsOn M (changed M chm c) h en.variable = record { post = en.on.post; is = handlers_stay M ok c m chm mm enm s h en.on.post en.on.is; of = en.on.of } in (
          hands h x post (handlers_stay M ok c m chm mm enm s h post is),
          record { variable = en.variable; on = on2; below = below_le M ok x _ _ (content_le M ok c m chm mm enm s en.variable) en.below; not_handed = not_handed_stays M ok c m chm mm h x en.not_handed ne },
        )

module _ {S E R A L : Type 0} (M : Machine S E R A L) (ok : IsLawful M) where
  pub disjoint_commute : DisjointCommute M
  disjoint_commute ls c c1 c2 l m run ne apart enl enm stl stm =
      let a = made_by M ok c c1 l enl _ refl stl in
      let b = made_by M ok c c2 m enm _ refl stm in
      let s = reached M ok ls c run in
      let lm = after_disjoint M ok c s m b.change b.makes enm l a.change a.makes enl (λ e. ne (sym e)) apart in
      let ml = after_disjoint M ok c s l a.change a.makes enl m b.change b.makes enm ne (λ v x y. apart v y x) in
      let swap = commute M ok c s l a.change a.makes enl m b.change b.makes enm ne lm.0 ml.0 in
      let G : State S E L → State S E L → Type 0 = λ x y. (d : State S E L) × IsEnabled M x m × IsEnabled M y l × (step M x m ≡ Running d) × (step M y l ≡ Running d) in
      let g : G (changed M a.change c) (changed M b.change c) = (changed M a.change (changed M b.change c), ml.1, lm.1, step_is M ok _ m b.change ml.0 ∙ ap Running swap, step_is M ok _ l a.change lm.0) in
      subst (λ x. G x c2) (sym a.is) (subst (λ y. G (changed M a.change c) y) (sym b.is) g)

  -- ---- in greater contents

  module _ (c : State S E L) (greater : ℕ → S) (le : (v : ℕ) → IsAtOrBelow M.join (c.content v) (greater v)) where
    abbrev Stays : Label E → Change S E L → Type 0
    Stays l ch = IsEnabled M (with_contents M c greater) l
        × ((effect M (with_contents M c greater) l ≡ Changes ch) ⊎ ((v : ℕ) × (t : Name E) × (step M (with_contents M c greater) l ≡ Error Conflict (Some v) t)))

    makes_stays : (l : Label E) (ch : Change S E L) → IsEnabled M (with_contents M c greater) l → Makes M (with_contents M c greater) l ch → Stays l ch
    makes_stays l ch en m = (en, inl (unview M ok (with_contents M c greater) l ch m))

    put_stays : (t : Name E) (o : L) (f a p v : ℕ) (d s : S) (ch : Change S E L) → Makes M c (Act t) ch → c.tasks t ≡ Live o f a p → M.request o ≡ Put v d
        → M.join (c.content v) d ≡ Some s → (c.frozen v ≡ false) ⊎ (s ≡ c.content v)
        → ((z : S) → M.join (greater v) d ≡ Some z → (c.frozen v ≡ false) ⊎ (z ≡ greater v) → Makes M (with_contents M c greater) (Act t) ch)
        → (r : Option S) → M.join (greater v) d ≡ r → Stays (Act t) ch
    put_stays t o f a p v d s ch m is q j same makes None top = (ready_at M ok (with_contents M c greater) t o f a p (Put v d) is q tt, inr (v, t, rw (is, q, top)))
    put_stays t o f a p v d s ch m is q j same makes (Some z) k =
        let same2 : (c.frozen v ≡ false) ⊎ (z ≡ greater v) = elim same [
          | inl x ↦ inl x
          | inr x ↦
              let low : IsLe M ok d (c.content v) = ok.join_comm d (c.content v) ∙ j ∙ ap Some x in
              let up : IsLe M ok d (greater v) = le_trans M ok d (c.content v) (greater v) low (le v) in
              inr (some_is (sym k ∙ ok.join_comm (greater v) d ∙ up))
        ] in
        makes_stays (Act t) ch (ready_at M ok (with_contents M c greater) t o f a p (Put v d) is q tt) (makes z k same2)

    stays : (l : Label E) (ch : Change S E L) → Makes M c l ch → ((v : ℕ) → Freezes M c l v → greater v ≡ c.content v) → IsEnabled M c l → Stays l ch
    stays l ch (puts t o f a p v d s is q j same) own en = put_stays t o f a p v d s ch (puts t o f a p v d s is q j same) is q j same (λ z k same2. puts t o f a p v d z is q k same2) _ refl
    stays l ch (gets t o f a p v r x is q j) own en =
        let j2 : M.answer r (greater v) ≡ Some x = ok.answer_stays o v r q _ _ x (le v) j in
        makes_stays (Act t) ch (ready_at M ok (with_contents M c greater) t o f a p (Get v r) is q (subst (λ y. IsSome y) (sym j2) refl)) (gets t o f a p v r x is q j2)
    stays l ch (forks t o f a p k is q b) own en = makes_stays (Act t) ch (ready_at M ok (with_contents M c greater) t o f a p (Fork k) is q tt) (forks t o f a p k is q b)
    stays l ch (adds t o f a p pool procedure v is q b w z) own en =
        makes_stays (Act t) ch (ready_at M ok (with_contents M c greater) t o f a p (Add pool procedure) is q tt) (adds t o f a p pool procedure v is q b w z)
    stays l ch (freezes t o f a p v pools is q) own en =
        let same : greater v ≡ c.content v = own v (record { task = t; local = o; forks = f; adds = a; puts = p; pools = pools; label = refl; is = is; asked = q }) in
        let quiet : IsQuiescent M c v pools = ready_from M ok c t o f a p (Freeze v pools) is q en in
        let quiet2 : IsQuiescent M (with_contents M c greater) v pools = record {
          drained = λ h e on below. quiet.drained h e (record { post = on.post; is = on.is; of = on.of }) (subst (λ x. Contains (M.events x) e) same below);
          ended = λ u i live. quiet.ended u (record { handler = i.handler; of = i.of; post = i.post; is = i.is; listed = i.listed }) live;
        } in
        makes_stays (Act t) ch (ready_at M ok (with_contents M c greater) t o f a p (Freeze v pools) is q quiet2)
        (subst (λ x. Makes M (with_contents M c greater) (Act t) (record { own = Some (t, Live (M.resume (M.at o) (Content x)) f a p); made = None; added = None; joined = None; froze = Some v; handing = None })) same (freezes t o f a p v pools is q))
    stays l ch (pauses t o f a p is q) own en = makes_stays (Act t) ch (ready_at M ok (with_contents M c greater) t o f a p Pause is q tt) (pauses t o f a p is q)
    stays l ch (ends t o f a p is q) own en = makes_stays (Act t) ch (ready_at M ok (with_contents M c greater) t o f a p End is q tt) (ends t o f a p is q)
    stays l ch (hands h x post is) own en =
        makes_stays (Hand h x) ch (record {
          variable = en.variable;
          on = record { post = en.on.post; is = en.on.is; of = en.on.of };
          below = below_le M ok x _ _ (le en.variable) en.below;
          not_handed = en.not_handed;
        }) (hands h x post is)

  pub steps_stay : StepsStay M
  steps_stay c greater l ch le own en e = stays c greater le l ch (view M ok c l ch e) own en
