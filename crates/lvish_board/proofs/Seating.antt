-- Entries of a list whose places in it are noted at their indices.
use Rattle.std.proofs.Common.{◌≡◌, ◌⊎◌, inl, inr, ℕ, zero, suc, ◌+◌, ◌-◌, ◌<◌, List, [], ◌∷◌, ◌++◌, length, get_or, Some, None, refl, sym, ap, subst, ◌∙◌, arith}
use Rattle.std.specs.Prelude.{slice_get, slice_set}
use Rattle.std.proofs.lemmas.Option.{slice_get_within, get_or_from_slice_get, slice_get-get_or, same_Some, none-some}
use Rattle.std.proofs.lemmas.Bool.{cases_eq}
use Rattle.lvish_calculus.specs.Handing.{IsAmong}
use Rattle.lvish_core.specs.laws.Lists.{among_map}
use Rattle.lvish_board.specs.Seated.{AreSeated, indices_of, stands_of}
use Rattle.lvish_board.proofs.Among.{of_map}

module _ {X : Type 0} where
  -- what is in a list stands somewhere in it
  pub stands_at : (x : X) (xs : List X) → IsAmong x xs → (k : ℕ) × (slice_get xs k ≡ Some x)
  stands_at x [] i = absurd i
  stands_at x (y ∷ ys) (inl e) = (zero, ap Some (sym e))
  stands_at x (y ∷ ys) (inr i) = let r = stands_at x ys i in (suc r.0, r.1)

  pub stands_among : (xs : List X) (k : ℕ) (x : X) → slice_get xs k ≡ Some x → IsAmong x xs
  stands_among [] k x e = absurd (cc e)
  stands_among (y ∷ ys) zero x e = inl (cc e)
  stands_among (y ∷ ys) (suc k) x e = inr (stands_among ys k x e)

  -- in a list with one more at its end
  pub get_pushed : (xs : List X) (x : X) (k : ℕ) (y : X) → slice_get (xs ++ x ∷ []) k ≡ Some y → (slice_get xs k ≡ Some y) ⊎ ((k ≡ length xs) × (y ≡ x))
  get_pushed [] x zero y e = inr (refl, cc e)
  get_pushed [] x (suc k) y e = absurd (cc e)
  get_pushed (z ∷ zs) x zero y e = inl e
  get_pushed (z ∷ zs) x (suc k) y e = elim (get_pushed zs x k y e) [
    | inl here ↦ inl here
    | inr last ↦ inr (ap suc last.0, last.1)
  ]

  -- where another is written
  pub get_set_other : (xs : List X) (i : ℕ) (x : X) (j : ℕ) (y : X) → (j ≡ i → ⊥) → slice_get xs j ≡ Some y → slice_get (slice_set xs i x) j ≡ Some y
  get_set_other [] i x j y other e = absurd (cc e)
  get_set_other (z ∷ zs) zero x zero y other e = absurd (other refl)
  get_set_other (z ∷ zs) zero x (suc j) y other e = e
  get_set_other (z ∷ zs) (suc i) x zero y other e = e
  get_set_other (z ∷ zs) (suc i) x (suc j) y other e = get_set_other zs i x j y (λ q. other (ap suc q)) e

  pub get_set_same : (xs : List X) (i : ℕ) (x : X) → i < length xs → slice_get (slice_set xs i x) i ≡ Some x
  get_set_same [] i x lt = absurd (omega (arith, lt))
  get_set_same (z ∷ zs) zero x lt = refl
  get_set_same (z ∷ zs) (suc i) x lt = get_set_same zs i x (omega (arith, lt))

module _ {V : Type 0} where
  pub of_index : (i : ℕ) (es : List (ℕ × V)) → IsAmong i (indices_of es) → (v : V) × IsAmong (i, v) es
  of_index i es a = let r = of_map (λ (e : ℕ × V). e.0) i es a in (r.0.1, subst (λ j. IsAmong (j, r.0.1) es) r.2 r.1)

  pub of_stand : (v : V) (es : List (ℕ × V)) → IsAmong v (stands_of es) → (i : ℕ) × IsAmong (i, v) es
  of_stand v es a = let r = of_map (λ (e : ℕ × V). e.1) v es a in (r.0.0, subst (λ w. IsAmong (r.0.0, w) es) r.2 r.1)

  pub index_among : (e : ℕ × V) (es : List (ℕ × V)) → IsAmong e es → IsAmong e.0 (indices_of es)
  index_among e es i = among_map (λ (x : ℕ × V). x.0) e es i

  pub stand_listed : (e : ℕ × V) (es : List (ℕ × V)) → IsAmong e es → IsAmong e.1 (stands_of es)
  stand_listed e es i = among_map (λ (x : ℕ × V). x.1) e es i

  module _ (seats : List ℕ) (es : List (ℕ × V)) (seated : AreSeated seats es) where
    -- an index at which nothing is noted is no entry's
    pub not_seated : (i : ℕ) → slice_get seats i ≡ None → IsAmong i (indices_of es) → ⊥
    not_seated i none a =
        let r = of_index i es a in
        let at = stands_at (i, r.0) es r.1 in
        let noted : slice_get seats i ≡ Some at.0 = seated at.0 (i, r.0) at.1 in
        absurd (none-some at.0 (sym none ∙ noted))

    -- nor one at which a place is noted where another entry stands, or none
    pub other_seated : (i k : ℕ) → slice_get seats i ≡ Some k → ((v : V) → slice_get es k ≡ Some (i, v) → ⊥) → IsAmong i (indices_of es) → ⊥
    other_seated i k is other a =
        let r = of_index i es a in
        let at = stands_at (i, r.0) es r.1 in
        let noted : slice_get seats i ≡ Some at.0 = seated at.0 (i, r.0) at.1 in
        let same : at.0 ≡ k = same_Some at.0 k (sym noted ∙ is) in
        other r.0 (subst (λ j. slice_get es j ≡ Some (i, r.0)) same at.1)

    -- two entries of one index are one
    pub one_of_index : (i : ℕ) (v w : V) → IsAmong (i, v) es → IsAmong (i, w) es → v ≡ w
    one_of_index i v w a b =
        let p = stands_at (i, v) es a in
        let q = stands_at (i, w) es b in
        let one : slice_get seats i ≡ Some p.0 = seated p.0 (i, v) p.1 in
        let other : slice_get seats i ≡ Some q.0 = seated q.0 (i, w) q.1 in
        let same : p.0 ≡ q.0 = same_Some p.0 q.0 (sym one ∙ other) in
        ap (λ (e : ℕ × V). e.1) (same_Some (i, v) (i, w) (sym (subst (λ k. slice_get es k ≡ Some (i, v)) same p.1) ∙ q.1))

    -- one more entry at the end, and its place noted
    pub pushed_seated : (more : List ℕ) (i : ℕ) (v : V) → ((j k : ℕ) → slice_get seats j ≡ Some k → slice_get more j ≡ Some k) → i < length more → (IsAmong i (indices_of es) → ⊥) → AreSeated (slice_set more i (length es)) (es ++ (i, v) ∷ [])
    pushed_seated more i v kept lt absent k e at = elim (get_pushed es (i, v) k e at) [
      | inl here ↦ get_set_other more i (length es) e.0 k (λ same. absent (subst (λ j. IsAmong j (indices_of es)) same (index_among e es (stands_among es k e here)))) (kept e.0 k (seated k e here))
      | inr last ↦ subst (λ x. slice_get (slice_set more i (length es)) x.0 ≡ Some k) (sym last.1) (subst (λ n. slice_get (slice_set more i (length es)) i ≡ Some n) (sym last.0) (get_set_same more i (length es) lt))
    ]

    -- the last entry in the place of one that is taken out
    module _ (s : ℕ) (fs : List (ℕ × V)) (count : length fs + 1 ≡ length es)
        (moved : (d : ℕ × V) → s + 1 < length es → get_or fs s d ≡ get_or es (length es - 1) d) (stay : (k : ℕ) (d : ℕ × V) → (k ≡ s → ⊥) → k + 1 < length es → get_or fs k d ≡ get_or es k d) where
      -- what stands elsewhere has stood there
      stood : (k : ℕ) (e : ℕ × V) → slice_get fs k ≡ Some e → (k ≡ s → ⊥) → (slice_get es k ≡ Some e) × (k + 1 < length es)
      stood k e at other =
          let lt : k < length fs = slice_get_within fs k e at in
          let less : k + 1 < length es = omega (arith, lt, count) in
          let is : get_or es k e ≡ e = sym (stay k e other less) ∙ get_or_from_slice_get fs k e e at in
          (slice_get-get_or es k e (omega (arith, less)) ∙ ap Some is, less)

      -- and what stands there was the last
      pub stood_last : (e : ℕ × V) → slice_get fs s ≡ Some e → slice_get es (length es - 1) ≡ Some e
      stood_last e at =
          let lt : s < length fs = slice_get_within fs s e at in
          let less : s + 1 < length es = omega (arith, lt, count) in
          let is : get_or es (length es - 1) e ≡ e = sym (moved e less) ∙ get_or_from_slice_get fs s e e at in
          slice_get-get_or es (length es - 1) e (omega (arith, less)) ∙ ap Some is

      pub moved_seated : (e : ℕ × V) → slice_get fs s ≡ Some e → AreSeated (slice_set seats e.0 s) fs
      moved_seated e at k f there = by (cases_eq k s)
        where
          last : slice_get seats e.0 ≡ Some (length es - 1)
          last = seated (length es - 1) e (stood_last e at)

          by : (k ≡ s) ⊎ (k ≡ s → ⊥) → slice_get (slice_set seats e.0 s) f.0 ≡ Some k
          by (inl same) =
              let is : f ≡ e = same_Some f e (sym (subst (λ j. slice_get fs j ≡ Some f) same there) ∙ at) in
              subst (λ x. slice_get (slice_set seats e.0 s) x.0 ≡ Some k) (sym is) (subst (λ j. slice_get (slice_set seats e.0 s) e.0 ≡ Some j) (sym same) (get_set_same seats e.0 s (slice_get_within seats e.0 (length es - 1) last)))
          by (inr other) =
              let was = stood k f there other in
              get_set_other seats e.0 s f.0 k (λ same.
              let z : k ≡ length es - 1 = same_Some k (length es - 1) (sym (seated k f was.0) ∙ ap (slice_get seats) same ∙ last) in
              let less = was.1 in
              absurd (omega (arith, z, less))) (seated k f was.0)

      pub ended_seated : slice_get fs s ≡ None → AreSeated seats fs
      ended_seated none k f there = by (cases_eq k s)
        where
          by : (k ≡ s) ⊎ (k ≡ s → ⊥) → slice_get seats f.0 ≡ Some k
          by (inl same) = absurd (none-some f (sym none ∙ subst (λ j. slice_get fs j ≡ Some f) same there))
          by (inr other) = seated k f (stood k f there other).0
