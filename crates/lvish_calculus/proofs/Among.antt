-- Names in a list, and how many names a property holds of.
use Rattle.std.proofs.Common.{◌≡◌, ◌⊎◌, ◌↔◌, inl, inr, ℕ, suc, ◌+◌, ◌-◌, ◌≤◌, Bool, true, List, [], ◌∷◌, length, if◌then◌else◌, refl, sym, ap, ◌∙◌, subst, arith}
use Rattle.std.proofs.lemmas.Bool.{both_ways, cases_Bool}
use Rattle.lvish_names.specs.Names.{Name, same_name}
use Rattle.lvish_calculus.specs.Handing.{IsAmong, NoRepeats}
use Rattle.lvish_calculus.proofs.Names.{cases_name, same_name-true, same_name-refl}

-- so long is a list, without repeats, of just the names that P holds of
pub record Count {E : Type 0} (P : Name E → Type 0) (n : ℕ) : Type 0 where
  pub names : List (Name E)
  pub once : NoRepeats names
  pub just : (t : Name E) → IsAmong t names ↔ P t
  pub count : length names ≡ n

pub count_same : {E : Type 0} (P Q : Name E → Type 0) (n : ℕ) → ((u : Name E) → P u ↔ Q u) → Count P n → Count Q n
count_same P Q n same h = record {
  names = h.names;
  once = h.once;
  just = λ u. (λ x. (same u).0 ((h.just u).0 x), λ x. (h.just u).1 ((same u).1 x));
  count = h.count;
}

module _ {E : Type 0} (eq : E → E → Bool) (is : (a b : E) → (eq a b ≡ true) ↔ (a ≡ b)) where
  -- the list without its first t
  abbrev pub without : Name E → List (Name E) → List (Name E)
  without t [] = []
  without t (u ∷ us) = if same_name eq u t then us else u ∷ without t us

  pub among_without : (t u : Name E) (us : List (Name E)) → IsAmong u (without t us) → IsAmong u us
  among_without t u [] h = h
  among_without t u (x ∷ us) h = elim (cases_Bool (same_name eq x t)) [
    | inl b ↦ inr (rw b at h)
    | inr b ↦ elim (rw b at h) [ inl e ↦ inl e | inr z ↦ inr (among_without t u us z) ]
  ]

  pub stays_among : (t u : Name E) (us : List (Name E)) → (u ≡ t → ⊥) → IsAmong u us → IsAmong u (without t us)
  stays_among t u [] ne h = h
  stays_among t u (x ∷ us) ne h = elim (cases_Bool (same_name eq x t)) [
    | inl b ↦ rw b (elim h [ inl q ↦ absurd (ne (q ∙ same_name-true eq is x t b)) | inr z ↦ z ])
    | inr b ↦ rw b (elim h [ inl q ↦ inl q | inr z ↦ inr (stays_among t u us ne z) ])
  ]

  pub once_without : (t : Name E) (us : List (Name E)) → NoRepeats us → NoRepeats (without t us)
  once_without t [] h = h
  once_without t (x ∷ us) h = elim (cases_Bool (same_name eq x t)) [
    | inl b ↦ rw b h.1
    | inr b ↦ rw b (λ z. h.0 (among_without t x us z), once_without t us h.1)
  ]

  pub gone : (t : Name E) (us : List (Name E)) → NoRepeats us → IsAmong t (without t us) → ⊥
  gone t [] once h = h
  gone t (x ∷ us) once h = elim (cases_Bool (same_name eq x t)) [
    | inl b ↦ once.0 (subst (λ z. IsAmong z us) (sym (same_name-true eq is x t b)) (rw b at h))
    | inr b ↦ elim (rw b at h) [ inl q ↦ both_ways _ b (subst (λ z. same_name eq z t ≡ true) q (same_name-refl eq is t)) | inr z ↦ gone t us once.1 z ]
  ]

  pub one_less : (t : Name E) (us : List (Name E)) → IsAmong t us → length us ≡ suc (length (without t us))
  one_less t [] h = absurd h
  one_less t (x ∷ us) h = elim (cases_Bool (same_name eq x t)) [
    | inl b ↦ rw b refl
    | inr b ↦ rw b (elim h [ inl q ↦ absurd (both_ways _ b (subst (λ z. same_name eq z t ≡ true) q (same_name-refl eq is t))) | inr z ↦ ap suc (one_less t us z) ])
  ]

  module _ (P Q : Name E → Type 0) (n : ℕ) where
    pub count_more : (t : Name E) → (P t → ⊥) → Q t → ((u : Name E) → (u ≡ t → ⊥) → P u ↔ Q u) → Count P n → Count Q (n + 1)
    count_more t fresh made same h = record {
      names = t ∷ h.names;
      once = (λ x. fresh ((h.just t).0 x), h.once);
      just = λ u. (into u, out u);
      count = let e : length h.names ≡ n = h.count in omega arith;
    }
      where
        into : (u : Name E) → IsAmong u (t ∷ h.names) → Q u
        into u (inl e) = subst Q (sym e) made
        into u (inr x) = (same u (λ e. fresh (subst P e ((h.just u).0 x)))).0 ((h.just u).0 x)

        out : (u : Name E) → Q u → IsAmong u (t ∷ h.names)
        out u x = elim (cases_name eq is u t) [ inl e ↦ inl e | inr ne ↦ inr ((h.just u).1 ((same u ne).1 x)) ]

    pub count_fewer : (t : Name E) → P t → (Q t → ⊥) → ((u : Name E) → (u ≡ t → ⊥) → P u ↔ Q u) → Count P n → Count Q (n - 1)
    count_fewer t was ended same h = record {
      names = without t h.names;
      once = once_without t h.names h.once;
      just = λ u. (into u, out u);
      count = let e : length h.names ≡ n = h.count in let f : length h.names ≡ suc (length (without t h.names)) = one_less t h.names ((h.just t).1 was) in omega arith;
    }
      where
        into : (u : Name E) → IsAmong u (without t h.names) → Q u
        into u x = elim (cases_name eq is u t) [
          | inl e ↦ absurd (gone t h.names h.once (subst (λ z. IsAmong z (without t h.names)) e x))
          | inr ne ↦ (same u ne).0 ((h.just u).0 (among_without t u h.names x))
        ]

        out : (u : Name E) → Q u → IsAmong u (without t h.names)
        out u x = elim (cases_name eq is u t) [
          | inl e ↦ absurd (ended (subst Q e x))
          | inr ne ↦ stays_among t u h.names ne ((h.just u).1 ((same u ne).1 x))
        ]

  -- a name is in the list or not
  cases_among : (t : Name E) (us : List (Name E)) → IsAmong t us ⊎ (IsAmong t us → ⊥)
  cases_among t [] = inr (λ h. h)
  cases_among t (u ∷ us) = elim (cases_name eq is t u) [
    | inl e ↦ inl (inl e)
    | inr ne ↦ elim (cases_among t us) [
      | inl h ↦ inl (inr h)
      | inr out ↦ inr (λ h. elim h [ inl e ↦ ne e | inr z ↦ out z ])
    ]
  ]

  -- names without repeats that all stand in a list are no more than it has
  no_longer : (us vs : List (Name E)) → NoRepeats us → ((t : Name E) → IsAmong t us → IsAmong t vs) → length us ≤ length vs
  no_longer [] vs once all = omega arith
  no_longer (u ∷ us) vs once all =
      let less : length us ≤ length (without u vs) = no_longer us (without u vs) once.1 (λ t h. stays_among u t vs (λ e. once.0 (subst (λ z. IsAmong z us) e h)) (all t (inr h))) in
      let one : length vs ≡ suc (length (without u vs)) = one_less u vs (all u (inl refl)) in
      omega arith

  -- and if they are as many, they are all of it
  pub all_of_them : (us vs : List (Name E)) → NoRepeats us → ((t : Name E) → IsAmong t us → IsAmong t vs) → length us ≡ length vs → (t : Name E) → IsAmong t vs → IsAmong t us
  all_of_them us vs once all same t h = elim (cases_among t us) [
    | inl z ↦ z
    | inr out ↦
        let more : length (t ∷ us) ≤ length vs = no_longer (t ∷ us) vs (out, once) (λ u z. elim z [ inl e ↦ subst (λ q. IsAmong q vs) (sym e) h | inr y ↦ all u y ]) in
        absurd (omega arith)
  ]
