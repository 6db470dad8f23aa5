-- What a call on entries means for the map.
use Rattle.std.proofs.Common.{◌≡◌, Bool, true, false, not, ◌&&◌, MatchOption, List, [], ◌∷◌, map, Option, Some, None, Result, Ok, Err, IfOk, IfErr, is_some, unwrap_or, option_and_then, refl, sym, ◌∙◌, ap, subst, true≢false}
use Rattle.std.proofs.lemmas.Result.{IfErr-weaker, IfOk-weaker}
use Rattle.std.specs.Cmp.{IsTotalOrder, both_tied}
use Rattle.std.specs.Ordering.{eq_by_cmp, is_eq}
use Rattle.lvish_compound.specs.Vocabulary.{Ordering, Equal, KeyGhosts, OrdGhosts, PartialEqGhosts, PartialOrdGhosts, HashGhosts, LatticeGhosts}
use Rattle.std.specs.List.Sorted.{IsStrictlySortedBy}
use Rattle.std.proofs.lemmas.List.{append-nil}
use Rattle.lvish_lattice.specs.Listed.{unless_some}
use Rattle.lvish_lattice.specs.Lattice.{IsIdentity, IsJoin, HasEvents, fresh_of, events_beyond}
use Rattle.lvish_compound.specs.Keyed.{key, has_no, add, add_all, of_key, events_by}
use Rattle.lvish_compound.specs.laws.KeyedLaws.{add_rises, add_above, add_there}
use Rattle.lvish_compound.specs.MapOf.{MapOf, same_map, map_of, map_of-entries, joined, at, map_events_of}
use Rattle.lvish_compound.specs.laws.MapLaws.{with_entries, joins_places}
use Rattle.lvish_compound.proofs.Brought.{brought}

module _ {K L Refused : Type 0} (R : K → K → Ordering) (least : L) (join : L → L → Option L) (o : IsTotalOrder R) (j : IsJoin least join) (k : K) (v : L) (es fs : List (K × L)) (q : Result Bool Refused)
    (ok : IfOk q (λ b. (b ≡ is_some (add R least join k v es)) × (fs ≡ unwrap_or (add R least join k v es) es))) (err : IfErr q (λ _. fs ≡ es)) where
  -- the entries stay as they were, or are those of the join
  either : (P : List (K × L) → Type 0) → P es → ((gs : List (K × L)) → add R least join k v es ≡ Some gs → P gs) → P fs
  either P old new = by_result q ok err
    where
      by_add : (a : Option (List (K × L))) → add R least join k v es ≡ a → fs ≡ unwrap_or a es → P fs
      by_add None is h = subst P (sym h) old
      by_add (Some gs) is h = subst P (sym h) (new gs is)

      by_result : (q : Result Bool Refused) → IfOk q (λ b. (b ≡ is_some (add R least join k v es)) × (fs ≡ unwrap_or (add R least join k v es) es)) → IfErr q (λ _. fs ≡ es) → P fs
      by_result (Ok b) ok err = by_add (add R least join k v es) refl ok.1
      by_result (Err r) ok err = subst P (sym err) old

  pub stays_ascending : IsStrictlySortedBy R (map key es) → IsStrictlySortedBy R (map key fs)
  stays_ascending s = either (λ zs. IsStrictlySortedBy R (map key zs)) s (λ gs. add_rises R least join o j k v es gs s)

  pub stays_above : (eq : L → L → Bool) → ((x : L) → eq x x ≡ true) → IsIdentity eq → eq v least ≡ false → has_no eq least es ≡ true → has_no eq least fs ≡ true
  stays_above eq itself same p n = either (λ zs. has_no eq least zs ≡ true) n (λ gs. add_above R least join o j eq itself same k v es gs (ap not p) n)

module _ {K L E : Type 0} {kk : KeyGhosts K} {ko : OrdGhosts K} {ke : PartialEqGhosts K} {kp : PartialOrdGhosts K} {l : LatticeGhosts L E} {le : PartialEqGhosts L} {eo : OrdGhosts E} {ee : PartialEqGhosts E} {ep : PartialOrdGhosts E} {eh : HashGhosts E} where
  pub joined_some : (a b c : MapOf K L E kk ko ke kp l le eo ee ep eh) → add_all ko.cmp l.least l.joined a.entries b.entries ≡ Some c.entries → joined a b ≡ Some c
  joined_some a b c h = ap (option_and_then map_of) h ∙ map_of-entries c

  pub joined_none : (a b : MapOf K L E kk ko ke kp l le eo ee ep eh) → add_all ko.cmp l.least l.joined a.entries b.entries ≡ None → joined a b ≡ None
  joined_none a b h = ap (option_and_then map_of) h

  one_added : (a b : MapOf K L E kk ko ke kp l le eo ee ep eh) (k : K) (v : L) → b.entries ≡ (k, v) ∷ [] → add_all ko.cmp l.least l.joined a.entries b.entries ≡ add ko.cmp l.least l.joined k v a.entries
  one_added a b k v h = ap (add_all ko.cmp l.least l.joined a.entries) h ∙ whole (add ko.cmp l.least l.joined k v a.entries)
    where
      whole : (x : Option (List (K × L))) → option_and_then (λ gs. Some gs) x ≡ x
      whole None = refl
      whole (Some gs) = refl

  -- a put with one key is joined in place
  pub merged_one : (a b m : MapOf K L E kk ko ke kp l le eo ee ep eh) (k : K) (v : L) (r : Bool) → b.entries ≡ (k, v) ∷ [] → r ≡ is_some (add ko.cmp l.least l.joined k v a.entries) → m.entries ≡ unwrap_or (add ko.cmp l.least l.joined k v a.entries) a.entries
      → (r ≡ is_some (joined a b)) × (m ≡ unwrap_or (joined a b) a)
  merged_one a b m k v r h is new = by_add (add ko.cmp l.least l.joined k v a.entries) refl is new
    where
      by_add : (x : Option (List (K × L))) → add ko.cmp l.least l.joined k v a.entries ≡ x → r ≡ is_some x → m.entries ≡ unwrap_or x a.entries → (r ≡ is_some (joined a b)) × (m ≡ unwrap_or (joined a b) a)
      by_add None e is new = let top : joined a b ≡ None = joined_none a b (one_added a b k v h ∙ e) in (is ∙ ap is_some (sym top), same_map m a new ∙ ap (λ x. unwrap_or x a) (sym top))
      by_add (Some gs) e is new = let there : joined a b ≡ Some m = joined_some a b m (one_added a b k v h ∙ e ∙ ap Some (sym new)) in (is ∙ ap is_some (sym there), ap (λ x. unwrap_or x a) (sym there))

  -- the same of a call
  module _ {Refused : Type 0} (a b m : MapOf K L E kk ko ke kp l le eo ee ep eh) (q : Result Bool Refused) where
    pub merged_result : (k : K) (v : L) → b.entries ≡ (k, v) ∷ []
        → IfOk q (λ r. (r ≡ is_some (add ko.cmp l.least l.joined k v a.entries)) × (m.entries ≡ unwrap_or (add ko.cmp l.least l.joined k v a.entries) a.entries))
        → IfOk q (λ r. (r ≡ is_some (joined a b)) × (m ≡ unwrap_or (joined a b) a))
    merged_result k v e ok = IfOk-weaker q _ _ (λ r h. merged_one a b m k v r e h.0 h.1) ok

    pub merge_refused : IfErr q (λ _. m.entries ≡ a.entries) → IfErr q (λ _. m ≡ a)
    merge_refused err = IfErr-weaker q _ _ (λ _ h. same_map m a h) err

  -- what a put brings to a map
  module _ (o : IsTotalOrder ko.cmp) (same_key : (x y : K) → ko.cmp x y ≡ Equal → x ≡ y) (j : IsJoin l.least l.joined) (itself : (x : L) → le.eq x x ≡ true) (same : IsIdentity le.eq)
      (oc : IsTotalOrder eo.cmp) (same_event : (x y : E) → eo.cmp x y ≡ Equal → x ≡ y) (h : HasEvents l.least l.joined (eq_by_cmp eo.cmp) eo.cmp l.events_of)
      (keq : K → K → Bool) (eeq : E → E → Bool) (kt : (x y : K) → keq x y ≡ is_eq (ko.cmp x y)) (et : (x y : E) → eeq x y ≡ is_eq (eo.cmp x y)) where
    pub map_fresh : (a b : MapOf K L E kk ko ke kp l le eo ee ep eh) (v : List (K × E))
        → MatchOption (add_all ko.cmp l.least l.joined a.entries b.entries) (v ≡ []) (λ _. v ≡ events_by (λ k p. fresh_of l.joined eeq l.events_of (at a k) p) b.entries)
        → v ≡ fresh_of joined (λ (x y : K × E). keq x.0 y.0 && eeq x.1 y.1) map_events_of a b
    map_fresh a b v m = by_add (add_all ko.cmp l.least l.joined a.entries b.entries) refl m
      where
        by_add : (x : Option (List (K × L))) → add_all ko.cmp l.least l.joined a.entries b.entries ≡ x → MatchOption x (v ≡ []) (λ _. v ≡ events_by (λ k p. fresh_of l.joined eeq l.events_of (at a k) p) b.entries) → v ≡ fresh_of joined (λ (x y : K × E). keq x.0 y.0 && eeq x.1 y.1) map_events_of a b
        by_add None e m = m ∙ sym (ap (events_beyond (λ (x y : K × E). keq x.0 y.0 && eeq x.1 y.1) map_events_of a) (joined_none a b e))
        by_add (Some gs) e m =
            let w : (c : MapOf K L E kk ko ke kp l le eo ee ep eh) × (c.entries ≡ gs) × (joined a b ≡ Some c) = with_entries o same_key j itself same a b gs e in
            m ∙ ap (λ (t : E → E → Bool). events_by (λ k p. fresh_of l.joined t l.events_of (at a k) p) b.entries) (λ i x y. et x y i)
            ∙ sym (brought eo.cmp oc same_event j h ko.cmp o same_key a.entries b.entries w.0.entries a.ascending b.ascending w.0.ascending (joins_places o same_key j itself same a b w.0 w.2))
            ∙ ap (λ (t : K × E → K × E → Bool). events_beyond t map_events_of a (Some w.0)) (λ i x y. sym (both_tied (keq x.0 y.0) (eeq x.1 y.1) (ko.cmp x.0 y.0) (eo.cmp x.1 y.1) (kt x.0 y.0) (et x.1 y.1)) i)
            ∙ sym (ap (events_beyond (λ (x y : K × E). keq x.0 y.0 && eeq x.1 y.1) map_events_of a) w.2)

    -- where the put has one key, what its part brings there
    pub fresh_one : (a b : MapOf K L E kk ko ke kp l le eo ee ep eh) (k : K) (x p : L) → b.entries ≡ (k, p) ∷ [] → x ≡ at a k → of_key k (fresh_of l.joined eeq l.events_of x p) ≡ fresh_of joined (λ (x y : K × E). keq x.0 y.0 && eeq x.1 y.1) map_events_of a b
    fresh_one a b k x p one e = map_fresh a b (of_key k (fresh_of l.joined eeq l.events_of x p)) (by_add (add_all ko.cmp l.least l.joined a.entries b.entries) refl)
      where
        here : of_key k (fresh_of l.joined eeq l.events_of x p) ≡ of_key k (fresh_of l.joined eeq l.events_of (at a k) p)
        here = ap (λ y. of_key k (fresh_of l.joined eeq l.events_of y p)) e

        by_add : (r : Option (List (K × L))) → add_all ko.cmp l.least l.joined a.entries b.entries ≡ r → MatchOption r (of_key k (fresh_of l.joined eeq l.events_of x p) ≡ []) (λ _. of_key k (fresh_of l.joined eeq l.events_of x p) ≡ events_by (λ k p. fresh_of l.joined eeq l.events_of (at a k) p) b.entries)
        by_add None is =
            let top : l.joined (at a k) p ≡ None = unless_some (l.joined (at a k) p) (λ w joins.
            let m : (gs : List (K × L)) × (add ko.cmp l.least l.joined k p a.entries ≡ Some gs) = add_there ko.cmp l.least l.joined o j k p a.entries w joins in
            true≢false (ap is_some (sym m.1 ∙ sym (one_added a b k p one) ∙ is))) in
            here ∙ ap (λ r. of_key k (events_beyond eeq l.events_of (at a k) r)) top
        by_add (Some gs) is = here ∙ sym (append-nil (of_key k (fresh_of l.joined eeq l.events_of (at a k) p))) ∙ ap (events_by (λ k p. fresh_of l.joined eeq l.events_of (at a k) p)) (sym one)
