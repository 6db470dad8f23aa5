-- Where joins are top, and where states clash.
use Rattle.std.specs.Prelude.{◌≡◌, ◌⊎◌, ◌↔◌, true, false, cond, List, [], ◌∷◌, map, Option, Some, None, option_and_then, refl}
use Rattle.std.proofs.Common.{sym, ◌∙◌, ap, inl, inr, ⊎_elim}
use Rattle.std.specs.Cmp.{IsTotalOrder}
use Rattle.std.specs.List.Sorted.{IsStrictlySortedBy}
use Rattle.std.specs.Ordering.{eq_by_cmp}
use Rattle.lvish_compound.specs.Vocabulary.{Ordering, Equal, KeyGhosts, OrdGhosts, PartialEqGhosts, PartialOrdGhosts, HashGhosts, LatticeGhosts}
use Rattle.lvish_lattice.specs.Lattice.{IsJoin, IsIdentity}
use Rattle.lvish_lattice.specs.Listed.{some_is_not_none, unless_some}
use Rattle.lvish_lattice.specs.Top.{IsTopWhere}
use Rattle.lvish_compound.specs.declared.map_of.MapOf.{MapOf}
use Rattle.lvish_compound.specs.Clashes.{JoinToTop, AtSomeKey, AtSomeSide}
use Rattle.lvish_compound.specs.Keyed.{key, at, add, add_all}
use Rattle.lvish_compound.specs.laws.KeyedLaws.{add_there, add_joins, add_rises, at_below, at_first}
use Rattle.lvish_compound.specs.laws.Pointwise.{right_unit}
use Rattle.lvish_compound.specs.MapOf as map_of
use Rattle.lvish_compound.specs.laws.MapLaws as map_laws
use Rattle.lvish_compound.specs.Pair as pair

module _ {K L : Type 0} (R : K → K → Ordering) (least : L) (join : L → L → Option L) (o : IsTotalOrder R) (j : IsJoin least join) where
  abbrev Ascends : List (K × L) → Type 0
  Ascends es = IsStrictlySortedBy R (map key es)

  abbrev TopAt : List (K × L) → List (K × L) → K → Type 0
  TopAt es fs q = join (at R least join es q) (at R least join fs q) ≡ None

  -- an entry that can't be added joins to top
  add_top : (k : K) (v : L) (es : List (K × L)) → add R least join k v es ≡ None → join (at R least join es k) v ≡ None
  add_top k v es h = unless_some _ (λ w e. let m = add_there R least join o j k v es w e in some_is_not_none (add R least join k v es) m.0 m.1 h)

  -- a key where the rest joins to top, once the first entry is added, isn't that of the entry
  at_later : (f : K × L) (fs es gs : List (K × L)) (q : K) → Ascends es → Ascends (f ∷ fs) → add R least join f.0 f.1 es ≡ Some gs → TopAt gs fs q → TopAt es (f ∷ fs) q
  unfolding IsStrictlySortedBy
  at_later f fs es gs q s t e top = elim (eq_by_cmp R q f.0) as (λ b. eq_by_cmp R q f.0 ≡ b → join (at R least join es q) (cond b f.1 least) ≡ Some (at R least join gs q) → join (at R least join es q) (cond b f.1 (at R least join fs q)) ≡ None) [
    | true ↦ λ is one. absurd (some_is_not_none (join (at R least join gs q) (at R least join fs q)) _ (ap (join (at R least join gs q)) (at_below R least join o f.0 q fs t.0 is) ∙ right_unit j _) top)
    | false ↦ λ is one. ap (λ (r : Option L). option_and_then (λ x. join x (at R least join fs q)) r) (sym (right_unit j (at R least join es q)) ∙ one) ∙ top
  ] refl (add_joins R least join o j f.0 f.1 es gs s e q)

  all_top : (fs es : List (K × L)) → Ascends es → Ascends fs → add_all R least join es fs ≡ None → (q : K) × TopAt es fs q
  unfolding IsStrictlySortedBy
  all_top [] es s t h = absurd cc
  all_top (f ∷ fs) es s t h = by_add (add R least join f.0 f.1 es) refl (λ gs. all_top fs gs)
    where
      by_add : (r : Option (List (K × L))) → add R least join f.0 f.1 es ≡ r → ((gs : List (K × L)) → Ascends gs → Ascends fs → add_all R least join gs fs ≡ None → (q : K) × TopAt gs fs q) → (q : K) × TopAt es (f ∷ fs) q
      by_add None e later = (f.0, ap (join (at R least join es f.0)) (at_first R least join o f fs) ∙ add_top f.0 f.1 es e)
      by_add (Some gs) e later =
          let p : (q : K) × TopAt gs fs q = later gs (add_rises R least join o j f.0 f.1 es gs s e) t.1 (sym (ap (option_and_then (λ hs. add_all R least join hs fs)) e) ∙ h) in
          (p.0, at_later f fs es gs p.0 s t e p.1)

module _ {K L E : Type 0} {kk : KeyGhosts K} {ko : OrdGhosts K} {ke : PartialEqGhosts K} {kp : PartialOrdGhosts K} {l : LatticeGhosts L E} {le : PartialEqGhosts L} {eo : OrdGhosts E} {ee : PartialEqGhosts E} {ep : PartialOrdGhosts E} {eh : HashGhosts E}
    (o : IsTotalOrder ko.cmp) (same_key : (x y : K) → ko.cmp x y ≡ Equal → x ≡ y) (j : IsJoin l.least l.joined) (itself : (x : L) → le.eq x x ≡ true) (same : IsIdentity le.eq) where
  -- where the maps have no join, their entries have none
  no_entries : (a b : MapOf K L E kk ko ke kp l le eo ee ep eh) → map_of.joined a b ≡ None → add_all ko.cmp l.least l.joined a.entries b.entries ≡ None
  no_entries a b h = unless_some _ (λ es e. let w = map_laws.with_entries o same_key j itself same a b es e in some_is_not_none (map_of.joined a b) w.0 w.2 h)

  no_join : (a b : MapOf K L E kk ko ke kp l le eo ee ep eh) (q : K) → l.joined (map_of.at a q) (map_of.at b q) ≡ None → map_of.joined a b ≡ None
  no_join a b q h = unless_some _ (λ c e. some_is_not_none (l.joined (map_of.at a q) (map_of.at b q)) _ (map_laws.joins_places o same_key j itself same a b c e q) h)

  pub maps_top : IsTopWhere (map_of.joined {kk = kk} {ko = ko} {ke = ke} {kp = kp} {l = l} {le = le} {eo = eo} {ee = ee} {ep = ep} {eh = eh}) (AtSomeKey {kk = kk} {ko = ko} {ke = ke} {kp = kp} {l = l} {le = le} {eo = eo} {ee = ee} {ep = ep} {eh = eh} (JoinToTop l.joined))
  maps_top a b = (λ h. all_top ko.cmp l.least l.joined o j b.entries a.entries a.ascending b.ascending (no_entries a b h), λ w. no_join a b w.0 w.1)

-- two maps clash where their parts do
pub maps_clash : {M K L : Type 0} {joined : M → M → Option M} {join : L → L → Option L} {ClashThere : L → L → Type 0} (at : M → K → L) → IsTopWhere joined (λ a b. (k : K) × JoinToTop join (at a k) (at b k)) → IsTopWhere join ClashThere → IsTopWhere joined (λ a b. (k : K) × ClashThere (at a k) (at b k))
maps_clash at maps parts a b = (λ h. let w = (maps a b).0 h in (w.0, (parts _ _).0 w.1), λ w. (maps a b).1 (w.0, (parts _ _).1 w.1))

pub pairs_top : {A B : Type 0} (f : A → A → Option A) (g : B → B → Option B) → IsTopWhere (pair.joined f g) (AtSomeSide (JoinToTop f) (JoinToTop g))
pairs_top {A} {B} f g p q = by_sides (f p.one q.one) (g p.two q.two)
  where
    by_sides : (r : Option A) (s : Option B) → (pair.both r s ≡ None) ↔ ((r ≡ None) ⊎ (s ≡ None))
    by_sides None s = (λ _. inl refl, λ _. refl)
    by_sides (Some a) None = (λ _. inr refl, λ _. refl)
    by_sides (Some a) (Some b) = (λ h. absurd cc, ⊎_elim (λ e. absurd cc) (λ e. absurd cc))

pub pairs_clash : {A B : Type 0} {f : A → A → Option A} {g : B → B → Option B} {ClashOne : A → A → Type 0} {ClashTwo : B → B → Type 0} → IsTopWhere f ClashOne → IsTopWhere g ClashTwo → IsTopWhere (pair.joined f g) (AtSomeSide ClashOne ClashTwo)
pairs_clash {f = f} {g = g} one two p q =
    let tops = pairs_top f g p q in (
      λ h. ⊎_elim (λ e. inl ((one _ _).0 e)) (λ e. inr ((two _ _).0 e)) (tops.0 h),
      λ w. tops.1 (⊎_elim (λ e. inl ((one _ _).1 e)) (λ e. inr ((two _ _).1 e)) w),
    )
