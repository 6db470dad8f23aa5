-- Maps are a lattice, and are read at one key as the part is.
use Rattle.std.specs.Prelude.{◌≡◌, Bool, true, false, ◌&&◌, List, [], Option, Some, None, option_and_then, refl, ◌↔◌, cond, ◌∷◌, option_map}
use Rattle.std.proofs.Common.{sym, ◌∙◌, ap, subst}
use Rattle.std.specs.Cmp.{IsTotalOrder, IsEquivalence, Equal-is, tied_itself}
use Rattle.lvish_compound.specs.Vocabulary.{Ordering, Equal, KeyGhosts, OrdGhosts, PartialEqGhosts, PartialOrdGhosts, HashGhosts, LatticeGhosts}
use Rattle.std.proofs.lemmas.Cmp.{lists_equiv}
use Rattle.lvish_lattice.specs.Lattice.{IsIdentity, IsJoin, HasEvents, IsChecked, IsAnswered, IsWatched}
use Rattle.std.specs.Set.{is_member}
use Rattle.std.specs.Ordering.{eq_by_cmp, is_eq}
use Rattle.lvish_compound.specs.Keyed.{both_tie, by_both, events_of, key, add_all, single_entry}
use Rattle.lvish_compound.specs.laws.KeyedLaws.{events_have, events_rise, all_rises, all_above, all_joins, all_there}
use Rattle.lvish_lattice.specs.Ascending.{same_items, same_members}
use Rattle.lvish_compound.specs.Keyed as keyed
use Rattle.lvish_compound.specs.laws.KeyedLaws as keyed_laws
use Rattle.std.proofs.lemmas.Option.{same_Some, none-some}
use Rattle.lvish_compound.specs.laws.Pointwise.{bound, joins_below, IsPointwise, back, pointwise_is_join, pointwise_has_events}
use Rattle.lvish_compound.specs.MapOf as maps
use Rattle.lvish_compound.specs.MapOf.{MapOf, same_map, map_events_of, empty, map_of, map_of-entries}
use Rattle.lvish_compound.specs.laws.Embedded.{waits_there, IsEmbedded, IsImage, checked_there, answered_same}
use Rattle.lvish_compound.specs.declared.map_reads.AtKey.{AtKey}
use Rattle.lvish_compound.specs.MapReads.{Member, answer_of, spot_of, at_key_spot, watched, holding}

-- by a test that holds where two events tie
pub events_by_ties : {S E : Type 0} {least : S} {join : S → S → Option S} {eq : E → E → Bool} {cmp : E → E → Ordering} {events : S → List E} → ((x y : E) → eq x y ≡ is_eq (cmp x y)) → HasEvents least join eq cmp events → HasEvents least join (eq_by_cmp cmp) cmp events
events_by_ties {least = least} {join = join} {cmp = cmp} {events = events} ties h = subst (λ (t : _ → _ → Bool). HasEvents least join t cmp events) (λ i x y. ties x y i) h

both : {L : Type 0} (b : Bool) (x y : L) → x ≡ y → cond b x y ≡ y
both true x y h = h
both false x y h = refl

at_alone : {K L : Type 0} (cmp : K → K → Ordering) (eq : L → L → Bool) (least : L) (join : L → L → Option L) → IsIdentity eq → (k : K) (v : L) (q : K) → keyed.at cmp least join (single_entry eq least k v) q ≡ cond (eq_by_cmp cmp q k) v least
at_alone cmp eq least join same k v q = elim (eq v least) as (λ b. eq v least ≡ b → keyed.at cmp least join (cond b [] ((k, v) ∷ [])) q ≡ cond (eq_by_cmp cmp q k) v least) [
  | true ↦ λ h. sym (both (eq_by_cmp cmp q k) v least (same v least h))
  | false ↦ λ _. refl
] refl

module _ {K L E : Type 0} {kk : KeyGhosts K} {ko : OrdGhosts K} {ke : PartialEqGhosts K} {kp : PartialOrdGhosts K} {l : LatticeGhosts L E} {le : PartialEqGhosts L} {eo : OrdGhosts E} {ee : PartialEqGhosts E} {ep : PartialOrdGhosts E} {eh : HashGhosts E} where
  abbrev at : MapOf K L E kk ko ke kp l le eo ee ep eh → K → L
  at m q = maps.at m q

  abbrev joined : MapOf K L E kk ko ke kp l le eo ee ep eh → MapOf K L E kk ko ke kp l le eo ee ep eh → Option (MapOf K L E kk ko ke kp l le eo ee ep eh)
  joined a b = maps.joined a b

  abbrev alike : (K × L → K × L → Bool) → MapOf K L E kk ko ke kp l le eo ee ep eh → MapOf K L E kk ko ke kp l le eo ee ep eh → Bool
  alike eq a b = maps.alike eq a b

  pub alike_equiv : {eq : K × L → K × L → Bool} → IsEquivalence eq → IsEquivalence (alike eq)
  alike_equiv laws = let q = lists_equiv laws in record { refl = λ a. q.refl a.entries; symm = λ a b. q.symm a.entries b.entries; congr = λ a b c. q.congr a.entries b.entries c.entries }

  pub alike_identical : {eq : K × L → K × L → Bool} → IsIdentity eq → IsIdentity (alike eq)
  alike_identical same a b h = same_map a b (same_items same a.entries b.entries h)

  module _ (o : IsTotalOrder ko.cmp) (same_key : (x y : K) → ko.cmp x y ≡ Equal → x ≡ y) (j : IsJoin l.least l.joined) (itself : (x : L) → le.eq x x ≡ true) (same : IsIdentity le.eq) where
    pub with_entries : (a b : MapOf K L E kk ko ke kp l le eo ee ep eh) (es : List (K × L)) → add_all ko.cmp l.least l.joined a.entries b.entries ≡ Some es → (c : MapOf K L E kk ko ke kp l le eo ee ep eh) × (c.entries ≡ es) × (joined a b ≡ Some c)
    with_entries a b es h =
        let c : MapOf K L E kk ko ke kp l le eo ee ep eh = record {
          entries = es;
          ascending = all_rises ko.cmp l.least l.joined o j a.entries b.entries es a.ascending h;
          above = all_above ko.cmp l.least l.joined o j le.eq itself same a.entries b.entries es a.above b.above h;
        } in
        (c, refl, ap (option_and_then map_of) h ∙ map_of-entries c)

    pub entries_of_joined : (a b c : MapOf K L E kk ko ke kp l le eo ee ep eh) → joined a b ≡ Some c → add_all ko.cmp l.least l.joined a.entries b.entries ≡ Some c.entries
    entries_of_joined a b c h =
        let m : (es : List (K × L)) × (add_all ko.cmp l.least l.joined a.entries b.entries ≡ Some es) × (map_of es ≡ Some c) = bound _ _ _ h in
        let w : (d : MapOf K L E kk ko ke kp l le eo ee ep eh) × (d.entries ≡ m.0) × (joined a b ≡ Some d) = with_entries a b m.0 m.1 in
        m.1 ∙ ap Some (sym w.1 ∙ ap (λ (d : MapOf K L E kk ko ke kp l le eo ee ep eh). d.entries) (same_Some _ _ (sym w.2 ∙ h)))

    same_places : (a b : MapOf K L E kk ko ke kp l le eo ee ep eh) → ((q : K) → at a q ≡ at b q) → a ≡ b
    same_places a b h = same_map a b (keyed_laws.same_at ko.cmp l.least l.joined o j le.eq itself same same_key _ _ a.ascending b.ascending a.above b.above h)

    pub joins_places : (a b c : MapOf K L E kk ko ke kp l le eo ee ep eh) → joined a b ≡ Some c → (q : K) → l.joined (at a q) (at b q) ≡ Some (at c q)
    joins_places a b c h = all_joins ko.cmp l.least l.joined o j _ _ _ a.ascending b.ascending (entries_of_joined a b c h)

    pub joins_exist : (a b : MapOf K L E kk ko ke kp l le eo ee ep eh) → ((q : K) → (w : L) × (l.joined (at a q) (at b q) ≡ Some w)) → (c : MapOf K L E kk ko ke kp l le eo ee ep eh) × (joined a b ≡ Some c)
    joins_exist a b h =
        let g : (gs : List (K × L)) × (add_all ko.cmp l.least l.joined a.entries b.entries ≡ Some gs) = all_there ko.cmp l.least l.joined o j _ _ a.ascending b.ascending h in
        let w : (c : MapOf K L E kk ko ke kp l le eo ee ep eh) × (c.entries ≡ g.0) × (joined a b ≡ Some c) = with_entries a b g.0 g.1 in
        (w.0, w.2)

    map_pointwise : IsPointwise {L = λ _. L} (λ _. l.least) (λ _. l.joined) (λ q m. at m q) empty joined
    map_pointwise = record { parts = λ _. j; same = same_places; nothing = λ _. refl; forth = joins_places; there = λ a b d h k. joins_exist a b (λ q. let w = joins_below j _ _ _ (h q) (k q) in (w.0, w.1)) }

    -- joined at each key
    pub joined_by_places : (a b c : MapOf K L E kk ko ke kp l le eo ee ep eh) → ((q : K) → l.joined (at a q) (at b q) ≡ Some (at c q)) → joined a b ≡ Some c
    joined_by_places = back map_pointwise

    pub map_is_join : IsJoin empty joined
    map_is_join = pointwise_is_join map_pointwise

    module _ (C : E → E → Ordering) (oc : IsTotalOrder C) (same_event : (x y : E) → C x y ≡ Equal → x ≡ y) (h : HasEvents l.least l.joined (eq_by_cmp C) C l.events_of) where
      places_have : (m : MapOf K L E kk ko ke kp l le eo ee ep eh) (q : K) (y : E) → is_member (both_tie ko.cmp C) (events_of l.events_of m.entries) (q, y) ≡ is_member (eq_by_cmp C) (l.events_of (at m q)) y
      places_have m q y = events_have ko.cmp C l.least l.joined (λ _ v. l.events_of v) o same_key (λ _. h.none) m.entries m.ascending q y

      map_events : HasEvents empty joined (both_tie ko.cmp C) (by_both ko.cmp C) (λ (m : MapOf K L E kk ko ke kp l le eo ee ep eh). events_of l.events_of m.entries)
      map_events = pointwise_has_events map_pointwise (λ _. h) (λ q y. (q, y)) (λ n. (n.0, n.1, refl)) places_have
          (λ _ x y e. h.determine x y (same_members oc same_event _ _ (h.ascending x) (h.ascending y) e)) refl (λ m. events_rise ko.cmp C l.least l.joined (λ _ v. l.events_of v) o (λ _ v. h.ascending v) m.entries m.ascending)

      -- by tests that hold where two keys or two events tie
      pub map_has_events : (keq : K → K → Bool) (eeq : E → E → Bool) → ((x y : K) → keq x y ≡ is_eq (ko.cmp x y)) → ((x y : E) → eeq x y ≡ is_eq (C x y))
          → HasEvents empty joined (λ (x y : K × E). keq x.0 y.0 && eeq x.1 y.1) (by_both ko.cmp C) (λ (m : MapOf K L E kk ko ke kp l le eo ee ep eh). events_of l.events_of m.entries)
      map_has_events keq eeq kt et = subst (λ (t : K × E → K × E → Bool). HasEvents empty joined t (by_both ko.cmp C) (λ (m : MapOf K L E kk ko ke kp l le eo ee ep eh). events_of l.events_of m.entries))
          (λ i x y. sym (kt x.0 y.0) i && sym (et x.1 y.1) i) map_events

      -- an event of a key is among a map's where it is among those of what the key holds
      pub map_has : (keq : K → K → Bool) (eeq : E → E → Bool) → ((x y : K) → keq x y ≡ is_eq (ko.cmp x y)) → ((x y : E) → eeq x y ≡ is_eq (C x y)) → (m : MapOf K L E kk ko ke kp l le eo ee ep eh) (q : K) (y : E)
          → is_member (λ (x z : K × E). keq x.0 z.0 && eeq x.1 z.1) (events_of l.events_of m.entries) (q, y) ≡ is_member eeq (l.events_of (at m q)) y
      map_has keq eeq kt et m q y = (λ i. is_member (λ (x z : K × E). kt x.0 z.0 i && et x.1 z.1 i) (events_of l.events_of m.entries) (q, y)) ∙ places_have m q y ∙ (λ i. is_member (λ x z. sym (et x z) i) (l.events_of (at m q)) y)

    pub at_any : (m : MapOf K L E kk ko ke kp l le eo ee ep eh) (k : K) (v : L) → m.entries ≡ single_entry le.eq l.least k v → (q : K) → at m q ≡ cond (eq_by_cmp ko.cmp q k) v l.least
    at_any m k v h q = ap (λ es. keyed.at ko.cmp l.least l.joined es q) h ∙ at_alone ko.cmp le.eq l.least l.joined same k v q

    pub at_key : (m : MapOf K L E kk ko ke kp l le eo ee ep eh) (k : K) (v : L) → m.entries ≡ single_entry le.eq l.least k v → at m k ≡ v
    at_key m k v h = at_any m k v h k ∙ ap (λ c. cond (is_eq c) v l.least) (tied_itself o k)

    both_keys : (k : K) (x y w : L) → l.joined x y ≡ Some w → (a b c : MapOf K L E kk ko ke kp l le eo ee ep eh) → a.entries ≡ single_entry le.eq l.least k x → b.entries ≡ single_entry le.eq l.least k y → c.entries ≡ single_entry le.eq l.least k w → (q : K) → l.joined (at a q) (at b q) ≡ Some (at c q)
    both_keys k x y w h a b c e f g q = (λ i. l.joined (at_any a k x e q i) (at_any b k y f q i)) ∙ by_tie (eq_by_cmp ko.cmp q k) ∙ ap Some (sym (at_any c k w g q))
      where
        by_tie : (t : Bool) → l.joined (cond t x l.least) (cond t y l.least) ≡ Some (cond t w l.least)
        by_tie true = h
        by_tie false = j.unit l.least

    joins_by : (k : K) (x y : L) (u : Option L) (v : Option (MapOf K L E kk ko ke kp l le eo ee ep eh)) → l.joined x y ≡ u → joined (holding k x) (holding k y) ≡ v → v ≡ option_map (holding k) u
    joins_by k x y (Some w) v e f = sym f ∙ joined_by_places (holding k x) (holding k y) (holding k w) (both_keys k x y w e (holding k x) (holding k y) (holding k w) refl refl refl)
    joins_by k x y None None e f = refl
    joins_by k x y None (Some c) e f = absurd (none-some _ (sym e ∙ (λ i. l.joined (sym (at_key (holding k x) k x refl) i) (sym (at_key (holding k y) k y refl) i)) ∙ joins_places (holding k x) (holding k y) c f k))

    -- the parts at one key within the maps
    pub key_embedded : (k : K) → IsEmbedded l.joined joined (holding k) (λ (m : MapOf K L E kk ko ke kp l le eo ee ep eh). at m k)
    key_embedded k = record {
      back = λ v. at_key (holding k v) k v refl;
      joins = λ x y. joins_by k x y (l.joined x y) (joined (holding k x) (holding k y)) refl refl;
      below = λ v s. (
        λ h. ap (λ x. l.joined x (at s k)) (sym (at_key (holding k v) k v refl)) ∙ joins_places (holding k v) s s h k,
        λ b. joined_by_places (holding k v) s s (λ q.
            ap (λ x. l.joined x (at s q)) (at_any (holding k v) k v refl q)
            ∙ elim (eq_by_cmp ko.cmp q k) as (λ t. eq_by_cmp ko.cmp q k ≡ t → l.joined (cond t v l.least) (at s q) ≡ Some (at s q)) [
              | true ↦ λ t. subst (λ (z : K). l.joined v (at s z) ≡ Some (at s z)) (sym (same_key q k ((Equal-is (ko.cmp q k)).0 t))) b
              | false ↦ λ _. j.unit (at s q)
            ] refl),
      );
    }

    key_image : {Q A : Type 0} (member : Q → L → A → Type 0) (r : AtKey K Q) → IsImage (holding r.key) (λ a. a) (member r.read) (Member {kk = kk} {ko = ko} {ke = ke} {kp = kp} {l = l} {le = le} {eo = eo} {ee = ee} {ep = ep} {eh = eh} member r)
    key_image member r = record { source = λ m a w. (w.0, a, w.1, same_map (holding r.key w.0) m (sym w.2), refl); image = λ x a h. (x, h, refl); apart = λ a c e. e }

    pub keys_checked : {Q A : Type 0} (member : Q → L → A → Type 0) (r : AtKey K Q) → IsChecked l.joined (member r.read) ↔ IsChecked {S = MapOf K L E kk ko ke kp l le eo ee ep eh} joined (Member member r)
    keys_checked member r = checked_there (key_embedded r.key) (key_image member r)

    pub map_answers : {Q A : Type 0} (member : Q → L → A → Type 0) (answer : Q → L → Option A) → ((r : Q) → IsChecked l.joined (member r) → IsAnswered l.joined (member r) (answer r))
        → (r : AtKey K Q) → IsChecked {S = MapOf K L E kk ko ke kp l le eo ee ep eh} joined (Member member r) → IsAnswered {S = MapOf K L E kk ko ke kp l le eo ee ep eh} joined (Member member r) (answer_of answer r)
    map_answers member answer law r = answered_same (key_embedded r.key) (key_image member r) (answer r.read) (law r.read)

    pub map_waits : (C : E → E → Ordering) (oc : IsTotalOrder C) (same_event : (x y : E) → C x y ≡ Equal → x ≡ y) (h : HasEvents l.least l.joined (eq_by_cmp C) C l.events_of)
        → (keq : K → K → Bool) (eeq : E → E → Bool) → ((x y : K) → keq x y ≡ is_eq (ko.cmp x y)) → ((x y : E) → eeq x y ≡ is_eq (C x y))
        → {Q A W : Type 0} (spot : E → W) (watch : Q → Option W) (answer : Q → L → Option A) → IsWatched eeq l.events_of spot watch answer
        → IsWatched {S = MapOf K L E kk ko ke kp l le eo ee ep eh} (λ (x y : K × E). keq x.0 y.0 && eeq x.1 y.1) map_events_of (spot_of spot) (watched watch) (answer_of answer)
    map_waits C oc same_event h keq eeq kt et spot watch answer law r w is old new a none some =
        waits_there (λ (m : MapOf K L E kk ko ke kp l le eo ee ep eh). at m r.key) (λ y. (r.key, y)) (at_key_spot r.key) (λ m y. map_has C oc same_event h keq eeq kt et m r.key y) (λ y. refl) old new
        (watch r.read) w is (λ v e. law r.read v e (at old r.key) (at new r.key) a none some)
