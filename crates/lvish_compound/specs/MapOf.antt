-- Maps that only grow.
use Rattle.std.proofs.Common.{◌≡◌, Bool, true, false, ◌&&◌, List, [], map, Option, Some, None, option_and_then, refl, ap}
use mathlib.Core.HLevel.{Σ_prop_path, ×_prop}
use Rattle.std.proofs.Math.Bool.{Bool-set}
use Rattle.lvish_compound.specs.Vocabulary.{Ordering, KeyGhosts, OrdGhosts, PartialEqGhosts, PartialOrdGhosts, HashGhosts, LatticeGhosts}
use Rattle.std.specs.List.Sorted.{IsStrictlySortedBy, IsStrictlySortedBy-prop}
use Rattle.std.specs.Cmp.Lexicographic.{pointwise}
use Rattle.lvish_compound.specs.Keyed.{events_of, key, has_no, add_all}
use Rattle.lvish_lattice.specs.Ascending.{is_ascending, nothing_rises, rises_by_test, test_rises, and_left, and_right, and_both}
use Rattle.lvish_compound.specs.Keyed as keyed
pub use Rattle.lvish_compound.specs.declared.map_of.MapOf.{MapOf}

module _ {K L : Type 0} (cmp : K → K → Ordering) (eq : L → L → Bool) (least : L) where
  -- what the ghost fields say, and a test of it
  abbrev Sound : List (K × L) → Type 0
  Sound es = IsStrictlySortedBy cmp (map key es) × (has_no eq least es ≡ true)

  Sound-prop : (es : List (K × L)) → IsProp (Sound es)
  Sound-prop es = ×_prop (IsStrictlySortedBy-prop cmp (map key es)) (Bool-set _ _)

  abbrev is_sound : List (K × L) → Bool
  is_sound es = is_ascending cmp (map key es) && has_no eq least es

module _ {K L E : Type 0} {kk : KeyGhosts K} {ko : OrdGhosts K} {ke : PartialEqGhosts K} {kp : PartialOrdGhosts K} {l : LatticeGhosts L E} {le : PartialEqGhosts L} {eo : OrdGhosts E} {ee : PartialEqGhosts E} {ep : PartialOrdGhosts E} {eh : HashGhosts E} where
  pub same_map : (a b : MapOf K L E kk ko ke kp l le eo ee ep eh) → a.entries ≡ b.entries → a ≡ b
  same_map a b h =
      let pairs : ◌≡◌ {A = (es : List (K × L)) × Sound ko.cmp le.eq l.least es} (a.entries, (a.ascending, a.above)) (b.entries, (b.ascending, b.above)) = Σ_prop_path (Sound-prop ko.cmp le.eq l.least) h in
      λ i. record { entries = (pairs i).0; ascending = (pairs i).1.0; above = (pairs i).1.1 }

  -- what is seen of a map: its entries, with keys that ascend
  abbrev pub entries_of : MapOf K L E kk ko ke kp l le eo ee ep eh → List (K × L)
  entries_of m = m.entries

  -- the test of parts
  abbrev pub part_test : MapOf K L E kk ko ke kp l le eo ee ep eh → L → L → Bool
  part_test m x y = le.eq x y

  abbrev pub map_events_of : MapOf K L E kk ko ke kp l le eo ee ep eh → List (K × E)
  map_events_of m = events_of l.events_of m.entries

  -- whether two maps have the same entries
  abbrev pub alike : (K × L → K × L → Bool) → MapOf K L E kk ko ke kp l le eo ee ep eh → MapOf K L E kk ko ke kp l le eo ee ep eh → Bool
  alike eq a b = pointwise eq a.entries b.entries

  abbrev pub empty : MapOf K L E kk ko ke kp l le eo ee ep eh
  empty = record { entries = []; ascending = nothing_rises ko.cmp; above = refl }

  made : (es : List (K × L)) (b : Bool) → is_sound ko.cmp le.eq l.least es ≡ b → Option (MapOf K L E kk ko ke kp l le eo ee ep eh)
  made es true h = Some (record { entries = es; ascending = rises_by_test ko.cmp _ (and_left _ _ h); above = and_right (is_ascending ko.cmp (map key es)) _ h })
  made es false h = None

  -- the map with these entries, where their keys ascend and none is bottom
  pub map_of : List (K × L) → Option (MapOf K L E kk ko ke kp l le eo ee ep eh)
  map_of es = made es (is_sound ko.cmp le.eq l.least es) refl

  is_made : (m : MapOf K L E kk ko ke kp l le eo ee ep eh) (b : Bool) (h : is_sound ko.cmp le.eq l.least m.entries ≡ b) → b ≡ true → made m.entries b h ≡ Some m
  unfolding made
  is_made m true h t = ap Some (same_map _ m refl)
  is_made m false h t = absurd cc

  pub map_of-entries : (m : MapOf K L E kk ko ke kp l le eo ee ep eh) → map_of m.entries ≡ Some m
  unfolding map_of
  map_of-entries m = is_made m (is_sound ko.cmp le.eq l.least m.entries) refl (and_both (test_rises ko.cmp _ m.ascending) m.above)

  -- joined at each key, and top where some key's join is
  abbrev pub joined : MapOf K L E kk ko ke kp l le eo ee ep eh → MapOf K L E kk ko ke kp l le eo ee ep eh → Option (MapOf K L E kk ko ke kp l le eo ee ep eh)
  joined a b = option_and_then map_of (add_all ko.cmp l.least l.joined a.entries b.entries)

  abbrev pub at : MapOf K L E kk ko ke kp l le eo ee ep eh → K → L
  at m q = keyed.at ko.cmp l.least l.joined m.entries q
