-- Reads of what one key holds.
use Rattle.std.proofs.Common.{◌≡◌, Bool, true, false, cond, not, [], ◌∷◌, map, Option, option_map, refl, ap}
use Rattle.lvish_compound.specs.Vocabulary.{Ordering, KeyGhosts, OrdGhosts, PartialEqGhosts, PartialOrdGhosts, HashGhosts, LatticeGhosts}
use Rattle.std.specs.List.Sorted.{IsStrictlySortedBy}
use Rattle.lvish_lattice.specs.Ascending.{and_both}
use Rattle.lvish_compound.specs.Keyed.{key, has_no, single_entry}
use Rattle.lvish_compound.specs.MapOf.{MapOf, at}
use Rattle.lvish_compound.specs.declared.map_reads.AtKey.{AtKey}

module _ {K L E Q A : Type 0} {kk : KeyGhosts K} {ko : OrdGhosts K} {ke : PartialEqGhosts K} {kp : PartialOrdGhosts K} {l : LatticeGhosts L E} {le : PartialEqGhosts L} {eo : OrdGhosts E} {ee : PartialEqGhosts E} {ep : PartialOrdGhosts E} {eh : HashGhosts E} where
  -- the members are the maps with the key alone and a member there, the empty map for bottom
  abbrev pub Member : (Q → L → A → Type 0) → AtKey K Q → MapOf K L E kk ko ke kp l le eo ee ep eh → A → Type 0
  Member member r m a = (p : L) × member r.read p a × (m.entries ≡ single_entry le.eq l.least r.key p)

  -- the answer to what the key holds
  abbrev pub answer_of : (Q → L → Option A) → AtKey K Q → MapOf K L E kk ko ke kp l le eo ee ep eh → Option A
  answer_of answer r m = answer r.read (at m r.key)

-- the key, and the spot of what it holds
abbrev pub spot_of : {K E W : Type 0} → (E → W) → K × E → K × W
spot_of spot e = (e.0, spot e.1)

abbrev pub at_key_spot : {K W : Type 0} → K → W → K × W
at_key_spot k w = (k, w)

abbrev pub watched : {K Q W : Type 0} → (Q → Option W) → AtKey K Q → Option (K × W)
watched watch r = option_map (at_key_spot r.key) (watch r.read)

module _ {K L : Type 0} (cmp : K → K → Ordering) (eq : L → L → Bool) (least : L) where
  pub alone_rises : (k : K) (v : L) → IsStrictlySortedBy cmp (map key (single_entry eq least k v))
  unfolding IsStrictlySortedBy
  alone_rises k v = elim (eq v least) as (λ b. IsStrictlySortedBy cmp (map key (cond b [] ((k, v) ∷ [])))) [ true ↦ tt | false ↦ (tt, tt) ]

pub alone_above : {K L : Type 0} (eq : L → L → Bool) (least : L) (k : K) (v : L) → has_no eq least (single_entry eq least k v) ≡ true
alone_above eq least k v = elim (eq v least) as (λ b. eq v least ≡ b → has_no eq least (cond b [] ((k, v) ∷ [])) ≡ true) [ true ↦ λ _. refl | false ↦ λ h. and_both (ap not h) refl ] refl

module _ {K L E : Type 0} {kk : KeyGhosts K} {ko : OrdGhosts K} {ke : PartialEqGhosts K} {kp : PartialOrdGhosts K} {l : LatticeGhosts L E} {le : PartialEqGhosts L} {eo : OrdGhosts E} {ee : PartialEqGhosts E} {ep : PartialOrdGhosts E} {eh : HashGhosts E} where
  -- the map with one key
  abbrev pub holding : K → L → MapOf K L E kk ko ke kp l le eo ee ep eh
  holding k v = record { entries = single_entry le.eq l.least k v; ascending = alone_rises ko.cmp le.eq l.least k v; above = alone_above le.eq l.least k v }
