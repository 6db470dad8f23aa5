-- States that aren't bottom.
use Rattle.std.proofs.Common.{◌≡◌, Bool, true, false, Option, Some, None, refl, sym, ◌∙◌, ap, true≢false}
use mathlib.Core.HLevel.{Σ_prop_path}
use Rattle.std.proofs.Math.Bool.{Bool-set}
use Rattle.lvish_lattice.specs.Lattice.{IsIdentity}
use Rattle.lvish_compound.specs.Vocabulary.{OrdGhosts, PartialEqGhosts, PartialOrdGhosts, HashGhosts, LatticeGhosts, Above}

module _ {L E : Type 0} {l : LatticeGhosts L E} {le : PartialEqGhosts L} {eo : OrdGhosts E} {ee : PartialEqGhosts E} {ep : PartialOrdGhosts E} {eh : HashGhosts E} where
  abbrev pub state_of : Above L E l le eo ee ep eh → L
  state_of a = a.state

  -- whether two of them have the same state
  abbrev pub alike : Above L E l le eo ee ep eh → Above L E l le eo ee ep eh → Bool
  alike a b = le.eq a.state b.state

  pub same_above : (a b : Above L E l le eo ee ep eh) → a.state ≡ b.state → a ≡ b
  same_above a b h =
      let pairs : ◌≡◌ {A = (s : L) × (le.eq s l.least ≡ false)} (a.state, a.rises) (b.state, b.rises) = Σ_prop_path (λ s. Bool-set _ _) h in
      λ i. record { state = (pairs i).0; rises = (pairs i).1 }

  pub alike_identical : IsIdentity le.eq → IsIdentity alike
  alike_identical same a b e = same_above a b (same a.state b.state e)

  abbrev pub above_by : (s : L) (b : Bool) → le.eq s l.least ≡ b → Option (Above L E l le eo ee ep eh)
  above_by s true h = None
  above_by s false h = Some (record { state = s; rises = h })

  -- the state, unless it is bottom
  abbrev pub above : L → Option (Above L E l le eo ee ep eh)
  above s = above_by s (le.eq s l.least) refl

  pub above_from : (s : L) (b : Bool) (h : le.eq s l.least ≡ b) (a : Above L E l le eo ee ep eh) → a.state ≡ s → above_by s b h ≡ Some a
  above_from s true h a e = absurd (true≢false (sym h ∙ ap (λ (x : L). le.eq x l.least) (sym e) ∙ a.rises))
  above_from s false h a e = ap (λ (x : Above L E l le eo ee ep eh). Some x) (same_above _ _ (sym e))

  pub above_is : (s : L) (a : Above L E l le eo ee ep eh) → a.state ≡ s → above s ≡ Some a
  above_is s a e = above_from s (le.eq s l.least) refl a e

  above_none : (s : L) (b : Bool) (h : le.eq s l.least ≡ b) → b ≡ true → above_by s b h ≡ None
  above_none s true h e = refl
  above_none s false h e = absurd cc

  pub bottom_is_none : (s : L) → le.eq s l.least ≡ true → above s ≡ None
  bottom_is_none s e = above_none s (le.eq s l.least) refl e
