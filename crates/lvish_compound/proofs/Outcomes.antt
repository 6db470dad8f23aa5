-- What a put brought, where a part's outcome is that of entries, of a map, or of a state that holds it.
use Rattle.std.specs.Prelude.{◌≡◌, Bool, true, false, List, Option, Some, None, Result, Ok, Err, IfOk, IfErr, unwrap_or, map, refl}
use Rattle.std.proofs.Common.{sym, ◌∙◌, ap, subst}
use Rattle.lvish_lattice.specs.declared.brought.Brought.{Brought}
use Rattle.lvish_lattice.specs.declared.brought.Brought.TheVariants.{Nothing, One, Top, Listed}
use Rattle.lvish_lattice.specs.Lattice.{IsMerged, IsOutcome, renamed}

-- of a state that is merged as another is, and to which the same is brought
pub outcome_as : {S T E : Type 0} (r : Option S) (u : Option T) (xs ys : List E) (a b : S) (c d : T) → ((done : Bool) → IsMerged r a b done → IsMerged u c d done) → (b ≡ a → d ≡ c) → ys ≡ xs → (t : Brought E) → IsOutcome r xs a b t → IsOutcome u ys c d t
outcome_as r u xs ys a b c d merges stays same Nothing h = (merges true h.0, same ∙ h.1)
outcome_as r u xs ys a b c d merges stays same (One e) h = (merges true h.0, same ∙ h.1)
outcome_as r u xs ys a b c d merges stays same Top h = merges false h
outcome_as r u xs ys a b c d merges stays same Listed h = stays h

-- the same under other names
pub outcome_named : {S T E F : Type 0} (f : E → F) (r : Option S) (u : Option T) (xs : List E) (ys : List F) (a b : S) (c d : T) → ((done : Bool) → IsMerged r a b done → IsMerged u c d done) → (b ≡ a → d ≡ c) → ys ≡ map f xs → (t : Brought E) → IsOutcome r xs a b t → IsOutcome u ys c d (renamed f t)
outcome_named f r u xs ys a b c d merges stays names Nothing h = (merges true h.0, names ∙ ap (map f) h.1)
outcome_named f r u xs ys a b c d merges stays names (One e) h = (merges true h.0, names ∙ ap (map f) h.1)
outcome_named f r u xs ys a b c d merges stays names Top h = merges false h
outcome_named f r u xs ys a b c d merges stays names Listed h = stays h

-- the state is the old one, or the join
module _ {S E : Type 0} (P : S → Type 0) (r : Option S) (xs : List E) (old new : S) (before : P old) (after : (s : S) → r ≡ Some s → P s) where
  merged_either : (done : Bool) → IsMerged r old new done → P new
  merged_either done h = by_join r refl h.1
    where
      by_join : (u : Option S) → r ≡ u → new ≡ unwrap_or u old → P new
      by_join None is e = subst P (sym e) before
      by_join (Some s) is e = subst P (sym e) (after s is)

  outcome_either : (t : Brought E) → IsOutcome r xs old new t → P new
  outcome_either Nothing h = merged_either true h.0
  outcome_either (One e) h = merged_either true h.0
  outcome_either Top h = merged_either false h
  outcome_either Listed h = subst P (sym h) before

  pub result_either : {Refused : Type 0} (q : Result (Brought E) Refused) → IfOk q (λ t. IsOutcome r xs old new t) → IfErr q (λ _. new ≡ old) → P new
  result_either (Ok t) ok err = outcome_either t ok
  result_either (Err e) ok err = subst P (sym err) before
