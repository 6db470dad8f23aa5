-- What a path's summary says of it.
use Rattle.std.proofs.Common.{◌≡◌, true, false, [], ◌∷◌, length, suc, None, refl, ap, sym}
use Rattle.std.proofs.lemmas.Bool.{false≢true}
use Rattle.lvish_names.specs.declared.name_part.NamePart.TheVariants.{Fork, Hand}
use Rattle.lvish_names.specs.Names.{Name, handler_of}
use Rattle.lvish_names.specs.Summaries.{summary_of}

module _ {E : Type 0} where
  -- how many parts there are
  pub depth-length : (t : Name E) → (summary_of t).depth ≡ length t
  depth-length [] = refl
  depth-length (Fork i ∷ t) = ap suc (depth-length t)
  depth-length (Hand j e ∷ t) = ap suc (depth-length t)

  -- a task in whose name no event stands runs in no pool
  pub no_event-no_pool : (t : Name E) → (summary_of t).has_event ≡ false → handler_of t ≡ None
  no_event-no_pool [] e = refl
  no_event-no_pool (Fork i ∷ t) e = no_event-no_pool t e
  no_event-no_pool (Hand j x ∷ t) e = absurd (false≢true (sym e))
