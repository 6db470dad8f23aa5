-- A fact for each answer of a steal.
use Rattle.std.specs.Prelude.{⊤}
use Rattle.lvish_deal.specs.declared.steal.Steal.{Steal}
use Rattle.lvish_deal.specs.declared.steal.Steal.TheVariants.{Taken}

module _ {T : Type 0} where
  -- one fact where an item was taken, and one where none was
  abbrev pub MatchSteal : Steal T → (T → Type 0) → Type 0 → Type 0
  MatchSteal (Taken x) taken none = taken x
  MatchSteal _ taken none = none

  -- the fact of the item that was taken
  abbrev pub IfTaken : Steal T → (T → Type 0) → Type 0
  IfTaken answer fact = MatchSteal answer fact ⊤

  -- the fact where no item was taken
  abbrev pub IfNotTaken : Steal T → Type 0 → Type 0
  IfNotTaken answer fact = MatchSteal answer (λ _. ⊤) fact
