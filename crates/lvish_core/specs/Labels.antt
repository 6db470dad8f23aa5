-- The labels that can be stepped with, in order.
use Rattle.std.specs.Prelude.{◌↔◌, List}
use Rattle.std.specs.declared.cmp.Ordering.{Ordering}
use Rattle.std.specs.declared.cmp.Ordering.TheVariants.{Less, Greater}
use Rattle.std.specs.Ordering.{ordering_then}
use Rattle.std.specs.List.Sorted.{IsStrictlySortedBy}
use Rattle.lvish_names.specs.NameOrder.{name_cmp, handler_cmp}
use Rattle.lvish_core.specs.Vocabulary.{Label, Act, Hand}
use Rattle.lvish_calculus.specs.Machine.{Machine}
use Rattle.lvish_calculus.specs.Handing.{IsAmong}
use Rattle.lvish_core.specs.Core.{CoreView, CanTake}

-- tasks by name, then handlers by name
abbrev pub label_cmp : {E : Type 0} → (E → E → Ordering) → Label E → Label E → Ordering
label_cmp cmp (Act t) (Act u) = name_cmp cmp t u
label_cmp cmp (Act t) (Hand h e) = Less
label_cmp cmp (Hand h e) (Act t) = Greater
label_cmp cmp (Hand h e) (Hand k f) = ordering_then (handler_cmp cmp h k) (cmp e f)

-- just the labels that the core can take, in order, each once
pub record AreLabels {P S E R A L : Type 0} (cmp : E → E → Ordering) (M : Machine S E R A L) (c : CoreView P S E L) (ls : List (Label E)) : Type 0 where
  pub ascending : IsStrictlySortedBy (label_cmp cmp) ls
  pub just : (l : Label E) → IsAmong l ls ↔ CanTake M c l
