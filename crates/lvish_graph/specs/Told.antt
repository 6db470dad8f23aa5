-- When deeds are told.
use Rattle.std.specs.Prelude.{Bool, ◌&&◌, List}
use Rattle.lvish_syntax.specs.Name.{has_name}
use Rattle.lvish_syntax.specs.Sound.{pool_names, procedure_names}
use Rattle.lvish_syntax.specs.declared.script.Script.{Script}
use Rattle.lvish_graph.specs.declared.deed.Deed.{Deed}
use Rattle.lvish_graph.specs.declared.deed.Deed.TheVariants.{Does, Handles}
use Rattle.lvish_graph.specs.Deeds.{targets, handlers}

-- whether a deed, one of these, stands among what is told of them
abbrev pub is_told : Script → List Deed → Deed → Bool
is_told s ds (Does v n) = has_name n (targets s ds v)
is_told s ds (Handles p n) = has_name p (pool_names s.declarations) && has_name n (handlers (procedure_names s.procedures) ds p)
