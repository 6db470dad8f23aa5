use Rattle.std.proofs.Common.{[], ◌∷◌, ◌++◌, map, reverse, ap, sym, ◌∙◌}
use Rattle.lvish_checks.specs.Checks.{takes_else}
use Rattle.lvish_script.specs.Vocabulary.{InProcedure}
use Rattle.lvish_script.specs.Nested.{opener}
use Rattle.lvish_script.proofs.Innermost.{innermost_first, takes_else_if}
use Rattle.lvish_script.proofs.nest.OpenProcedure.turn.Goals as goal

pub turned-requires : goal.turned-requires
turned-requires c = takes_else_if _ _ (ap takes_else (sym (innermost_first c.pop.new.self.items c.in-Some.block)) ∙ ap (λ bs. takes_else (reverse (map opener bs) ++ InProcedure ∷ [])) (sym c.in-Some.ensures.items) ∙ c.requires)
