use Rattle.std.proofs.Common.{◌∷◌, [], sym, ap, ◌∙◌, append_assoc}
use Rattle.lvish_syntax.specs.Nested.{statements}
use Rattle.lvish_script.specs.Spells.{body_lines}
use Rattle.lvish_checks.specs.declared.line.Line.TheVariants as line
use Rattle.lvish_script.proofs.Layers.{lines_if, lines_if_else, lines_while}
use Rattle.lvish_script.proofs.open.OpenBlock.closed.Goals as goal

pub returns-in-If : goal.returns-in-If
returns-in-If c = rw c.in-If.is (lines_if c.in-If.test c.in-If.block)

pub returns-in-Else : goal.returns-in-Else
returns-in-Else c = rw c.in-Else.is (lines_if_else c.in-Else.test c.in-Else.first c.in-Else.second ∙ ap (λ t. line.If c.in-Else.test ∷ t) (sym (append_assoc (body_lines (statements c.in-Else.first)) (line.Else ∷ body_lines (statements c.in-Else.second)) (line.End ∷ []))))

pub returns-in-While : goal.returns-in-While
returns-in-While c = rw c.in-While.is (lines_while c.in-While.test c.in-While.block)
