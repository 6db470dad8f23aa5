use Rattle.std.proofs.Common.{◌++◌, ◌∷◌, [], ◌∙◌, ap, append_assoc, add-one}
use Rattle.lvish_format.specs.Format.{indent}
use Rattle.lvish_format.proofs.Trimmed.{indent_more}
use Rattle.lvish_format.proofs.layout.push_indent.Goals as goal

pub loop-block-preserved : goal.loop-block-preserved
loop-block-preserved c =
    rw add-one (c.in_ok-extend_from_slice.ensures.items
    ∙ ap (λ t. t ++ 32 ∷ 32 ∷ []) c.loop-block.invariant
    ∙ append_assoc c.args.text.now.items (indent c.loop-block._block) (32 ∷ 32 ∷ [])
    ∙ ap (λ t. c.args.text.now.items ++ t) (indent_more c.loop-block._block))
