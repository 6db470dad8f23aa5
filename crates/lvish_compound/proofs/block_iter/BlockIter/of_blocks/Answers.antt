use Rattle.std.proofs.Common.{◌∙◌, ◌++◌, length, ap, sym}
use Rattle.lvish_compound.specs.Blocks.{flat}
use Rattle.lvish_compound.proofs.block_iter.BlockIter.of_blocks.Goals as goal

pub invariant_of-result : goal.invariant_of-result
invariant_of-result g c = (c.requires.full, c.requires.counted ∙ ap (λ ps. length (ps ++ flat c.args.blocks)) (sym c.iter.ensures.rest))

pub returns : goal.returns
returns g c = ap (λ ps. ps ++ flat c.args.blocks) c.iter.ensures.rest
