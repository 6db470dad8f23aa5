use Rattle.std.proofs.Common.{is_ok, subst, sym, ◌∙◌}
use Rattle.lvish_board.specs.Newest.{IsSetAt, values_of}
use Rattle.lvish_board.proofs.Knowing.{pushed_if, unset_in}
use Rattle.lvish_board.proofs.newest.push_at.Goals as goal

pub returns-then-len-index : goal.returns-then-len-index
returns-then-len-index g c =
    let here = sym c.args.stamps.now.ok.0 ∙ sym c.len.ensures ∙ c.if-len-index.true in
    subst (λ ys. IsSetAt c.args.index c.args.stamp.value (values_of c.args.stamps.now.items) (values_of ys)) (sym c.push.ensures.items) (pushed_if (is_ok c.push.result) c.args.stamps.now.items c.args.index c.args.stamp here)

pub returns-else-len-index : goal.returns-else-len-index
returns-else-len-index g c = unset_in c.args.stamps.now.items c.args.index c.args.stamp.value c.requires
