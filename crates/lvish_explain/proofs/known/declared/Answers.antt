use Rattle.std.proofs.Common.{◌∙◌, ◌++◌, ◌+◌, map, ap}
use Rattle.lvish_explain.specs.Known.{seen, declared_by}
use Rattle.lvish_explain.proofs.Knowing.{declared_step}
use Rattle.lvish_explain.proofs.known.declared.Goals as goal

pub loop-k-preserved : goal.loop-k-preserved
loop-k-preserved c =
    let words = ap (map (λ w. w.now)) c.as_slice.ensures.value ∙ c.in_ok-put_words.ensures.words in
    c.loop-k.invariant
    ∙ declared_step c.args.lines.now c.loop-k.k _ c.loop-k-test.true c.args.space (map seen c.loop-k.known.items) (map seen c.push_declared.new.known.items)
    (c.in_ok-push_declared.ensures ∙ ap (λ ws. map seen c.loop-k.known.items ++ declared_by c.args.space (c.loop-k.k + 1) ws) words)
