use Rattle.std.proofs.Common.{◌∙◌, ◌++◌, ◌+◌, map, ap, sym}
use Rattle.lvish_explain.specs.Known.{seen, is_procedure_line, locals_by}
use Rattle.lvish_explain.proofs.Knowing.{locals_end, locals_anew, locals_on}
use Rattle.lvish_explain.proofs.known.locals.Goals as goal
use Rattle.lvish_explain.proofs.known.locals.Goals.{then-is_procedure_line+else-k-number, else-is_procedure_line}

pub returns-then-k-number : goal.returns-then-k-number
returns-then-k-number c =
    let words = ap (map (λ w. w.now)) c.as_slice.ensures.value ∙ c.in_ok-put_words.ensures.words in
    sym (c.loop-k.invariant ∙ locals_end c.args.lines.now c.loop-k.k _ c.loop-k-test.true c.args.number (map seen c.loop-k.known.items) (sym (c.is_procedure_line.ensures ∙ ap is_procedure_line words) ∙ c.if-is_procedure_line.true) c.if-k-number.true)

pub loop-k-preserved : goal.loop-k-preserved
loop-k-preserved c =
    let words = ap (map (λ w. w.now)) c.as_slice.ensures.value ∙ c.in_ok-put_words.ensures.words in
    let test = sym (c.is_procedure_line.ensures ∙ ap is_procedure_line words) in
    let new =
    c.in_ok-push_locals.ensures
    ∙ ap (λ ws. map seen c.if-is_procedure_line.known.items ++ locals_by (c.loop-k.k + 1) ws) (ap (map (λ w. w.now)) c.as_slice-in-loop-k.ensures.value ∙ c.in_ok-put_words.ensures.words) in
    c.loop-k.invariant
    ∙ elim c.if-is_procedure_line.branch [
      | then-is_procedure_line+else-k-number w ↦ locals_anew c.args.lines.now c.loop-k.k _ c.loop-k-test.true c.args.number (map seen c.loop-k.known.items) _ _ (test ∙ w.if-is_procedure_line.true) w.if-k-number.false (ap (λ v. map seen v.items) w.known-is ∙ ap (map seen) w.clear.ensures.items) new
      | else-is_procedure_line w ↦ locals_on c.args.lines.now c.loop-k.k _ c.loop-k-test.true c.args.number (map seen c.loop-k.known.items) _ _ (test ∙ w.if-is_procedure_line.false) (ap (λ v. map seen v.items) w.known-is) new
    ]
