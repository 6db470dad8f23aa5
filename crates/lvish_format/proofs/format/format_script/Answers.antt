use Rattle.std.proofs.Common.{◌≡◌, ◌≤◌, ◌++◌, ◌∙◌, [], length, map, drop, sym, ap, subst}
use Rattle.std.specs.List.{flat_map}
use Rattle.std.proofs.lemmas.List.{append-nil, drop_all}
use Rattle.lvish_syntax.specs.declared.limits.TheConstants.{MOST_BYTES}
use Rattle.lvish_format.specs.Format.{ended, formatted_lines, formatted}
use Rattle.lvish_format.specs.Same.{SpellTheSame}
use Rattle.lvish_format.proofs.Kept.{spell_the_same}
use Rattle.lvish_format.proofs.format.format_script.Goals as goal

pub returns-clause-same : goal.returns-clause-same
returns-clause-same c =
    let items = c.as_slice-line-items.result.now in
    let all = c.loop-line.formatted.items in
    let gone : drop c.loop-line.line-index items ≡ [] = drop_all c.loop-line.line-index items c.loop-line-test.false in
    let written : formatted c.args.text.now ≡ all =
    ap (λ ls. flat_map ended (formatted_lines 0 ls)) (sym c.in_ok-lines.ensures ∙ ap (map (λ w. w.now)) (sym c.as_slice-line-items.ensures.value))
    ∙ c.loop-line.invariant.all
    ∙ ap (λ t. all ++ flat_map ended (formatted_lines c.loop-line.depth (map (λ w. w.now) t))) gone
    ∙ append-nil all in
    subst (λ t. SpellTheSame c.args.text.now t) written
    (spell_the_same c.args.text.now c.if-text-gt-MOST_BYTES.false (subst (λ t. length t ≤ MOST_BYTES) (sym written) c.loop-line.invariant.short))
