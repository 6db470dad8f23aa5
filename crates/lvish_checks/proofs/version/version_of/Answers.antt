use Rattle.std.proofs.Common.{◌∙◌, sym, ap}
use Rattle.std.proofs.lemmas.List.{drop_all}
use Rattle.lvish_checks.specs.Checks.{version_of}
use Rattle.lvish_checks.proofs.Scans.{drop_at}
use Rattle.lvish_checks.proofs.Versions.{version_told, version_blank}
use Rattle.lvish_checks.proofs.version.version_of.Goals as goal

pub returns-then-is_told : goal.returns-then-is_told
returns-then-is_told c =
    let rest = ap version_of (drop_at c.args.lines.now c.loop-line.line-index c.line-item.result c.loop-line-test.true c.line-item.is) in
    c.says_version.ensures ∙ sym (version_told c.line-item.result _ (sym c.is_told.ensures ∙ c.if-is_told.true)) ∙ sym rest ∙ c.loop-line.invariant

pub loop-line-preserved : goal.loop-line-preserved
loop-line-preserved c =
    let rest = ap version_of (drop_at c.args.lines.now c.loop-line.line-index c.line-item.result c.loop-line-test.true c.line-item.is) in
    sym (version_blank c.line-item.result _ (sym c.is_told.ensures ∙ c.if-is_told.false)) ∙ sym rest ∙ c.loop-line.invariant

pub returns : goal.returns
returns c = sym (ap version_of (drop_all c.loop-line.line-index c.args.lines.now c.loop-line-test.false)) ∙ c.loop-line.invariant
