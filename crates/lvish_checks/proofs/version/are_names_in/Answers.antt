use Rattle.std.proofs.Common.{◌∙◌, sym, ap}
use Rattle.lvish_syntax.specs.Version.{is_name_in}
use Rattle.lvish_checks.proofs.Tested.{all_more, all_fail, all_pass}
use Rattle.lvish_checks.proofs.version.are_names_in.Goals as goal

pub returns-then-not-is_name_in : goal.returns-then-not-is_name_in
returns-then-not-is_name_in c = all_fail (is_name_in c.args.version) c.args.names.now c.loop-name.name-index c.name-item.result c.loop-name-test.true (ap (is_name_in c.args.version) (sym c.name-item.is) ∙ sym c.is_name_in.ensures ∙ c.if-not-is_name_in.true) c.loop-name.invariant

pub loop-name-preserved : goal.loop-name-preserved
loop-name-preserved c = all_more (is_name_in c.args.version) c.args.names.now c.loop-name.name-index c.name-item.result c.loop-name-test.true (ap (is_name_in c.args.version) (sym c.name-item.is) ∙ sym c.is_name_in.ensures ∙ c.if-not-is_name_in.false) c.loop-name.invariant

pub returns : goal.returns
returns c = all_pass (is_name_in c.args.version) c.args.names.now c.loop-name.name-index c.loop-name-test.false c.loop-name.invariant
