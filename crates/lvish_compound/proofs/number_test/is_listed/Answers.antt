use Rattle.std.proofs.Common.{◌∙◌}
use Rattle.std.specs.List.{list_any}
use Rattle.std.specs.Ordering.{int_eq}
use Rattle.std.proofs.lemmas.Cmp.{int_eq_equiv}
use Rattle.std.proofs.lemmas.Int.{to_z-of_z}
use mir.Syntax.{w64}
use Rattle.lvish_compound.proofs.number_test.is_listed.Goals as goal

pub returns : goal.returns
returns c =
    c.contains.ensures.value
    ∙ (λ i. list_any (λ n. int_eq n (to_z-of_z w64 c.args.number c.ranges.number i)) c.args.numbers.now)
    ∙ λ i. list_any (λ n. int_eq_equiv.symm n c.args.number i) c.args.numbers.now
