use Rattle.std.proofs.Common.{w64}
use Rattle.std.specs.Prelude.{codes}
use Rattle.std.specs.Fmt.{signed_decimal}
use Rattle.std.proofs.lemmas.Int.{to_z-of_z}
use Rattle.lvish_explain.proofs.Adding.{adds_then}
use Rattle.lvish_outcome.proofs.trouble.push_takes.Goals as goal

pub returns : goal.returns
returns c =
    let highest = to_z-of_z w64 c.args.highest c.ranges.highest in
    adds_then c.args.text.now c.add.new.self c.add_integer.new.self (codes ", which takes 0 to ") (signed_decimal c.args.highest) c.add.ensures (rw highest at c.add_integer.ensures)
