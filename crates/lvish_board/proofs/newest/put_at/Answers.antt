use Rattle.std.proofs.Common.{arith, refl}
use Rattle.lvish_board.proofs.Knowing.{set_in}
use Rattle.lvish_board.proofs.newest.put_at.Goals as goal

pub returns-in-Some : goal.returns-in-Some
returns-in-Some g c = set_in c.args.stamps.now.items c.args.index c.args.stamp (omega (arith, c.in-Some.ensures.variant.0 refl, c.args.stamps.now.ok.0))
