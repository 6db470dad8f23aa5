use Rattle.std.proofs.Common.{length, ap}
use Rattle.std.proofs.lemmas.Result.{IfOk-weaker}
use Rattle.lvish_alike.proofs.Spared.{listed_in, known_in, exact_in}
use Rattle.lvish_alike.proofs.layered.is_layered.Goals as goal

pub are_layers-requires-clause-known : goal.are_layers-requires-clause-known
are_layers-requires-clause-known c = known_in c.args.code.now c.as_slice-own.result.now c.pools.result.now c.main-main.result c.routines-routines.result.now c.pools.ensures c.main-main.ensures c.routines-routines.ensures c.index-routines-main.result (length c.kinds.result.now) c.as_slice-own.ensures (ap length c.kinds.ensures)

pub are_layers-requires-clause-listed : goal.are_layers-requires-clause-listed
are_layers-requires-clause-listed c = listed_in c.args.code.now c.as_slice-own.result.now c.pools.result.now c.main-main.result c.routines-routines.result.now c.pools.ensures c.main-main.ensures c.routines-routines.ensures

pub returns : goal.returns
returns c = IfOk-weaker c.are_layers.result _ _ (λ b z. exact_in c.args.code.now c.as_slice-own.result.now c.pools.result.now c.main-main.result c.routines-routines.result.now c.pools.ensures c.main-main.ensures c.routines-routines.ensures c.index-routines-main.result b c.as_slice-own.ensures z) c.are_layers.ensures
