use Rattle.std.proofs.Common.{rules, refl}
use Rattle.std.proofs.lemmas.Option.{slice_get_read}
use Rattle.lvish_trace.proofs.Noting.{one_more}
use Rattle.lvish_trace.proofs.trace.Trace.entries.Goals as goal

pub loop-noted-preserved : goal.loop-noted-preserved
loop-noted-preserved g c =
    let there = slice_get_read c.as_slice-noted-items.result.now _ c.loop-noted.noted-index c.noted-item.result refl c.loop-noted-test.true c.noted-item.is in
    let entry = rw (c.name_at-name.ensures, c.as_slice.ensures.value, c.index.ensures, c.step.ensures) at c.in_ok-entry_by.ensures in
    record {
      entries = one_more c.self.inside.names.items c.as_slice-noted-items.result.now c.loop-noted.noted-index c.noted-item.result _ _ _ there c.loop-noted.invariant.entries entry c.push_reserved.ensures.items;
      room = search rules;
    }
