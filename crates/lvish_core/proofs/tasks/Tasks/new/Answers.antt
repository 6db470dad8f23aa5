use Rattle.std.proofs.Common.{length, ap, sym, ◌∙◌}
use Rattle.lvish_core.proofs.Indexing.{none_indexed}
use Rattle.lvish_core.proofs.tasks.Tasks.new.Goals as goal

pub invariant_of-result : goal.invariant_of-result
invariant_of-result g c = record {
  indexed = none_indexed g.E.PartialEq.eq _ _ c.new.ensures.items c.new-3.ensures.empty;
  beside = ap length c.new-2.ensures.items ∙ sym (ap length c.new.ensures.items);
}
