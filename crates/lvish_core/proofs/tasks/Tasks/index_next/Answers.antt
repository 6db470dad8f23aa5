use Rattle.std.proofs.Common.{sym, ap, ◌∙◌, option_copied, slice_get}
use Rattle.lvish_names.specs.laws.OrderLaws.{name_equiv}
use Rattle.lvish_names.proofs.NameLaws.{same_name-true}
use Rattle.lvish_core.proofs.Indexing.{kept_indexed, next_indexed}
use Rattle.lvish_core.proofs.Staged.{item_at}
use Rattle.lvish_core.proofs.tasks.Tasks.index_next.Goals as goal

pub invariant_of-self : goal.invariant_of-self
invariant_of-self g c =
    let there = sym (ap (λ ns. slice_get ns c.self.inside.indexed) c.deref.ensures.value) ∙ sym (item_at _ c.self.inside.indexed c.get.result c.get.ensures.lookup) ∙ ap option_copied c.in-Some.is in
    record {
      indexed = next_indexed _ (name_equiv g.met.E.Eq.laws) _ _ _ c.self.invariant.indexed (same_name-true g.met.E.Plain.identical) c.in-Some.name.now there c.insert.new.self (rw c.in-Ok.ensures at c.in-Ok-insert.ensures.updates.0);
      beside = c.self.invariant.beside;
    }

pub invariant_of-self-in-Err : goal.invariant_of-self-in-Err
invariant_of-self-in-Err g c = record {
  indexed = kept_indexed _ (name_equiv g.met.E.Eq.laws) _ _ _ c.self.invariant.indexed c.insert.new.self c.in-Err.ensures.err;
  beside = c.self.invariant.beside;
}
