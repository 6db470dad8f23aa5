use Rattle.std.specs.Prelude.{refl}
use Rattle.std.specs.Map.Iter.{deref_pair}
use Rattle.std.proofs.lemmas.Map.Iter.{rest_more}
use Rattle.lvish_compound.proofs.Parts.{copied_more}
use Rattle.lvish_compound.proofs.tree.Tree.copy.Goals as goal

pub loop-key-preserved : goal.loop-key-preserved
loop-key-preserved g c =
    copied_more g.K.Ord.cmp g.met.K.Ord.total c.args.self.now c.loop-key.entries c.put_copy.new.self c.loop-key.key-iterator c.next.new.self c.in-Some.key.now c.in-Some.part.now c.in-Some.part.now c.iter-key-items.ensures.ascending c.loop-key.invariant
    (rest_more deref_pair _ _ _ (c.in-Some.key, c.in-Some.part) c.in-Some.is c.next.ensures.steps) refl c.in_ok-put_copy.ensures.put.1
