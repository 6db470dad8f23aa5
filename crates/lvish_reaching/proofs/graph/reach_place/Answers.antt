use Rattle.std.proofs.Common.{List, ap, ◌∙◌}
use Rattle.std.specs.Global.{Vec}
use Rattle.lvish_facts.specs.declared.node.Node.{Node}
use Rattle.lvish_reaching.specs.Graphs.{lists_in, list_at}
use Rattle.lvish_reaching.proofs.Growing.{one_empty_more}
use Rattle.lvish_reaching.proofs.graph.reach_place.Goals as goal

pub loop-alloc-preserved : goal.loop-alloc-preserved
loop-alloc-preserved c =
    λ k. ap (λ (items : List (Vec Node)). list_at (lists_in items) k) c.in_ok-push.ensures.items ∙ one_empty_more c.loop-alloc.next.items c.new.result c.new.ensures.items k ∙ c.loop-alloc.invariant k
