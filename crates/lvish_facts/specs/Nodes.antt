-- Nodes by their numbers.
use Rattle.std.specs.Prelude.{◌≡◌, ◌==◌, Bool}
use Rattle.std.proofs.Common.{sym, ◌∙◌}
use Rattle.std.specs.Ordering.{nat_cmp, on, is_eq}
use Rattle.std.specs.declared.cmp.Ordering.{Ordering}
use Rattle.std.specs.declared.cmp.Ordering.TheVariants.{Equal}
use Rattle.std.specs.Cmp.{IsTotalOrder, IsEquivalence, nat_cmp_total, nat_eq_equiv, unsigned_ties, unsigned_Decides, on_total, on_equiv}
use Rattle.lvish_lattice.specs.Lattice.{IsIdentity}
use Rattle.lvish_lattice.specs.Ascending.{ties_are_same}
use Rattle.lvish_facts.specs.declared.node.Node.{Node}

abbrev pub node_eq : Node → Node → Bool
node_eq a b = a.number == b.number

-- nodes by their numbers
abbrev pub node_cmp : Node → Node → Ordering
node_cmp = on (λ n. n.number) nat_cmp

-- ---- laws

pub nodes_ranked : IsTotalOrder node_cmp
nodes_ranked = on_total (λ n. n.number) nat_cmp_total

pub node_equiv : IsEquivalence node_eq
node_equiv = on_equiv (λ n. n.number) nat_eq_equiv

pub nodes_same : IsIdentity node_eq
nodes_same a b e = let n : a.number ≡ b.number = (unsigned_Decides a.number b.number).0 e in λ i. record { number = n i }

-- whichever way the test is written
pub nodes_identical : (test : Node → Node → Bool) → ((a b : Node) → test a b ≡ node_eq a b) → IsIdentity test
nodes_identical test by_number a b e = nodes_same a b (sym (by_number a b) ∙ e)

pub node_ties : (a b : Node) → node_eq a b ≡ is_eq (node_cmp a b)
node_ties a b = unsigned_ties a.number b.number

pub tied_nodes : (a b : Node) → node_cmp a b ≡ Equal → a ≡ b
tied_nodes = ties_are_same node_cmp nodes_same node_ties
