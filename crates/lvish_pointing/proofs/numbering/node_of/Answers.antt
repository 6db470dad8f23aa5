use Rattle.std.proofs.Common.{◌∙◌, ℕ, List, Some, Ordering, Bor, ap, slice_index_or}
use Rattle.std.specs.Cmp.{IsTotalOrder, on_total, tied_itself}
use Rattle.std.specs.Ordering.{nat_cmp}
use Rattle.std.specs.Cmp.Lexicographic.{slice_cmp}
use Rattle.std.proofs.lemmas.Cmp.{nat_list_cmp_total}
use Rattle.std.proofs.lemmas.Map.Lookups.{exact_bytes}
use Rattle.lvish_rules.specs.Reach.{of_map}
use Rattle.lvish_pointing.proofs.Lines.{value_at}
use Rattle.lvish_pointing.proofs.Searched.{sorted_by, never_parted}
use Rattle.lvish_pointing.proofs.numbering.node_of.Goals as goal

abbrev by_bytes : Bor (List ℕ) → Bor (List ℕ) → Ordering
by_bytes a b = slice_cmp nat_cmp a.now b.now

ranked : IsTotalOrder by_bytes
ranked = on_total (λ (b : Bor (List ℕ)). b.now) nat_list_cmp_total

pub unreachable-requires : goal.unreachable-requires
unreachable-requires c =
    let y = of_map (λ (b : Bor (List ℕ)). b.now) c.args.names.now c.args.name.now c.requires.there in
    never_parted by_bytes ranked c.args.names.now (sorted_by (slice_cmp nat_cmp) (λ (b : Bor (List ℕ)). b.now) c.args.names.now c.requires.rising) c.args.name y.0 y.1
    (ap (λ w. slice_cmp nat_cmp w c.args.name.now) y.2 ∙ tied_itself nat_list_cmp_total c.args.name.now) c.in-Err.field-0 c.in-Err.ensures.position

pub returns : goal.returns
returns c =
    value_at c.args.names.now c.in-Ok.number c.args.name c.in-Ok.ensures.bound ∙ ap Some (exact_bytes (slice_index_or c.args.names.now c.in-Ok.number c.args.name).now c.args.name.now (c.in-Ok.ensures.ok c.args.name))
