use Rattle.std.proofs.Common.{◌≡◌, ◌+◌, ◌-◌, ◌∷◌, [], Some, is_some, unwrap_or, ◌∙◌, ap, sym, map, pos, to_z, of_z, w64, arith}
use Rattle.std.proofs.lemmas.Int.{ints, to_z-of_z}
use Rattle.std.specs.List.{range_with_len}
use Rattle.lvish_lattice.specs.MaxCounter.{joined}
use Rattle.lvish_lattice.specs.laws.MaxCounterLaws.{counters_fresh, stays_joined, rises_joined}
use Rattle.lvish_lattice.proofs.max_counter.MaxCounterLattice.merge_one.Goals as goal

pub returns-then-put-self-clause-merged : goal.returns-then-put-self-clause-merged
returns-then-put-self-clause-merged c =
    let old = c.args.self.now in
    let none : c.args.put.now.value - old.value ≡ 0 = omega (arith, c.if-put-self.true) in
    let same : joined old c.args.put.now ≡ Some old = stays_joined old c.args.put.now (omega (arith, c.if-put-self.true)) in
    ((ap is_some (sym same), ap (λ r. unwrap_or r old) (sym same)), counters_fresh old c.args.put.now ∙ ap (λ k. map pos (range_with_len (old.value + 1) k)) none)

pub returns-then-put-self-2-clause-merged : goal.returns-then-put-self-2-clause-merged
returns-then-put-self-2-clause-merged c =
    let old = c.args.self.now in
    let next : c.args.put.now.value ≡ old.value + 1 = omega (arith, c.if-put-self-2.true) in
    let one : c.args.put.now.value - old.value ≡ 1 = omega (arith, next) in
    let rises : joined old c.args.put.now ≡ Some c.args.put.now = rises_joined old c.args.put.now (omega (arith, next)) in
    let same : pos (old.value + 1) ≡ to_z w64 (of_z w64 c.from.result) = grind (arith, ints, to_z-of_z, c.from.ensures, next) in
    ((ap is_some (sym rises), ap (λ r. unwrap_or r old) (sym rises)), counters_fresh old c.args.put.now ∙ ap (λ k. map pos (range_with_len (old.value + 1) k)) one ∙ ap (λ n. n ∷ []) same)
