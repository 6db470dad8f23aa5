use Rattle.std.proofs.Common.{◌≡◌, ◌∙◌, ◌+◌, ◌-◌, ◌++◌, ◌∷◌, [], sym, ap, map, pos, ◌+ℤ◌, to_z, of_z, w64, ℤ, arith}
use Rattle.std.proofs.lemmas.Int.{ints, to_z-of_z}
use Rattle.std.proofs.lemmas.List.FromFn.{map-range_with_len_more}
use Rattle.std.specs.List.{range_with_len}
use Rattle.lvish_lattice.proofs.max_counter.between.Goals as goal

pub loop-n-preserved : goal.loop-n-preserved
loop-n-preserved c =
    let low = c.args.low in
    let n = c.loop-n.n in
    let x : ℤ = to_z w64 (of_z w64 (to_z w64 (of_z w64 c.from.result) +ℤ pos 1)) in
    let next : x ≡ pos (n + 1) = grind (arith, ints, to_z-of_z, c.from.ensures) in
    let one : n + 1 - low ≡ (n - low) + 1 = omega (arith, c.loop-n.auto.n) in
    record {
      within = omega (arith, c.loop-n.auto.n, c.loop-n-test.true);
      counted = c.in_ok-push.ensures.items ∙ ap (λ l. l ++ x ∷ []) c.loop-n.invariant.counted ∙ ap (λ y. map pos (range_with_len (low + 1) (n - low)) ++ y ∷ []) next
          ∙ sym (map-range_with_len_more pos (low + 1) (n - low) (n + 1) (omega (arith, c.loop-n.auto.n))) ∙ ap (λ k. map pos (range_with_len (low + 1) k)) (sym one);
    }

pub returns : goal.returns
returns c =
    let low = c.args.low in
    let all : c.loop-n.n - low ≡ c.args.high - low = omega (arith, c.loop-n-test.false, c.loop-n.invariant.within) in
    c.loop-n.invariant.counted ∙ ap (λ k. map pos (range_with_len (low + 1) k)) all
