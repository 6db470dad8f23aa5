use Rattle.std.proofs.Common.{◌∙◌, ◌≡◌, refl, ap, sym, subst, map, unwrap_or}
use Rattle.std.proofs.lemmas.Option.{slice_get_read}
use Rattle.std.specs.List.Sorted.{IsStrictlySortedBy}
use Rattle.lvish_lattice.specs.Ascending.{ties_are_same}
use Rattle.lvish_compound.specs.Keyed.{key, at}
use Rattle.lvish_compound.specs.Blocks.{stored_entries}
use Rattle.lvish_compound.proofs.Placed.{lookup_at_gap, lookup_at_place}
use Rattle.lvish_compound.proofs.Parts.{lookup_at}
use Rattle.lvish_compound.proofs.block.Block.find.Goals as goal

pub returns-in-Ok : goal.returns-in-Ok
returns-in-Ok g c =
    let R = g.K.Ord.cmp in
    let l = g.L.Lattice in
    let es = c.in-Many.entries.items in
    let x = c.index.result.now in
    let all : es ≡ c.args.self.now = ap stored_entries (sym c.in-Many.is) ∙ c.self.view_is in
    let there = slice_get_read es _ c.in-Ok.at x refl (rw c.as_slice.ensures.value at c.in-Ok.ensures.bound) c.index.ensures in
    ap (λ r. unwrap_or r l.least) (sym (lookup_at_place R (λ x. x) g.met.K.Ord.total (ties_are_same R g.met.K.Plain.identical g.met.K.Ord.matches_eq) (λ x y e. e) c.args.of es c.in-Ok.at x (rw c.as_slice.ensures.value at c.in-Ok.ensures.found) there))
    ∙ lookup_at R l.least l.joined c.args.of es ∙ ap (λ zs. at R l.least l.joined zs c.args.of) all

pub returns-in-Err : goal.returns-in-Err
returns-in-Err g c =
    let R = g.K.Ord.cmp in
    let l = g.L.Lattice in
    let es = c.in-Many.entries.items in
    let all : es ≡ c.args.self.now = ap stored_entries (sym c.in-Many.is) ∙ c.self.view_is in
    let rises = subst (λ zs. IsStrictlySortedBy R (map key zs)) (sym all) c.requires in
    ap (λ r. unwrap_or r l.least) (sym (lookup_at_gap R (λ x. x) g.met.K.Ord.total (ties_are_same R g.met.K.Plain.identical g.met.K.Ord.matches_eq) (λ x y e. e) c.args.of es c.in-Err.field-0 (rw c.as_slice.ensures.value at c.in-Err.ensures.gap) rises))
    ∙ lookup_at R l.least l.joined c.args.of es ∙ ap (λ zs. at R l.least l.joined zs c.args.of) all
