use Rattle.std.proofs.Common.{◌≡◌, ◌∙◌, Some, None, ap, sym}
use Rattle.std.specs.Option.{option_copied}
use Rattle.std.specs.Map.{lookup}
use Rattle.std.specs.BTreeMap.{is_at}
use Rattle.lvish_lattice.specs.Ascending.{ties_are_same}
use Rattle.lvish_compound.specs.Keyed.{at}
use Rattle.lvish_compound.proofs.Trees.{found_at, none_at, held_rises}
use Rattle.lvish_compound.proofs.tree.Tree.get.Goals as goal

pub find-requires : goal.find-requires
find-requires g c =
    let R = g.K.Ord.cmp in
    let h = g.K.Key.high in
    let held : lookup (is_at (R (h c.args.of))) c.self.inside.blocks.entries ≡ Some c.in-Some.block.now = sym (rw (c.new.ensures, c.high.ensures) at c.get.ensures.value) ∙ ap option_copied c.in-Some.is in
    held_rises R h g.met.K.Ord.total (ties_are_same R g.met.K.Plain.identical g.met.K.Ord.matches_eq) g.met.K.Key.rises (h c.args.of) c.self.inside.blocks.entries c.self.inside.count c.in-Some.block.now c.self.invariant held

pub returns-in-Some : goal.returns-in-Some
returns-in-Some g c =
    let R = g.K.Ord.cmp in
    let h = g.K.Key.high in
    let l = g.L.Lattice in
    let held : lookup (is_at (R (h c.args.of))) c.self.inside.blocks.entries ≡ Some c.in-Some.block.now = sym (rw (c.new.ensures, c.high.ensures) at c.get.ensures.value) ∙ ap option_copied c.in-Some.is in
    c.find.ensures
    ∙ found_at R h g.met.K.Ord.total (ties_are_same R g.met.K.Plain.identical g.met.K.Ord.matches_eq) g.met.K.Key.rises l.least l.joined c.args.of c.self.inside.blocks.entries c.self.inside.count c.in-Some.block.now c.self.invariant held
    ∙ ap (λ es. at R l.least l.joined es c.args.of) c.self.view_is

pub returns-in-None : goal.returns-in-None
returns-in-None g c =
    let R = g.K.Ord.cmp in
    let h = g.K.Key.high in
    let l = g.L.Lattice in
    let none : lookup (is_at (R (h c.args.of))) c.self.inside.blocks.entries ≡ None = sym (rw (c.new.ensures, c.high.ensures) at c.get.ensures.value) ∙ ap option_copied c.in-None.is in
    none_at R h g.met.K.Ord.total (ties_are_same R g.met.K.Plain.identical g.met.K.Ord.matches_eq) g.met.K.Key.rises l.least l.joined c.args.of c.self.inside.blocks.entries c.self.inside.count c.self.invariant none
    ∙ ap (λ es. at R l.least l.joined es c.args.of) c.self.view_is
