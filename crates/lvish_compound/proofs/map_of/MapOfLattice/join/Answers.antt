use Rattle.std.proofs.Common.{◌≡◌, ◌∙◌, Some, sym}
use Rattle.lvish_compound.specs.Keyed.{add_all}
use Rattle.lvish_compound.specs.laws.KeyedLaws.{all_rises, all_above}
use Rattle.lvish_compound.proofs.Maps.{joined_some}
use Rattle.lvish_compound.proofs.map_of.MapOfLattice.join.Goals as goal

pub invariant_of-result : goal.invariant_of-result
invariant_of-result g c =
    let R = g.K.Ord.cmp in
    let l = g.L.Lattice in
    let a = c.args.self.now in
    let b = c.args.other.now in
    let h : add_all R l.least l.joined a.entries b.entries ≡ Some c.in-Some.entries = sym c.in_ok-entries.ensures ∙ c.in-Some.is in
    record {
      ascending = all_rises R l.least l.joined g.met.K.Ord.total g.met.L.Lattice.is_join a.entries b.entries c.in-Some.entries a.ascending h;
      above = all_above R l.least l.joined g.met.K.Ord.total g.met.L.Lattice.is_join g.L.PartialEq.eq g.met.L.Eq.laws.refl g.met.L.Lattice.identical a.entries b.entries c.in-Some.entries a.above b.above h;
    }

pub returns-in-Some : goal.returns-in-Some
returns-in-Some g c = sym (joined_some c.args.self.now c.args.other.now _ (sym c.in_ok-entries.ensures ∙ c.in-Some.is))
