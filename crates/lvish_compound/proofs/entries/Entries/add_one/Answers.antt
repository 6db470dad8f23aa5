use Rattle.std.specs.List.Sorted.{IsStrictlySortedBy}
use Rattle.std.proofs.Common.{◌≡◌, map, ap, not, true}
use Rattle.lvish_compound.specs.Keyed.{key, has_no, add}
use Rattle.lvish_compound.specs.laws.KeyedLaws.{add_rises, add_above}
use Rattle.lvish_compound.proofs.Outcomes.{result_either}
use Rattle.lvish_compound.proofs.entries.Entries.add_one.Goals as goal

pub returns-clause-ascending : goal.returns-clause-ascending
returns-clause-ascending g c =
    let R = g.K.Ord.cmp in
    let l = g.L.Lattice in
    result_either (λ es. IsStrictlySortedBy R (map key es)) (add R l.least l.joined c.args.of c.args.part.now c.args.self.now) _ c.args.self.now c.merge_one_at.new.self c.requires.ascending
    (λ gs is. add_rises R l.least l.joined g.met.K.Ord.total g.met.L.Lattice.is_join c.args.of c.args.part.now c.args.self.now gs c.requires.ascending is) c.merge_one_at.result c.merge_one_at.ensures.merged c.merge_one_at.ensures.refused

pub returns-clause-above : goal.returns-clause-above
returns-clause-above g c =
    let R = g.K.Ord.cmp in
    let l = g.L.Lattice in
    result_either (λ es. has_no g.L.PartialEq.eq l.least es ≡ true) (add R l.least l.joined c.args.of c.args.part.now c.args.self.now) _ c.args.self.now c.merge_one_at.new.self c.requires.above
    (λ gs is. add_above R l.least l.joined g.met.K.Ord.total g.met.L.Lattice.is_join g.L.PartialEq.eq g.met.L.Eq.laws.refl g.met.L.Lattice.identical c.args.of c.args.part.now c.args.self.now gs (ap not c.requires.part) c.requires.above is) c.merge_one_at.result c.merge_one_at.ensures.merged c.merge_one_at.ensures.refused
