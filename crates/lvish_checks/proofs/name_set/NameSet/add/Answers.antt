use Rattle.std.proofs.Common.{refl}
use Rattle.lvish_checks.proofs.Seen.{found_by_name, names_added}
use Rattle.lvish_checks.proofs.name_set.NameSet.add.Goals as goal

pub returns-clause-fresh : goal.returns-clause-fresh
returns-clause-fresh c = rw (c.in_ok-is_new.ensures.added, found_by_name c.as_str.result.now c.self.inside.names.keys, ← c.self.view_is, c.as_str.ensures) refl

pub returns-clause-names : goal.returns-clause-names
returns-clause-names c = λ q. rw (c.in_ok-is_new.ensures.keys, names_added c.as_str.result q c.self.inside.names.keys, ← c.self.view_is, c.as_str.ensures) refl
