use Rattle.std.proofs.Common.{◌≡◌, ◌∙◌, ◌++◌, ◌∷◌, [], refl, sym, true, is_some, None}
use Rattle.std.specs.Map.{lookup}
use Rattle.std.specs.Str.{bytes_eq}
use Rattle.indexmap.proofs.CallerLemmas.{insert_entry-new}
use Rattle.lvish_checks.specs.Table.{value_at}
use Rattle.lvish_checks.proofs.Tabled.{value_found, value_added, value_kept, absent}
use Rattle.lvish_checks.proofs.name_table.NameTable.add.Goals as goal

pub returns-in_ok-insert-clause-added : goal.returns-in_ok-insert-clause-added
returns-in_ok-insert-clause-added g c = λ q.
    let none : lookup (λ k. bytes_eq c.as_str-then-not-contains_key.result.now k.now) c.self.inside.values.entries ≡ None = absent _ (rw (c.as_str-then-not-contains_key.ensures, ← c.as_str.ensures) (sym c.contains_key.ensures ∙ c.if-not-contains_key.true)) in
    let entries : c.insert.new.self.entries ≡ c.self.inside.values.entries ++ (c.as_str-then-not-contains_key.result, c.args.value) ∷ [] = c.in_ok-insert.ensures.entries ∙ insert_entry-new _ c.self.inside.values c.as_str-then-not-contains_key.result c.args.value none in
    rw (entries, value_added q c.as_str-then-not-contains_key.result c.args.value c.self.inside.values.entries, ← c.self.view_is, c.as_str-then-not-contains_key.ensures) refl

pub returns-else-not-contains_key-clause-added : goal.returns-else-not-contains_key-clause-added
returns-else-not-contains_key-clause-added g c = λ q.
    let there : is_some (value_at c.args.name.now c.args.self.now) ≡ true = rw (← c.as_str.ensures, ← c.self.view_is, ← value_found c.as_str.result.now c.self.inside.values.entries) (sym c.contains_key.ensures ∙ c.if-not-contains_key.false) in
    value_kept c.args.name.now q c.args.value c.args.self.now there
