-- A text that grows.
use Rattle.std.specs.Prelude.{◌≡◌, ℕ, List, ◌++◌, IsTrue}
use Rattle.lvish_explain.specs.declared.draft.Draft.{Draft}

-- where no growth was refused up to the second text, these bytes stand in it behind the first
abbrev pub Adds : Draft → Draft → List ℕ → Type 0
Adds old new bytes = IsTrue new.is_whole → IsTrue old.is_whole × (new.bytes.items ≡ old.bytes.items ++ bytes)
