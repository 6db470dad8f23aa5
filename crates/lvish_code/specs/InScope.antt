-- The names that the compiler has numbered.
use Rattle.std.specs.Prelude.{List}
use Rattle.lvish_syntax.specs.Words.{Word}
use Rattle.lvish_code.specs.Compile.{Names}
use Rattle.lvish_code.specs.declared.tables.Tables.{Tables}
use Rattle.lvish_code.specs.declared.scope.Scope.{Scope}

-- the names of tables, beside locals
abbrev pub names_with : Tables → List Word → Names
names_with tables locals = record { variables = tables.variables; kinds = tables.kinds; pools = tables.pools; procedures = tables.procedures; locals = locals }

-- the names of a scope
abbrev pub names_in : Scope → Names
names_in scope = names_with scope.tables.now scope.locals.now
