-- What the procedures of a script do.
use Rattle.std.specs.Prelude.{Bool, true, false, ◌&&◌, List, [], ◌∷◌, ◌++◌, map, filter}
use Rattle.std.specs.List.{flat_map, list_any}
use Rattle.std.specs.Str.{bytes_eq}
use Rattle.lvish_syntax.specs.Words.{Word}
use Rattle.lvish_syntax.specs.declared.command.Command.{Command}
use Rattle.lvish_syntax.specs.declared.command.Command.TheVariants.{Let, Put, PutAt, Get, GetAt, Fork, Call, Handle, Freeze, FreezeEach}
use Rattle.lvish_syntax.specs.declared.statement.Statement.{Statement}
use Rattle.lvish_syntax.specs.declared.statement.Block.{Block}
use Rattle.lvish_syntax.specs.declared.procedure.Procedure.{Procedure}
use Rattle.lvish_syntax.specs.Nested.{statements, nested, all_nested}
use Rattle.lvish_syntax.specs.Sound.{variable_names, pool_names, procedure_names}
use Rattle.lvish_syntax.specs.declared.script.Script.{Script}
use Rattle.lvish_syntax.specs.declared.statement.Statement.TheViews.{out-Statement}
use Rattle.lvish_syntax.specs.declared.statement.Statement.TheOpen as layer
use Rattle.lvish_graph.specs.declared.verb.Verb.{Verb}
use Rattle.lvish_graph.specs.declared.verb.Verb.TheVariants.{Puts, Reads, Freezes, Awaits, Forks, Calls}
use Rattle.lvish_graph.specs.declared.deed.Deed.{Deed}
use Rattle.lvish_graph.specs.declared.deed.Deed.TheVariants.{Does, Handles}

-- ---- deeds

-- one deed
abbrev pub deed : Verb → Word → List Deed
deed v n = Does v n ∷ []

-- that pools are waited for
abbrev pub awaited : List Word → List Deed
awaited ps = map (λ p. Does Awaits p) ps

-- what a statement of one line does
abbrev pub command_deeds : Command → List Deed
command_deeds (Let x a) = []
command_deeds (Put v a) = deed Puts v
command_deeds (PutAt v k a) = deed Puts v
command_deeds (Get x v r) = deed Reads v
command_deeds (GetAt x v k r) = deed Reads v
command_deeds (Fork n ts) = deed Forks n
command_deeds (Call n ts) = deed Calls n
command_deeds (Handle p n) = Handles p n ∷ []
command_deeds (Freeze x v ps) = deed Freezes v ++ awaited ps
command_deeds (FreezeEach x v ps n) = deed Freezes v ++ (awaited ps ++ deed Calls n)

-- what a statement itself does, apart from those within it
abbrev pub own_deeds : layer.Statement-F Statement Block → List Deed
own_deeds (layer.Do c) = command_deeds c
own_deeds s = []

-- what a statement and those within it do
abbrev pub statement_deeds : Statement → List Deed
statement_deeds s = flat_map (λ s. own_deeds (out-Statement s)) (nested s)

-- what the statements of a procedure do, those within others too
abbrev pub deeds_of : Procedure → List Deed
deeds_of p = flat_map (λ s. own_deeds (out-Statement s)) (all_nested (statements p.body))

-- ---- what is told of them

-- whether two verbs are the same
abbrev pub is_same : Verb → Verb → Bool
is_same Puts Puts = true
is_same Reads Reads = true
is_same Freezes Freezes = true
is_same Awaits Awaits = true
is_same Forks Forks = true
is_same Calls Calls = true
is_same v w = false

-- whether a deed does this to the one with this name
abbrev pub does : Verb → Word → Deed → Bool
does v n (Does w m) = is_same w v && bytes_eq m n
does v n (Handles p m) = false

-- whether a deed adds a handler that runs this procedure to this pool
abbrev pub handles : Word → Word → Deed → Bool
handles p n (Does w m) = false
handles p n (Handles q m) = bytes_eq q p && bytes_eq m n

-- the names of all to which a statement can do this, in the order of their lines
abbrev pub names_for : Script → Verb → List Word
names_for s Puts = variable_names s.declarations
names_for s Reads = variable_names s.declarations
names_for s Freezes = variable_names s.declarations
names_for s Awaits = pool_names s.declarations
names_for s Forks = procedure_names s.procedures
names_for s Calls = procedure_names s.procedures

-- the names of those to which deeds do this
abbrev pub targets : Script → List Deed → Verb → List Word
targets s ds v = filter (λ n. list_any (does v n) ds) (names_for s v)

-- those of these procedures that deeds have run by handlers of this pool
abbrev pub handlers : List Word → List Deed → Word → List Word
handlers ns ds p = filter (λ n. list_any (handles p n) ds) ns
