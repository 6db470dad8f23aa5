-- What a script does, as a graph for Graphviz.
use Rattle.std.specs.Prelude.{ℕ, codes, List, ◌++◌}
use Rattle.std.specs.List.{flat_map}
use Rattle.lvish_syntax.specs.Words.{Word}
use Rattle.lvish_syntax.specs.declared.declaration.Declaration.{Declaration}
use Rattle.lvish_syntax.specs.declared.declaration.Declaration.TheVariants.{Variable, Pool}
use Rattle.lvish_syntax.specs.declared.procedure.Procedure.{Procedure}
use Rattle.lvish_syntax.specs.Sound.{pool_names, procedure_names}
use Rattle.lvish_syntax.specs.declared.script.Script.{Script}
use Rattle.lvish_graph.specs.declared.verb.Verb.{Verb}
use Rattle.lvish_graph.specs.declared.verb.Verb.TheVariants.{Puts, Reads, Freezes, Awaits, Forks, Calls}
use Rattle.lvish_graph.specs.declared.deed.Deed.{Deed}
use Rattle.lvish_graph.specs.Deeds.{deeds_of, targets, handlers}
use Rattle.lvish_graph.specs.Text.{verb_text, verbs}

-- ---- nodes

-- how a node is named in edges: what it is, and its name
abbrev pub node : List ℕ → Word → List ℕ
node kind n = codes "\"" ++ (kind ++ (codes " " ++ (n ++ codes "\"")))

abbrev pub variable_node : Word → List ℕ
variable_node n = node (codes "variable") n

abbrev pub pool_node : Word → List ℕ
pool_node n = node (codes "pool") n

abbrev pub procedure_node : Word → List ℕ
procedure_node n = node (codes "procedure") n

-- the node of the one to which a verb is done
abbrev pub target_node : Verb → Word → List ℕ
target_node Puts n = variable_node n
target_node Reads n = variable_node n
target_node Freezes n = variable_node n
target_node Awaits n = pool_node n
target_node Forks n = procedure_node n
target_node Calls n = procedure_node n

-- ---- lines

-- a node with its name and this shape
abbrev pub node_line : List ℕ → Word → List ℕ → List ℕ
node_line node n shape = codes "  " ++ (node ++ (codes " [label=\"" ++ (n ++ (codes "\", shape=" ++ (shape ++ codes "];\n")))))

-- an edge with a label
abbrev pub edge_line : List ℕ → List ℕ → List ℕ → List ℕ
edge_line a b label = codes "  " ++ (a ++ (codes " -> " ++ (b ++ (codes " [label=\"" ++ (label ++ codes "\"];\n")))))

-- an edge without one
abbrev pub plain_edge_line : List ℕ → List ℕ → List ℕ
plain_edge_line a b = codes "  " ++ (a ++ (codes " -> " ++ (b ++ codes ";\n")))

-- ---- what they stand for

-- a variable; a pool, with an edge from its variable
abbrev pub declaration_lines : Declaration → List ℕ
declaration_lines (Variable n k) = node_line (variable_node n) n (codes "ellipse")
declaration_lines (Pool p v) = node_line (pool_node p) p (codes "diamond") ++ plain_edge_line (variable_node v) (pool_node p)

abbrev pub procedure_line : Procedure → List ℕ
procedure_line p = node_line (procedure_node p.name) p.name (codes "box")

-- an edge from a procedure to each to which its deeds do this
abbrev pub verb_edges : Script → List Deed → Word → Verb → List ℕ
verb_edges s ds from v = flat_map (λ n. edge_line (procedure_node from) (target_node v n) (verb_text v)) (targets s ds v)

-- an edge from a pool to each procedure that the deeds have run by its handlers, labelled with who adds them
abbrev pub pool_edges : Script → List Deed → Word → Word → List ℕ
pool_edges s ds from p = flat_map (λ n. edge_line (pool_node p) (procedure_node n) (from ++ codes " handles")) (handlers (procedure_names s.procedures) ds p)

-- the edges of a procedure's deeds
abbrev pub deeds_edges : Script → List Deed → Word → List ℕ
deeds_edges s ds from = flat_map (verb_edges s ds from) verbs ++ flat_map (pool_edges s ds from) (pool_names s.declarations)

abbrev pub procedure_edges : Script → Procedure → List ℕ
procedure_edges s p = deeds_edges s (deeds_of p) p.name

-- all of it
abbrev pub graph_dot : Script → List ℕ
graph_dot s = codes "digraph {\n" ++ (flat_map declaration_lines s.declarations ++ (flat_map procedure_line s.procedures ++ (flat_map (procedure_edges s) s.procedures ++ codes "}\n")))
