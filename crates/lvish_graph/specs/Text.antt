-- The text of what a script does.
use Rattle.std.specs.Prelude.{ℕ, codes, List, [], ◌∷◌, ◌++◌}
use Rattle.std.specs.List.{flat_map}
use Rattle.lvish_syntax.specs.Words.{Word}
use Rattle.lvish_syntax.specs.declared.procedure.Procedure.{Procedure}
use Rattle.lvish_syntax.specs.Sound.{pool_names, procedure_names}
use Rattle.lvish_syntax.specs.declared.script.Script.{Script}
use Rattle.lvish_graph.specs.declared.verb.Verb.{Verb}
use Rattle.lvish_graph.specs.declared.verb.Verb.TheVariants.{Puts, Reads, Freezes, Awaits, Forks, Calls}
use Rattle.lvish_graph.specs.declared.deed.Deed.{Deed}
use Rattle.lvish_graph.specs.Deeds.{deeds_of, targets, handlers}

-- a verb as it stands in texts
abbrev pub verb_text : Verb → List ℕ
verb_text Puts = codes "puts"
verb_text Reads = codes "reads"
verb_text Freezes = codes "freezes"
verb_text Awaits = codes "waits for"
verb_text Forks = codes "forks"
verb_text Calls = codes "calls"

-- the verbs in the order in which they are told
abbrev pub verbs : List Verb
verbs = Puts ∷ Reads ∷ Freezes ∷ Awaits ∷ Forks ∷ Calls ∷ []

-- names, each after a space
abbrev pub spaced : List Word → List ℕ
spaced ns = flat_map (λ n. 32 ∷ n) ns

-- a line with these names; none where there are no names
abbrev pub line_text : List ℕ → List Word → List ℕ
line_text head [] = []
line_text head (n ∷ ns) = codes "  " ++ (head ++ (spaced (n ∷ ns) ++ 10 ∷ []))

-- the line of a verb
abbrev pub verb_line : Script → List Deed → Verb → List ℕ
verb_line s ds v = line_text (verb_text v) (targets s ds v)

-- the head of the line of a pool's handlers
abbrev pub pool_head : Word → List ℕ
pool_head p = codes "handles " ++ (p ++ codes " by")

-- the line of a pool's handlers
abbrev pub pool_line : Script → List Deed → Word → List ℕ
pool_line s ds p = line_text (pool_head p) (handlers (procedure_names s.procedures) ds p)

-- the lines of deeds
abbrev pub deeds_text : Script → List Deed → List ℕ
deeds_text s ds = flat_map (verb_line s ds) verbs ++ flat_map (pool_line s ds) (pool_names s.declarations)

-- the lines of a procedure: its name, and what it does
abbrev pub procedure_text : Script → Procedure → List ℕ
procedure_text s p = p.name ++ (10 ∷ deeds_text s (deeds_of p))

-- all of it
abbrev pub graph_text : Script → List ℕ
graph_text s = flat_map (procedure_text s) s.procedures
