-- What is answered of what a script's procedures do.
use Rattle.std.specs.Prelude.{◌≡◌, ℕ, Bool, true, false, List}
use Rattle.lvish_syntax.specs.declared.script.Script.{Script}
use Rattle.lvish_graph.specs.Text.{graph_text}
use Rattle.lvish_graph.specs.Dot.{graph_dot}
use Rattle.lvish_cli.specs.declared.order.GraphOrder.{GraphOrder}
use Rattle.lvish_cli.specs.declared.status.Status.{Status}
use Rattle.lvish_cli.specs.declared.status.Status.TheVariants.{Done}

-- its text, or where it is asked for, its graph
abbrev pub drawn : (dot : Bool) → Script → List ℕ
drawn false script = graph_text script
drawn true script = graph_dot script

-- the answer
abbrev pub IsGraphAnswer : Script → GraphOrder → Status → List ℕ → Type 0
IsGraphAnswer script asked status text = (status ≡ Done) × (text ≡ drawn asked.dot script)
