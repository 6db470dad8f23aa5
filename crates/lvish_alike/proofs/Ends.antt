-- Ends of scripts whose code is layered.
use Rattle.std.proofs.Common.{ℕ, ℤ, Bool, List, Option}
use Rattle.std.specs.declared.cmp.Ordering.{Ordering}
use Rattle.lvish_calculus.specs.Machine.{IsLawful}
use Rattle.lvish_calculus.specs.Program.{machine_of}
use Rattle.lvish_calculus.specs.Agreement.{AllLeadToTheEnd}
use Rattle.lvish_calculus.specs.SameRuns.{HaveSameRuns}
use Rattle.lvish_calculus.proofs.SameThere.{Base, over}
use Rattle.lvish_task.specs.Vocabulary.{Any, AnyRead, Event, Script}
use Rattle.lvish_task.specs.declared.script_code.ScriptCode.{ScriptCode}
use Rattle.lvish_task.specs.Meaning.{script_functions}
use Rattle.lvish_task.specs.Run.{functions}
use Rattle.lvish_alike.specs.Layered.{IsLayered}
use Rattle.lvish_alike.specs.OneEnd.{HasOneEnd, OneEndShowsAll}
use Rattle.lvish_alike.specs.Strata.{IsStratified}
use Rattle.lvish_alike.proofs.Stratified.{waited, stratified}
use Rattle.lvish_alike.proofs.SameStates.{one_end_there, one_end_led, shows_all_led, shows_all_there}

module _ (same : Any → Any → Bool) (event_same : Event → Event → Bool) (cmp : Event → Event → Ordering) (bottom : Any) (join : Any → Any → Option Any) (events : Any → List Event) (answer : AnyRead → Any → Option ℤ) (s : Script) (c : ScriptCode) where
  abbrev base : Base Any Event AnyRead ℤ
  base = record { same = same; event_same = event_same; cmp = cmp; bottom = bottom; join = join; events = events; answer = answer }

  module _ (ok : IsLawful (machine_of same event_same cmp bottom join events answer (functions c))) (runs : HaveSameRuns (machine_of same event_same cmp bottom join events answer (functions c)) (machine_of same event_same cmp bottom join events answer (script_functions s))) (ly : IsLayered c.flat)
      (leads : (waited : ℕ → List ℕ) → IsStratified (machine_of same event_same cmp bottom join events answer (functions c)) waited → AllLeadToTheEnd (machine_of same event_same cmp bottom join events answer (functions c))) where
    led : AllLeadToTheEnd (over base (functions c))
    led = leads (waited c.flat ly) (stratified c ly base ok)

    pub layers_one_end : HasOneEnd (machine_of same event_same cmp bottom join events answer (script_functions s))
    layers_one_end = one_end_there base (functions c) (script_functions s) runs (one_end_led (over base (functions c)) led)

    pub layers_show_all : OneEndShowsAll (machine_of same event_same cmp bottom join events answer (script_functions s))
    layers_show_all = shows_all_there base (functions c) (script_functions s) runs (shows_all_led (over base (functions c)) led)
