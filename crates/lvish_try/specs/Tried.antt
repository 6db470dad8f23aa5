-- What runs by drawn picks come to.
use Rattle.std.specs.Prelude.{◌≡◌, ◌+◌, ◌^◌, ◌<◌, ◌⊎◌, ℕ, true, List, [], ◌∷◌, ◌++◌, length, map, count_by, sum_by, slice_set, Some, slice_get}
use Rattle.std.specs.Str.{bytes_eq}
use Rattle.lvish_compound.specs.declared.any.Any.{Any}
use Rattle.lvish_compound.specs.declared.event.Event.{Event}
use Rattle.lvish_syntax.specs.declared.script.Script.{Script}
use Rattle.lvish_report.specs.declared.report.Report.{Report}
use Rattle.lvish_report.specs.Text.{variables_of}
use Rattle.lvish_trace.specs.declared.outcome.Outcome.TheVariants.{Ended}
use Rattle.lvish_run.specs.OneScript.{text_of}
use Rattle.lvish_run.specs.Scripts.{IsPickedRun}
use Rattle.lvish_again.specs.Again.{EndsInZero}
use Rattle.lvish_try.specs.declared.tried.Found.{Found}
use Rattle.lvish_try.specs.declared.tried.Tried.{Tried}
use Rattle.lvish_try.specs.Drawn.{IsDrawnRun}

-- the report has a state for each variable of the script
abbrev pub IsShown : Script → Report Any Event → Type 0
IsShown script r = r.outcome ≡ Ended → length r.states ≡ length (variables_of script.declarations)

-- each of these reports has
abbrev pub AreShown : Script → List Found → Type 0
AreShown script found = (k : ℕ) (f : Found) → slice_get found k ≡ Some f → IsShown script f.report

-- what tells outcomes apart: the text of a report with a line for each variable
abbrev pub shown : Script → Report Any Event → List ℕ
shown script r = text_of script r true

-- the texts of outcomes
abbrev pub texts_of : Script → List Found → List (List ℕ)
texts_of script found = map (λ f. shown script f.report) found

-- the report of a run of the script by some picks
abbrev pub HasPicks : Script → ℕ → Report Any Event → Type 0
HasPicks script budget r = (picks : List ℕ) × IsPickedRun script picks budget r

-- the report of the run by these picks has this text
pub record IsRunTo (script : Script) (picks : List ℕ) (budget : ℕ) (text : List ℕ) (r : Report Any Event) : Type 0 where
  pub run : IsPickedRun script picks budget r
  pub told : shown script r ≡ text

-- the report of a run by some picks has this text
abbrev pub HasPicksTo : Script → ℕ → List ℕ → Report Any Event → Type 0
HasPicksTo script budget text r = (picks : List ℕ) × IsRunTo script picks budget text r

-- an outcome with the report of the run by its picks, which end in no zero
pub record IsFound (script : Script) (budget : ℕ) (f : Found) : Type 0 where
  pub run : IsPickedRun script f.picks budget f.report
  pub no_zero : EndsInZero f.picks → ⊥

-- the outcome with this text, to which one run came so far
pub record IsFirstFound (script : Script) (budget : ℕ) (text : List ℕ) (f : Found) : Type 0 where
  pub found : IsFound script budget f
  pub times : f.times ≡ 1
  pub told : shown script f.report ≡ text

-- the outcome, to which one more run came
abbrev pub once_more : Found → Found
once_more f = record { times = f.times + 1; picks = f.picks; report = f.report }

-- one more run can be counted at each outcome
abbrev pub HaveRoom : List Found → Type 0
HaveRoom found = (k : ℕ) (f : Found) → slice_get found k ≡ Some f → f.times + 1 < 2 ^ 64

-- one more run is counted at the outcome at this place
abbrev pub IsCountedAt : ℕ → List Found → List Found → Type 0
IsCountedAt place old new = (f : Found) → slice_get old place ≡ Some f → new ≡ slice_set old place (once_more f)

-- the run is counted at the outcome that it came to
pub record IsCounted (script : Script) (r : Report Any Event) (old new : List Found) : Type 0 where
  pub place : ℕ
  pub one : Found
  pub there : slice_get old place ≡ Some one
  pub told : shown script one.report ≡ shown script r
  pub after : new ≡ slice_set old place (once_more one)

-- the run came to an outcome that wasn't there
pub record IsAdded (script : Script) (budget : ℕ) (r : Report Any Event) (old new : List Found) : Type 0 where
  pub other : (k : ℕ) (f : Found) → slice_get old k ≡ Some f → shown script f.report ≡ shown script r → ⊥
  pub one : Found
  pub first : IsFirstFound script budget (shown script r) one
  pub after : new ≡ old ++ one ∷ []

-- the outcomes after one more run
abbrev pub IsNoted : Script → ℕ → Report Any Event → List Found → List Found → Type 0
IsNoted script budget r old new = IsCounted script r old new ⊎ IsAdded script budget r old new

-- the outcomes of runs, each once, with how many of the runs came to it
pub record AreOutcomes (script : Script) (budget : ℕ) (runs : List (Report Any Event)) (found : List Found) : Type 0 where
  pub each : (j : ℕ) (f : Found) → slice_get found j ≡ Some f → IsFound script budget f
  pub times : (j : ℕ) (f : Found) → slice_get found j ≡ Some f → f.times ≡ count_by (λ r. bytes_eq (shown script r) (shown script f.report)) runs
  pub apart : (j k : ℕ) (f g : Found) → slice_get found j ≡ Some f → slice_get found k ≡ Some g → shown script f.report ≡ shown script g.report → j ≡ k
  -- each run came to one of them
  pub all : (k : ℕ) (r : Report Any Event) → slice_get runs k ≡ Some r → (j : ℕ) × (f : Found) × (slice_get found j ≡ Some f) × (shown script f.report ≡ shown script r)
  pub sum : sum_by (λ f. f.times) found ≡ length runs

-- the outcomes of so many runs that are drawn from the seed
pub record AreFound (script : Script) (times seed budget : ℕ) (found : List Found) : Type 0 where
  pub runs : List (Report Any Event)
  pub count : length runs ≡ times
  pub drawn : (k : ℕ) (r : Report Any Event) → slice_get runs k ≡ Some r → IsDrawnRun script seed budget k r
  pub outcomes : AreOutcomes script budget runs found

-- with the seed and the number of runs
pub record IsTried (script : Script) (times seed budget : ℕ) (t : Tried) : Type 0 where
  pub count : t.times ≡ times
  pub drawn_from : t.seed ≡ seed
  pub found : AreFound script times seed budget t.found
