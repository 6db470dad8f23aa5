-- That runs agree, that they are in error, and that two steps do.
use Rattle.std.specs.Prelude.{◌≡◌, ◌≢◌, ◌⊎◌, ◌++◌, ℕ, List, Option, IsPermutation}
use Rattle.lvish_names.specs.Names.{Name}
use Rattle.lvish_calculus.specs.Machine.{Machine, Freeze, ErrorKind}
use Rattle.lvish_calculus.specs.Calculus.{State, Configuration, Running, Error, Live, Label, CanStep, IsEnabled, IsEnd, IsRun, start, step}
use Rattle.lvish_calculus.specs.Laws.{Reaches}

module _ {S E R A L : Type 0} (M : Machine S E R A L) where
  -- in no run does a task ask to freeze
  abbrev pub NeverAsksFreeze : Type 0
  NeverAsksFreeze = (ls : List (Label E)) (c : State S E L) → Reaches M ls c
      → (t : Name E) (l : L) (forks adds puts : ℕ) → c.tasks t ≡ Live l forks adds puts → (v : ℕ) (pools : List ℕ) → M.request l ≢ Freeze v pools

  -- no step can be made from here: an end, or an error
  abbrev pub IsFinal : Configuration S E L → Type 0
  IsFinal d = (l : Label E) → CanStep M d l → ⊥

  -- the run is in error
  abbrev pub IsError : Configuration S E L → Type 0
  IsError (Running c) = ⊥
  IsError (Error kind v t) = Unit {0}

  -- any two runs that can't go on have one end and the same labels in some order, or both are in error (FHPC 2013: determinism)
  abbrev pub AgreeOrErr : Type 0
  AgreeOrErr = (xs ys : List (Label E)) (d e : Configuration S E L) → IsRun M (Running (start M)) xs d → IsRun M (Running (start M)) ys e → IsFinal d → IsFinal e
      → ((d ≡ e) × IsPermutation xs ys) ⊎ (IsError d × IsError e)

  -- where one run ends without an error, each run can be continued to this end, with the same labels in all
  abbrev pub AllLeadToTheEnd : Type 0
  AllLeadToTheEnd = (xs : List (Label E)) (a : State S E L) → Reaches M xs a → IsEnd M a
      → (ys : List (Label E)) (e : Configuration S E L) → IsRun M (Running (start M)) ys e
      → (zs : List (Label E)) × IsRun M e zs (Running a) × IsPermutation xs (ys ++ zs)

  -- a run of the program that is in error
  pub record ErringRun : Type 0 where
    pub labels : List (Label E)
    pub kind : ErrorKind
    pub variable : Option ℕ
    pub task : Name E
    pub is : IsRun M (Running (start M)) labels (Error kind variable task)

  -- any two runs that can't go on have one end and the same labels in some order, or some run of the program is in error. LVish's quasi-determinism has one of these two in error
  abbrev pub AgreeOrSomeErrs : Type 0
  AgreeOrSomeErrs = (xs ys : List (Label E)) (d e : Configuration S E L) → IsRun M (Running (start M)) xs d → IsRun M (Running (start M)) ys e → IsFinal d → IsFinal e
      → ((d ≡ e) × IsPermutation xs ys) ⊎ ErringRun

  -- where one run ends without an error, each run can be continued to this end, with the same labels in all, or some run of the program is in error
  abbrev pub AllLeadOrSomeErrs : Type 0
  AllLeadOrSomeErrs = (xs : List (Label E)) (a : State S E L) → Reaches M xs a → IsEnd M a
      → (ys : List (Label E)) (e : Configuration S E L) → IsRun M (Running (start M)) ys e
      → ((zs : List (Label E)) × IsRun M e zs (Running a) × IsPermutation xs (ys ++ zs)) ⊎ ErringRun

  -- of any two different enabled steps that are no errors, both orders agree, or in one order the second is an error (LVish: local quasi-confluence)
  abbrev pub CommuteOrErr : Type 0
  CommuteOrErr = (ls : List (Label E)) (c c1 c2 : State S E L) (l m : Label E) → Reaches M ls c → l ≢ m → IsEnabled M c l → IsEnabled M c m
      → step M c l ≡ Running c1 → step M c m ≡ Running c2
      → ((d : State S E L) × IsEnabled M c1 m × IsEnabled M c2 l × (step M c1 m ≡ Running d) × (step M c2 l ≡ Running d))
      ⊎ ((IsEnabled M c1 m × IsError (step M c1 m)) ⊎ (IsEnabled M c2 l × IsError (step M c2 l)))

  -- any two runs that end without an error, and for which P holds, have the same labels in some order (Mazurkiewicz: equivalent traces)
  abbrev pub SameLabelsIf : (List (Label E) → List (Label E) → Type 0) → Type 0
  SameLabelsIf P = (xs ys : List (Label E)) (a b : State S E L) → Reaches M xs a → Reaches M ys b → IsEnd M a → IsEnd M b → P xs ys → IsPermutation xs ys
