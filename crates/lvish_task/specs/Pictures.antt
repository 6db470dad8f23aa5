-- Which nested state a local state of flat code stands for.
use Rattle.std.specs.Prelude.{◌≡◌, ℕ, pos, true, ◌≤◌, List, [], ◌∷◌, length, Some}
use Rattle.std.specs.List.{slice_get, slice_index_or}
use Rattle.lvish_task.specs.Vocabulary.{Event, Procedure, Script}
use Rattle.lvish_syntax.specs.Words.{Word}
use Rattle.lvish_syntax.specs.Sound.{locals_of, are_sound}
use Rattle.lvish_code.specs.Numbering.{name_number}
use Rattle.lvish_code.specs.Compile.{names_of, local_names, routine_of}
use Rattle.lvish_code.specs.Follows.{Follows}
use Rattle.lvish_task.specs.declared.frame.Frame.{Frame}
use Rattle.lvish_task.specs.declared.stack.Stack.{Stack}
use Rattle.lvish_task.specs.Meaning.{Activation, LocalState, procedure}
use Rattle.lvish_task.specs.declared.limits.TheConstants.{TURNS, MOST_BELOW}

module _ (script : Script) where
  -- where an `each` has events left, the procedure that it calls takes two values
  abbrev pub CallsAlike : ℕ → Word → List Event → Type 0
  CallsAlike k n [] = Unit {0}
  CallsAlike k n (e ∷ es) = (p : Procedure) × (slice_get script.procedures k ≡ Some p) × (length p.parameters ≡ 2) × (k ≡ procedure script n)

  -- a handler can begin the procedure: it is there, and takes a key and a number
  abbrev pub BeginsOnTwo : ℕ → Type 0
  BeginsOnTwo k = (p : Procedure) × (slice_get script.procedures k ≡ Some p) × (length p.parameters ≡ 2)

  -- the frame stands for this frame of the nested statements
  pub record PicturesFrame (f : Frame) (a : Activation) : Type 0 where
    pub procedure : Procedure
    pub is : slice_get script.procedures f.procedure ≡ Some procedure
    -- it has a value for each local, and each is that of the local's name
    pub long : length f.values ≡ length (local_names procedure)
    pub values : (x : Word) → slice_index_or f.values (name_number (local_names procedure) x) (pos 0) ≡ a.values x
    -- it has the same events left, for the same procedure
    pub events : f.events ≡ a.events
    pub each : CallsAlike f.each a.each a.events
    -- from its place the procedure does the statements that follow, and these name what exists
    pub follows : Follows (names_of script procedure) (routine_of (names_of script procedure) procedure).instructions f.place a.following
    pub sound : are_sound script.declarations script.procedures (locals_of procedure) a.following ≡ true

  -- the frames stand for these, one by one
  abbrev pub PicturesAll : List Frame → List Activation → Type 0
  PicturesAll [] [] = Unit {0}
  PicturesAll [] (a ∷ more) = ⊥
  PicturesAll (f ∷ fs) [] = ⊥
  PicturesAll (f ∷ fs) (a ∷ more) = PicturesFrame f a × PicturesAll fs more

  -- the local state stands for this state of the nested statements
  pub record Pictures (l : Stack) (s : LocalState) : Type 0 where
    pub top : PicturesFrame l.top s.top
    pub below : PicturesAll l.below s.below
    pub left : l.left ≡ s.left
    pub few_below : length l.below ≤ MOST_BELOW
    pub few_left : l.left ≤ TURNS
