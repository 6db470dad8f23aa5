-- The text of what is told.
use Rattle.std.specs.Prelude.{ℕ, List, ◌∷◌, ◌++◌, ◌==◌, codes, flat_map, Option, if◌then◌else◌}
use Rattle.std.specs.Fmt.{decimal}
use Rattle.lvish_compound.specs.declared.event.Event.{Event}
use Rattle.lvish_names.specs.Names.{Name}
use Rattle.lvish_checks.specs.Text.{words_of}
use Rattle.lvish_explain.specs.declared.mark.Mark.{Mark}
use Rattle.lvish_explain.specs.Mark.{mark_of}
use Rattle.lvish_explain.specs.Place.{line_at}
use Rattle.lvish_explain.specs.Text.{place_text, quote_text}
use Rattle.lvish_outcome.specs.declared.trouble.Trouble.{Trouble}
use Rattle.lvish_outcome.specs.declared.wait.Wait.{Wait}
use Rattle.lvish_outcome.specs.declared.told.ErrorTold.{ErrorTold}
use Rattle.lvish_outcome.specs.declared.told.BlockedTold.{BlockedTold}
use Rattle.lvish_outcome.specs.declared.told.LineCount.{LineCount}
use Rattle.lvish_outcome.specs.declared.saying.Saying.{Saying}
use Rattle.lvish_outcome.specs.declared.saying.Saying.TheVariants.{Does, Waits, Made}
use Rattle.lvish_outcome.specs.Trouble.{trouble_text}
use Rattle.lvish_outcome.specs.Wait.{wait_text}
use Rattle.lvish_outcome.specs.Standing.{task_text, standing_text}
use Rattle.lvish_outcome.specs.Earlier.{earlier_text}

-- what the task does
abbrev pub does_text : Name Event → Trouble → List ℕ
does_text t trouble = task_text t ++ (codes " " ++ trouble_text trouble)

-- that one task waits
abbrev pub one_waits : Name Event → List ℕ → List ℕ
one_waits t wait = task_text t ++ (codes " waits " ++ wait)

-- that many wait, and what the first of them waits for
abbrev pub many_wait : ℕ → Name Event → List ℕ → List ℕ
many_wait n t wait = decimal n ++ (codes " tasks wait here, " ++ (task_text t ++ (codes " " ++ wait)))

-- how many tasks wait, and what the first of them waits for
abbrev pub waits_text : ℕ → Name Event → Wait → List ℕ
waits_text n t w = if n == 1 then one_waits t (wait_text w) else many_wait n t (wait_text w)

-- that so many steps were made
abbrev pub made_text : ℕ → List ℕ
made_text n = if n == 1 then codes "1 step was made here" else decimal n ++ codes " steps were made here"

-- what is said of a place
abbrev pub saying_text : Saying → List ℕ
saying_text (Does t trouble) = does_text t.now trouble.now
saying_text (Waits n t wait) = waits_text n t.now wait.now
saying_text (Made n) = made_text n

-- a place, what is said of it, and the line with carets
abbrev pub marked_text : List ℕ → ℕ → List ℕ → Option Mark → List ℕ → List ℕ
marked_text file number line mark said = place_text file number mark ++ (said ++ (10 ∷ quote_text line mark))

module _ (file : List ℕ) (lines : List (List ℕ)) where
  -- the place of a line, what is said of it, and the line with carets under a word
  unfoldable pub at_word : ℕ → ℕ → List ℕ → List ℕ
  at_word number word said = marked_text file number (line_at lines number) (mark_of (line_at lines number) (words_of (line_at lines number)) word) said

  -- an error: what the task does, where it stands, and the earlier step
  unfoldable pub error_text : ErrorTold → List ℕ
  error_text e = at_word e.standing.line e.word (does_text e.standing.task.now e.trouble) ++ (standing_text e.standing ++ earlier_text e.earlier)

  -- the tasks that are blocked at a line; the variable is the third word of a `get` and of a `freeze`
  unfoldable pub blocked_text : BlockedTold → List ℕ
  blocked_text b = at_word b.standing.line 2 (waits_text b.count b.standing.task.now b.wait) ++ standing_text b.standing

  abbrev pub blocked_texts : List BlockedTold → List ℕ
  blocked_texts bs = flat_map blocked_text bs

  -- the steps that were made at a line
  unfoldable pub steps_text : LineCount → List ℕ
  steps_text s = at_word s.line 0 (made_text s.count)

  abbrev pub steps_texts : List LineCount → List ℕ
  steps_texts ss = flat_map steps_text ss
