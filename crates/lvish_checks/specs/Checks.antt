-- The checks of a script, each by the lines on which it fails.
use Rattle.std.specs.Prelude.{◌≡◌, ℕ, zero, suc, ◌<◌, Bool, true, false, not, ◌||◌, ◌&&◌, ◌==◌, nat_lt, nat_le, codes, List, [], ◌∷◌, ◌++◌, length, map, take, drop, slice_get, count_by, Option, Some, None, if◌then◌else◌}
use Rattle.std.specs.Option.{option_map, option_map_or}
use Rattle.std.specs.List.{list_any, list_all, flat_map, AllByRecursion}
use Rattle.std.specs.Str.{bytes_eq}
use Rattle.lvish_checks.specs.Vocabulary.{Word, Version, One, Two, Declaration, Variable, Pool, Command, Let, Put, PutAt, Get, GetAt, Fork, Call, Handle, Freeze, FreezeEach, Line, Blank, Bad, Declare, Proc, Do, If, While, Else, End, Opener, InProcedure, InIf, InElse, InWhile, Fault, TooLong, NotAscii, BadLine, BadNumber, DoubleName, UnknownName, WrongKind, WrongCount, OpenBlock, Compatible, NoMain, TooMany, ScriptFault}
use Rattle.lvish_syntax.specs.declared.limits.TheConstants.{MOST_BYTES, MOST}
use Rattle.lvish_syntax.specs.Name.{has_name, has_repeat, is_known}
use Rattle.lvish_syntax.specs.Sound.{variable_names, pool_names, command_binds, is_put_sound, is_get_of_kind, is_get_apart, is_pool_of, is_value_known, is_threshold_known}
use Rattle.lvish_syntax.specs.Version.{is_name_in, is_term_in, is_command_in, is_declaration_in}
use Rattle.lvish_checks.specs.Text.{lines_of, words_of, is_foreign}
use Rattle.lvish_checks.specs.Form.{line_of, is_bad_number}
use Rattle.lvish_checks.specs.declared.line.Line.TheVariants as line

-- ---- what lines declare

abbrev pub declared_by : Line → List Declaration
declared_by (Declare d) = d ∷ []
declared_by l = []

-- the declarations among lines, in order
abbrev pub declarations : List Line → List Declaration
declarations lines = flat_map declared_by lines

abbrev pub is_procedure : Line → Bool
is_procedure (Proc n xs) = true
is_procedure l = false

abbrev pub is_variable : Line → Bool
is_variable (Declare (Variable n k)) = true
is_variable l = false

abbrev pub is_pool : Line → Bool
is_pool (Declare (Pool p v)) = true
is_pool l = false

abbrev pub declares_procedure : Word → Line → Bool
declares_procedure p (Proc n xs) = bytes_eq n p
declares_procedure p l = false

-- whether lines declare a variable, a pool or a procedure of this name
abbrev pub has_variable : Word → List Line → Bool
has_variable v lines = has_name v (variable_names (declarations lines))

abbrev pub has_pool : Word → List Line → Bool
has_pool p lines = has_name p (pool_names (declarations lines))

abbrev pub has_procedure : Word → List Line → Bool
has_procedure p lines = list_any (declares_procedure p) lines

abbrev pub is_nil : {X : Type 0} → List X → Bool
is_nil [] = true
is_nil (x ∷ xs) = false

abbrev pub is_main : Line → Bool
is_main (Proc n xs) = bytes_eq n (codes "main") && is_nil xs
is_main l = false

-- ---- locals: the parameters, and each X of a let, get or freeze, of the procedure in which a line stands

abbrev pub binds : Line → List Word
binds (Do c) = command_binds c
binds l = []

abbrev pub binds_until_procedure : List Line → List Word
binds_until_procedure [] = []
binds_until_procedure (l ∷ ls) = if is_procedure l then [] else binds l ++ binds_until_procedure ls

-- the locals of the last procedure, None before the first
abbrev pub locals_step : Option (List Word) → Line → Option (List Word)
locals_step found (Proc n xs) = Some xs
locals_step found l = option_map (λ xs. xs ++ binds l) found

abbrev pub locals_after : Option (List Word) → List Line → Option (List Word)
locals_after found [] = found
locals_after found (l ∷ ls) = locals_after (locals_step found l) ls

abbrev pub locals_at : List Line → ℕ → List Word
locals_at lines k = option_map_or (λ xs. xs ++ binds_until_procedure (drop k lines)) (locals_after None (take k lines)) []

-- ---- the version of a script

abbrev pub is_told : Line → Bool
is_told Blank = false
is_told l = true

-- version 2 where the first line that isn't blank says so
abbrev pub version_of : List Line → Version
version_of [] = One
version_of (Blank ∷ ls) = version_of ls
version_of (line.Version ∷ ls) = Two
version_of (l ∷ ls) = One

-- whether what a line says stands in scripts of this version
abbrev pub is_line_in : Version → Line → Bool
is_line_in v (Declare d) = is_declaration_in v d
is_line_in v (Proc n xs) = is_name_in v n && list_all (is_name_in v) xs
is_line_in v (Do c) = is_command_in v c
is_line_in v (If t) = is_term_in v t
is_line_in v (While t) = is_term_in v t
is_line_in v l = true

-- ---- a line with none of the forms of its version, a declaration below a procedure, or the line of the version below another line with words

abbrev pub is_out_of_place : List Line → Line → Bool
is_out_of_place before Bad = true
is_out_of_place before line.Version = list_any is_told before
is_out_of_place before (Declare d) = list_any is_procedure before
is_out_of_place before l = false

abbrev pub stands_badly : Version → List Line → Line → Bool
stands_badly v before l = is_out_of_place before l || not (is_line_in v l)

-- ---- names declared again

abbrev pub declares_again : List Line → Line → Bool
declares_again before (Declare (Variable n k)) = has_variable n before
declares_again before (Declare (Pool p v)) = has_pool p before
declares_again before (Proc n xs) = has_procedure n before || has_repeat xs
declares_again before l = false

-- ---- names that aren't declared, and terms that are no locals

abbrev pub command_unknown : List Line → List Word → Command → Bool
command_unknown lines locals (Let x v) = not (is_value_known locals v)
command_unknown lines locals (Put v t) = not (has_variable v lines) || not (is_known locals t)
command_unknown lines locals (PutAt v k t) = not (has_variable v lines) || not (is_known locals k) || not (is_known locals t)
command_unknown lines locals (Get x v r) = not (has_variable v lines) || not (is_threshold_known locals r)
command_unknown lines locals (GetAt x v k r) = not (has_variable v lines) || not (is_known locals k) || not (is_threshold_known locals r)
command_unknown lines locals (Fork n ts) = not (has_procedure n lines) || not (list_all (is_known locals) ts)
command_unknown lines locals (Call n ts) = not (has_procedure n lines) || not (list_all (is_known locals) ts)
command_unknown lines locals (Handle p n) = not (has_pool p lines) || not (has_procedure n lines)
command_unknown lines locals (Freeze x v ps) = not (has_variable v lines) || not (list_all (λ p. has_pool p lines) ps)
command_unknown lines locals (FreezeEach x v ps n) = not (has_variable v lines) || not (list_all (λ p. has_pool p lines) ps) || not (has_procedure n lines)

-- a pool's variable must stand above it
abbrev pub names_unknown : List Line → ℕ → Line → Bool
names_unknown lines k (Declare (Pool p v)) = not (has_variable v (take k lines))
names_unknown lines k (Do c) = command_unknown lines (locals_at lines k) c
names_unknown lines k (If t) = not (is_known (locals_at lines k) t)
names_unknown lines k (While t) = not (is_known (locals_at lines k) t)
names_unknown lines k l = false

-- ---- what doesn't fit the kind of a variable

abbrev pub command_misfits : List Declaration → Command → Bool
command_misfits ds (Put v t) = not (is_put_sound ds v None)
command_misfits ds (PutAt v k t) = not (is_put_sound ds v (Some k))
command_misfits ds (Get x v r) = not (is_get_of_kind ds v None r)
command_misfits ds (GetAt x v k r) = not (is_get_of_kind ds v (Some k) r)
command_misfits ds (Freeze x v ps) = not (list_all (is_pool_of ds v) ps)
command_misfits ds (FreezeEach x v ps n) = not (list_all (is_pool_of ds v) ps)
command_misfits ds c = false

abbrev pub misfits : List Line → Line → Bool
misfits lines (Do c) = command_misfits (declarations lines) c
misfits lines l = false

-- ---- counts of terms and parameters

abbrev pub parameters_of : Word → List Line → Option (List Word)
parameters_of p [] = None
parameters_of p (Proc n xs ∷ ls) = if bytes_eq n p then Some xs else parameters_of p ls
parameters_of p (l ∷ ls) = parameters_of p ls

-- whether the procedure is declared, and has another number of parameters
abbrev pub has_other_count : List Line → Word → ℕ → Bool
has_other_count lines n k = option_map_or (λ xs. not (length xs == k)) (parameters_of n lines) false

abbrev pub command_miscounts : List Line → Command → Bool
command_miscounts lines (Fork n ts) = has_other_count lines n (length ts)
command_miscounts lines (Call n ts) = has_other_count lines n (length ts)
command_miscounts lines (Handle p n) = has_other_count lines n 2
command_miscounts lines (FreezeEach x v ps n) = has_other_count lines n 2
command_miscounts lines c = false

abbrev pub miscounts : List Line → Line → Bool
miscounts lines (Do c) = command_miscounts lines c
miscounts lines l = false

-- ---- blocks

-- what is open after a line, the innermost first
abbrev pub open_step : List Opener → Line → List Opener
open_step opened (Proc n xs) = InProcedure ∷ opened
open_step [] l = []
open_step (o ∷ opened) (If t) = InIf ∷ (o ∷ opened)
open_step (o ∷ opened) (While t) = InWhile ∷ (o ∷ opened)
open_step (InIf ∷ opened) Else = InElse ∷ opened
open_step (o ∷ opened) End = opened
open_step (o ∷ opened) l = o ∷ opened

abbrev pub open_after : List Opener → List Line → List Opener
open_after opened [] = opened
open_after opened (l ∷ ls) = open_after (open_step opened l) ls

-- whether the innermost open block is an if without an else
abbrev pub takes_else : List Opener → Bool
takes_else (InIf ∷ opened) = true
takes_else opened = false

abbrev pub is_misplaced : List Opener → Line → Bool
is_misplaced opened (Proc n xs) = not (is_nil opened)
is_misplaced opened (Do c) = is_nil opened
is_misplaced opened (If t) = is_nil opened
is_misplaced opened (While t) = is_nil opened
is_misplaced opened Else = not (takes_else opened)
is_misplaced opened End = is_nil opened
is_misplaced opened l = false

-- ---- members that aren't kept apart

abbrev pub command_mixes : List Declaration → Command → Bool
command_mixes ds (Get x v r) = not (is_get_apart ds v None r)
command_mixes ds (GetAt x v k r) = not (is_get_apart ds v (Some k) r)
command_mixes ds c = false

abbrev pub mixes : List Line → Line → Bool
mixes lines (Do c) = command_mixes (declarations lines) c
mixes lines l = false

-- ---- limits

-- whether as many blocks are open as may be, the procedure among them
abbrev pub is_full : List Opener → Bool
is_full opened = nat_le MOST (length opened)

abbrev pub is_past_limit : List Line → Line → Bool
is_past_limit before (Declare (Variable n k)) = nat_le MOST (count_by is_variable before)
is_past_limit before (Declare (Pool p v)) = nat_le MOST (count_by is_pool before)
is_past_limit before (Proc n xs) = nat_le MOST (count_by is_procedure before)
is_past_limit before (If t) = is_full (open_after [] before)
is_past_limit before (While t) = is_full (open_after [] before)
is_past_limit before l = false

-- ---- the table

-- whether a check of what the lines say fails on the line at place k, counted from 0
abbrev pub line_fails : Fault → List Line → ℕ → Line → Bool
line_fails BadLine lines k l = stands_badly (version_of lines) (take k lines) l
line_fails DoubleName lines k l = declares_again (take k lines) l
line_fails UnknownName lines k l = names_unknown lines k l
line_fails WrongKind lines k l = misfits lines l
line_fails WrongCount lines k l = miscounts lines l
line_fails OpenBlock lines k l = is_misplaced (open_after [] (take k lines)) l || (suc k == length lines && not (is_nil (open_after [] lines)))
line_fails Compatible lines k l = mixes lines l
line_fails TooMany lines k l = is_past_limit (take k lines) l
line_fails f lines k l = false

-- a test of a line and its place; lines are numbered from 1
abbrev pub on_line : {X : Type 0} → (ℕ → X → Bool) → List X → ℕ → Bool
on_line test xs zero = false
on_line test xs (suc k) = option_map_or (test k) (slice_get xs k) false

-- a test of the whole, which counts as line 0
abbrev pub on_whole : Bool → ℕ → Bool
on_whole b zero = b
on_whole b (suc k) = false

-- a text, its lines, their words, and what they say
pub record Parts : Type 0 where
  pub bytes : List ℕ
  pub lines : List (List ℕ)
  pub words : List (List Word)
  pub said : List Line

abbrev pub parts_of : List ℕ → Parts
parts_of text = record { bytes = text; lines = lines_of text; words = map words_of (lines_of text); said = map line_of (map words_of (lines_of text)) }

-- whether a check fails on a line of a text
abbrev pub fails : Fault → Parts → ℕ → Bool
fails TooLong p = on_whole (nat_lt MOST_BYTES (length p.bytes))
fails NotAscii p = on_line (λ k line. list_any is_foreign line) p.lines
fails BadNumber p = on_line (λ k words. list_any is_bad_number words) p.words
fails NoMain p = on_whole (not (list_any is_main p.said))
fails f p = on_line (line_fails f p.said) p.said

-- the checks in their order
abbrev pub checks : List Fault
checks = TooLong ∷ NotAscii ∷ BadLine ∷ BadNumber ∷ DoubleName ∷ UnknownName ∷ WrongKind ∷ WrongCount ∷ OpenBlock ∷ Compatible ∷ NoMain ∷ TooMany ∷ []

-- a check that fails on no line
abbrev pub Passes : Parts → Fault → Type 0
Passes p f = (l : ℕ) → fails f p l ≡ false

-- the lowest line on which a check fails
pub record IsLowest (test : ℕ → Bool) (l : ℕ) : Type 0 where
  pub at : test l ≡ true
  pub below : (m : ℕ) → m < l → test m ≡ false

-- the lowest line on which a check fails, if there is one
abbrev pub IsFirstOn : (ℕ → Bool) → Option ℕ → Type 0
IsFirstOn test None = (l : ℕ) → test l ≡ false
IsFirstOn test (Some l) = IsLowest test l

-- the first check that fails, and the lowest line on which it does
pub record IsFirstOf (fails_on : Fault → ℕ → Bool) (f : Fault) (l : ℕ) : Type 0 where
  pub passed : List Fault
  pub rest : List Fault
  pub order : checks ≡ passed ++ f ∷ rest
  pub earlier : AllByRecursion (λ g. (m : ℕ) → fails_on g m ≡ false) passed
  pub lowest : IsLowest (fails_on f) l

-- what checks say, by the lines on which each fails
abbrev pub IsVerdictBy : (Fault → ℕ → Bool) → Option ScriptFault → Type 0
IsVerdictBy fails_on None = AllByRecursion (λ g. (m : ℕ) → fails_on g m ≡ false) checks
IsVerdictBy fails_on (Some e) = IsFirstOf fails_on e.fault e.line

abbrev pub IsFirstFault : Parts → Fault → ℕ → Type 0
IsFirstFault p f l = IsFirstOf (λ g. fails g p) f l

abbrev pub IsAccepted : Parts → Type 0
IsAccepted p = AllByRecursion (Passes p) checks

-- what the checks say of a text
abbrev pub IsVerdict : Parts → Option ScriptFault → Type 0
IsVerdict p found = IsVerdictBy (λ g. fails g p) found

-- ---- a text that isn't too long, of whose words the place of the first bad number alone is known

abbrev pub is_found : Option ℕ → ℕ → Bool
is_found None l = false
is_found (Some k) l = k == l

-- whether a check fails on a line of such a text
abbrev pub fails_beside : List (List ℕ) → List Line → Option ℕ → Fault → ℕ → Bool
fails_beside lines said bad_number TooLong = λ l. false
fails_beside lines said bad_number BadNumber = is_found bad_number
fails_beside lines said bad_number f = fails f (record { bytes = []; lines = lines; words = []; said = said })
