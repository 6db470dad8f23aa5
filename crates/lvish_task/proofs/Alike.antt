-- One instruction of the code is one turn of the nested statements.
use Rattle.std.proofs.Common.{◌≡◌, ℕ, ℤ, pos, ◌+◌, ◌-◌, ◌≤◌, Bool, true, false, nat_lt, List, [], ◌∷◌, ◌++◌, length, map, Option, Some, None, Result, Ok, Err, refl, sym, ap, ◌∙◌, subst, arith}
use Rattle.std.specs.Prelude.{if◌then◌else◌, replicate, option_and_then, is_some, unwrap_or}
use Rattle.std.specs.Str.{bytes_eq}
use Rattle.std.specs.Option.{option_map}
use Rattle.std.specs.Ordering.{int_eq}
use Rattle.std.specs.List.{slice_get, slice_set, slice_index_or, list_any}
use Rattle.std.proofs.lemmas.List.{length-append, length-replicate, length-set, length-map}
use Rattle.std.proofs.lemmas.List.Folds.{find_at}
use Rattle.std.proofs.lemmas.Option.{slice_get-map}
use Rattle.std.proofs.lemmas.Bool.{and_parts}
use Rattle.std.proofs.lemmas.Bool.Decides.{Decides-eqb}
use borrow.Author.Tests.{ltb-true}
use Rattle.lvish_task.specs.Vocabulary.{Any, AnyRead, Event, Place, Test, ErrorKind, Procedure, Script, Term, Threshold, Command, Statement, Block, out-Statement, Operand, Instruction, SkipIfZero, BackUnlessZero, GoOn, Return, Routine}
use Rattle.lvish_calculus.specs.declared.request.ErrorKind.TheVariants as fault
use Rattle.lvish_calculus.specs.declared.request.Request.TheVariants as ask
use Rattle.lvish_syntax.specs.Words.{Word}
use Rattle.lvish_syntax.specs.Name.{has_name, has_repeat}
use Rattle.lvish_syntax.specs.Nested.{statements}
use Rattle.lvish_syntax.specs.Sound.{takes, locals_of, kind_of, kind_there, is_get_of_kind, is_own_sound, is_command_sound, is_procedure_sound, are_sound}
use Rattle.lvish_syntax.specs.declared.command.Command.TheVariants as command
use Rattle.lvish_syntax.specs.declared.statement.Statement.TheOpen as o
use Rattle.lvish_code.specs.Numbering.{name_number}
use Rattle.lvish_code.specs.Compile.{Names, names_of, local_names, operand_of, command_code, routine_of, whole_of, part_of, kind_in}
use Rattle.lvish_code.specs.Compile as compile
use Rattle.lvish_code.specs.Follows.{Follows, DoesCommand, DoesTest, Does, tested_term, taken, passed}
use Rattle.lvish_code.specs.Flat as flat
use Rattle.lvish_code.specs.laws.Lists.{list_all_get, none_get, place_map}
use Rattle.lvish_code.specs.laws.Names.{taking, parameters_first, parameters_le, has_local, kind_found}
use Rattle.lvish_code.specs.laws.Following.{follows_start, does_here}
use Rattle.lvish_task.specs.declared.frame.Frame.{Frame}
use Rattle.lvish_task.specs.States.{put_at, read_at}
use Rattle.lvish_task.specs.Meaning as m
use Rattle.lvish_task.specs.Meaning.{Valuation, Activation, Turn, term_value, with_value, quiet, begins}
use Rattle.lvish_task.specs.declared.limits.TheConstants.{MOST_BELOW}
use Rattle.lvish_task.specs.Run as f
use Rattle.lvish_task.specs.Run.{FlatTurn, operand_value, target_place, placed, stepped, begun, nowhere, routine, instructions, instruction, jump_in, callee, callee_in}
use Rattle.lvish_calculus.specs.SameRuns.{SameRequest}
use Rattle.lvish_task.specs.Pictures.{CallsAlike, PicturesFrame, PicturesAll, Pictures}
use Rattle.lvish_task.proofs.Stored.{bound_at, stored_at, value_at, values_at, given_at, test_at}
use Rattle.lvish_task.proofs.Inner.{rest_sound, first_sound, taken_sound, passed_sound}
use Rattle.lvish_task.proofs.Places.{whole_alike, part_alike, whole_got, part_got}

-- the statements that a test leads to, in one turn
tested : (script : Script) (values : Valuation) (ks : List Statement) (below : List Activation) (s : Statement) (u : o.Statement-F Statement Block) (t : Term) → tested_term u ≡ Some t → m.statement_turn script values ks below s u ≡ m.Goes (quiet values (m.chosen (term_value values t) (taken s u ks) (passed u ks))) below
tested script values ks below s (o.Do c) t e = absurd cc
tested script values ks below s (o.If t' a) t e = let same : t' ≡ t = cc in ap (λ x. m.Goes (quiet values (m.chosen (term_value values x) (statements a ++ ks) ks)) below) same
tested script values ks below s (o.IfElse t' a b) t e = let same : t' ≡ t = cc in ap (λ x. m.Goes (quiet values (m.chosen (term_value values x) (statements a ++ ks) (statements b ++ ks))) below) same
tested script values ks below s (o.While t' a) t e = let same : t' ≡ t = cc in ap (λ x. m.Goes (quiet values (m.chosen (term_value values x) (statements a ++ s ∷ ks) ks)) below) same

module _ (script : Script) (c : flat.Code) (is_code : compile.IsCodeOf script c) where
  abbrev pub names : Procedure → Names
  names p = names_of script p

  abbrev pub code_of : Procedure → Routine
  code_of p = routine_of (names p) p

  pub routine_at : (k : ℕ) (p : Procedure) → slice_get script.procedures k ≡ Some p → routine c k ≡ Some (code_of p)
  routine_at k p e = ap (λ rs. slice_get rs k) is_code.routines ∙ slice_get-map code_of script.procedures k ∙ ap (option_map code_of) e

  -- ---- where procedures begin

  pub begun_pictures : (k : ℕ) (p : Procedure) (xs : List ℤ) → slice_get script.procedures k ≡ Some p → length xs ≡ length p.parameters → PicturesFrame script (begun k xs (code_of p)) (begins xs p)
  begun_pictures k p xs e n =
      let once = none_get (λ q. has_repeat q.parameters) script.procedures k p script.sound.parameters_differ e in
      let first = parameters_first p once in
      let room = parameters_le p once in
      let zeros = length (local_names p) - length xs in
      record {
        procedure = p;
        is = e;
        long = omega (arith, length-append xs (replicate zeros (pos 0)), length-replicate zeros (pos 0));
        values = λ y. ap (λ locals. slice_index_or (xs ++ replicate zeros (pos 0)) (name_number locals y) (pos 0)) first.is ∙ bound_at p.parameters first.more xs zeros y n;
        events = refl;
        each = tt;
        follows = follows_start (names p) p;
        sound = list_all_get (is_procedure_sound script.declarations script.procedures) script.procedures k p script.sound.statements_sound e;
      }

  pub callee_is : (k : ℕ) (p : Procedure) (xs : List ℤ) → slice_get script.procedures k ≡ Some p → length xs ≡ length p.parameters → callee c k xs ≡ Some (begun k xs (code_of p))
  callee_is k p xs e n =
      ap (callee_in c k xs) (routine_at k p e)
      ∙ ap (λ (b : Bool). if b then Some (begun k xs (code_of p)) else None) ((Decides-eqb (length xs) (length p.parameters)).1 n)

  pub found_at : (n : Word) → m.named script n ≡ slice_get script.procedures (m.procedure script n)
  found_at n = find_at (λ p. bytes_eq p.name n) script.procedures ∙ ap (slice_get script.procedures) (sym (place_map (λ p. p.name) (λ y. bytes_eq y n) script.procedures))

  pub started_on : (k : ℕ) (p : Procedure) (xs : List ℤ) → slice_get script.procedures k ≡ Some p → length xs ≡ length p.parameters → Pictures script (f.started c k xs) (m.local_alone (begins xs p))
  started_on k p xs e n =
      subst (λ o. Pictures script (f.stack_alone (unwrap_or o (nowhere c))) (m.local_alone (begins xs p))) (sym (callee_is k p xs e n))
      (record { top = begun_pictures k p xs e n; below = tt; left = refl; few_below = omega arith; few_left = omega arith })

  -- a procedure of so many parameters is there
  pub started_pictures : (n : Word) (xs : List ℤ) → list_any (takes n (length xs)) script.procedures ≡ true → Pictures script (f.started c (m.procedure script n) xs) (m.started script xs (m.named script n))
  started_pictures n xs e =
      let t = taking n (length xs) script.procedures script.sound.procedures_differ e in
      subst (λ o. Pictures script (f.started c (m.procedure script n) xs) (m.started script xs o)) (sym (found_at n ∙ t.at)) (started_on (m.procedure script n) t.procedure xs t.at (sym t.count))

  -- ---- turns

  abbrev pub TurnAlike : FlatTurn → Turn → Type 0
  TurnAlike (f.Goes top below) (m.Goes a acts) = PicturesFrame script top a × PicturesAll script below acts × (length below ≤ MOST_BELOW)
  TurnAlike (f.Goes top below) (m.Asks q) = ⊥
  TurnAlike (f.Asks r) (m.Goes a acts) = ⊥
  TurnAlike (f.Asks r) (m.Asks q) = SameRequest (Pictures script) r q

  pub pictures_length : (fs : List Frame) (acts : List Activation) → PicturesAll script fs acts → length fs ≡ length acts
  pictures_length [] [] h = refl
  pictures_length (g ∷ fs) (a ∷ acts) h = omega (arith, pictures_length fs acts h.1)
  pictures_length fs acts h = absurd h

  pub called_alike : (n : Word) (k : ℕ) (p : Procedure) (xs : List ℤ) (caller : Frame) (a : Activation) (below : List Frame) (acts : List Activation) → k ≡ m.procedure script n → slice_get script.procedures k ≡ Some p → length xs ≡ length p.parameters → PicturesFrame script caller a → PicturesAll script below acts → TurnAlike (f.called c k xs caller below) (m.called script n xs a acts)
  called_alike n k p xs caller a below acts is e count pic all =
      subst (λ len. TurnAlike (f.called c k xs caller below) (if nat_lt len MOST_BELOW then m.entered script xs a acts (m.named script n) else m.Asks (ask.Fault fault.Deep))) (pictures_length below acts all)
      (by (nat_lt (length below) MOST_BELOW) refl)
    where
      by : (b : Bool) → nat_lt (length below) MOST_BELOW ≡ b → TurnAlike (if b then f.entered c caller below (callee c k xs) else f.Asks (ask.Fault fault.Deep)) (if b then m.entered script xs a acts (m.named script n) else m.Asks (ask.Fault fault.Deep))
      by true less =
          let few = ltb-true _ _ less in
          let nested_is : m.named script n ≡ Some p = found_at n ∙ ap (slice_get script.procedures) (sym is) ∙ e in
          subst (λ o. TurnAlike (f.entered c caller below o) (m.entered script xs a acts (m.named script n))) (sym (callee_is k p xs e count))
          (subst (λ o. TurnAlike (f.Goes (begun k xs (code_of p)) (caller ∷ below)) (m.entered script xs a acts o)) (sym nested_is)
          (begun_pictures k p xs e count, (pic, all), omega arith))
      by false more = refl

  putting_alike : (v : ℕ) (d : Option Any) → TurnAlike (f.putting v d) (m.putting script v d)
  putting_alike v None = refl
  putting_alike v (Some d) = (refl, refl)

  getting_alike : (v : ℕ) (d : Option AnyRead) → TurnAlike (f.getting v d) (m.getting script v d)
  getting_alike v None = refl
  getting_alike v (Some r) = (refl, refl)

  puts_alike : (v : ℕ) (p : Place) (q : Option Place) (n k : ℤ) → q ≡ Some p → n ≡ k → TurnAlike (f.putting v (put_at p n)) (m.putting script v (option_and_then (λ x. put_at x k) q))
  puts_alike v p q n k is same = subst (λ d. TurnAlike (f.putting v (put_at p n)) (m.putting script v d)) (ap (put_at p) same ∙ ap (option_and_then (λ x. put_at x k)) (sym is)) (putting_alike v (put_at p n))

  gets_alike : (v : ℕ) (p : Place) (q : Option Place) (t u : Test) → q ≡ Some p → t ≡ u → TurnAlike (f.getting v (read_at p t)) (m.getting script v (option_and_then (λ x. read_at x u) q))
  gets_alike v p q t u is same = subst (λ d. TurnAlike (f.getting v (read_at p t)) (m.getting script v d)) (ap (read_at p) same ∙ ap (option_and_then (λ x. read_at x u)) (sym is)) (getting_alike v (read_at p t))

  module _ (g : Frame) (a : Activation) (pic : PicturesFrame script g a) (none : g.events ≡ []) where
    abbrev here : Names
    here = names pic.procedure

    abbrev code : List Instruction
    code = (code_of pic.procedure).instructions

    abbrev SoundList : List Statement → Type 0
    SoundList ks = are_sound script.declarations script.procedures (locals_of pic.procedure) ks ≡ true

    abbrev SoundCommand : Command → Type 0
    SoundCommand d = is_command_sound script.declarations script.procedures (locals_of pic.procedure) d ≡ true

    -- at another place, from which these statements follow
    pub moved : (q : ℕ) (ks : List Statement) → Follows here code q ks → SoundList ks → PicturesFrame script (placed g q) (quiet a.values ks)
    moved q ks follows sound = record { procedure = pic.procedure; is = pic.is; long = pic.long; values = pic.values; events = none; each = tt; follows = follows; sound = sound }

    -- at the next place, with one more value
    pub stored : (x : Word) (n : ℤ) (ks : List Statement) → has_name x (locals_of pic.procedure) ≡ true → Follows here code (g.place + 1) ks → SoundList ks → PicturesFrame script (stepped g (slice_set g.values (name_number (local_names pic.procedure) x) n)) (quiet (with_value a.values x n) ks)
    stored x n ks has follows sound =
        record {
          procedure = pic.procedure;
          is = pic.is;
          long = length-set g.values (name_number (local_names pic.procedure) x) n ∙ pic.long;
          values = stored_at (local_names pic.procedure) g.values a.values x n pic.long (has_local x pic.procedure has) pic.values;
          events = none;
          each = tt;
          follows = follows;
          sound = sound;
        }

    assigned_alike : (x : Word) (ks : List Statement) (below : List Frame) (acts : List Activation) (d e : Result ℤ ErrorKind) → d ≡ e → has_name x (locals_of pic.procedure) ≡ true → Follows here code (g.place + 1) ks → SoundList ks → PicturesAll script below acts → length below ≤ MOST_BELOW → TurnAlike (f.assigned g below (name_number (local_names pic.procedure) x) d) (m.assigned script a.values x ks acts e)
    assigned_alike x ks below acts d e same has follows sound all few = subst (λ r. TurnAlike (f.assigned g below (name_number (local_names pic.procedure) x) d) (m.assigned script a.values x ks acts r)) same (itself d)
      where
        itself : (d : Result ℤ ErrorKind) → TurnAlike (f.assigned g below (name_number (local_names pic.procedure) x) d) (m.assigned script a.values x ks acts d)
        itself (Ok n) = (stored x n ks has follows sound, all, few)
        itself (Err k) = refl

    value : (t : Term) → operand_value g.values (operand_of here t) ≡ term_value a.values t
    value t = value_at here g.values a.values pic.values t

    terms : (ts : List Term) → map (operand_value g.values) (map (operand_of here) ts) ≡ map (term_value a.values) ts
    terms ts = values_at here g.values a.values pic.values ts

    kind_is : (v : Word) → kind_in here v ≡ kind_of v script.declarations
    kind_is v = kind_found v script.declarations

    whole_is : (v : Word) → is_some (kind_there script.declarations v None) ≡ true → m.place_in script v None ≡ Some (target_place g.values (whole_of (kind_in here v)))
    whole_is v e = whole_alike g.values (kind_of v script.declarations) e ∙ ap (λ k. Some (target_place g.values (whole_of k))) (sym (kind_is v))

    part_is : (v : Word) (t : Term) → is_some (kind_there script.declarations v (Some t)) ≡ true → m.place_in script v (Some (term_value a.values t)) ≡ Some (target_place g.values (part_of here (kind_in here v) t))
    part_is v t e = part_alike here g.values a.values (kind_of v script.declarations) t (value t) e ∙ ap (λ k. Some (target_place g.values (part_of here k t))) (sym (kind_is v))

    whole_read : (v : Word) (r : Threshold) → is_get_of_kind script.declarations v None r ≡ true → m.place_in script v None ≡ Some (target_place g.values (whole_of (kind_in here v)))
    whole_read v r e = whole_got g.values (kind_of v script.declarations) r e ∙ ap (λ k. Some (target_place g.values (whole_of k))) (sym (kind_is v))

    part_read : (v : Word) (t : Term) (r : Threshold) → is_get_of_kind script.declarations v (Some t) r ≡ true → m.place_in script v (Some (term_value a.values t)) ≡ Some (target_place g.values (part_of here (kind_in here v) t))
    part_read v t r e = part_got here g.values a.values (kind_of v script.declarations) t r (value t) e ∙ ap (λ k. Some (target_place g.values (part_of here k t))) (sym (kind_is v))

    -- a count of values
    known : (n : Word) (ts : List Term) → list_any (takes n (length ts)) script.procedures ≡ true → list_any (takes n (length (map (operand_value g.values) (map (operand_of here) ts)))) script.procedures ≡ true
    known n ts e = ap (λ k. list_any (takes n k) script.procedures) (length-map (map (operand_of here) ts) (operand_value g.values) ∙ length-map ts (operand_of here)) ∙ e

    module _ (below : List Frame) (acts : List Activation) (all : PicturesAll script below acts) (few : length below ≤ MOST_BELOW) (rest : List Statement) (follows : Follows here code (g.place + 1) rest) (sound : SoundList rest) where
      pub command_alike : (d : Command) → SoundCommand d → TurnAlike (f.instruction_turn c g below (Some (command_code here d))) (m.command_turn script a.values rest acts d)
      command_alike (command.Let x v) e = assigned_alike x rest below acts _ _ (given_at here g.values a.values pic.values v) (and_parts _ _ e).0 follows sound all few
      command_alike (command.Put v t) e = puts_alike (m.variable script v) _ _ _ _ (whole_is v (and_parts _ _ e).0) (value t)
      command_alike (command.PutAt v k t) e = puts_alike (m.variable script v) _ _ _ _ (part_is v k (and_parts _ _ (and_parts _ _ e).0).0) (value t)
      command_alike (command.Get x v r) e = gets_alike (m.variable script v) _ _ _ _ (whole_read v r (and_parts _ _ (and_parts _ _ (and_parts _ _ e).0).1).0) (test_at here g.values a.values pic.values r)
      command_alike (command.GetAt x v k r) e = gets_alike (m.variable script v) _ _ _ _ (part_read v k r (and_parts _ _ (and_parts _ _ (and_parts _ _ (and_parts _ _ e).0).0).1).0) (test_at here g.values a.values pic.values r)
      command_alike (command.Fork n ts) e =
          let xs = map (operand_value g.values) (map (operand_of here) ts) in
          subst (λ ys. Pictures script (f.started c (m.procedure script n) xs) (m.started script ys (m.named script n))) (terms ts) (started_pictures n xs (known n ts (and_parts _ _ e).0))
      command_alike (command.Call n ts) e =
          let xs = map (operand_value g.values) (map (operand_of here) ts) in
          let t = taking n (length xs) script.procedures script.sound.procedures_differ (known n ts (and_parts _ _ e).0) in
          subst (λ ys. TurnAlike (f.called c (m.procedure script n) xs (placed g (g.place + 1)) below) (m.called script n ys (quiet a.values rest) acts)) (terms ts)
          (called_alike n (m.procedure script n) t.procedure xs (placed g (g.place + 1)) (quiet a.values rest) below acts refl t.at (sym t.count) (moved (g.place + 1) rest follows sound) all)
      command_alike d e = (refl, refl)

    -- where a test leads
    chosen : (n k : ℤ) (p q : ℕ) (ks ls : List Statement) → n ≡ k → Follows here code p ks → Follows here code q ls → SoundList ks → SoundList ls → PicturesFrame script (placed g (m.chosen n p q)) (quiet a.values (m.chosen k ks ls))
    chosen n k p q ks ls same first second sound_first sound_second = subst (λ z. PicturesFrame script (placed g (m.chosen n p q)) (quiet a.values (m.chosen z ks ls))) same (by (int_eq n (pos 0)))
      where
        by : (b : Bool) → PicturesFrame script (placed g (if b then q else p)) (quiet a.values (if b then ls else ks))
        by true = moved q ls second sound_second
        by false = moved p ks first sound_first

    module _ (below : List Frame) (acts : List Activation) (all : PicturesAll script below acts) (few : length below ≤ MOST_BELOW) where
      abbrev Nested : List Statement → Turn
      Nested ks = m.list_turn script a.values acts ks

      command_does : (i : Instruction) → DoesCommand here code g.place a.following i → TurnAlike (f.instruction_turn c g below (Some i)) (Nested a.following)
      command_does i d =
          let listed = subst SoundList d.is pic.sound in
          let own = first_sound script.declarations script.procedures (locals_of pic.procedure) d.statement d.rest listed in
          let sound : SoundCommand d.command = ap (is_own_sound script.declarations script.procedures (locals_of pic.procedure)) (sym d.out) ∙ own in
          let rest = rest_sound script.declarations script.procedures (locals_of pic.procedure) d.statement d.rest listed in
          let alike = command_alike below acts all few d.rest d.follows rest d.command sound in
          let nested : Nested a.following ≡ m.command_turn script a.values d.rest acts d.command = ap Nested d.is ∙ ap (m.statement_turn script a.values d.rest acts d.statement) d.out in
          subst (λ t. TurnAlike (f.instruction_turn c g below (Some i)) t) (sym nested)
          (subst (λ j. TurnAlike (f.instruction_turn c g below (Some j)) (m.command_turn script a.values d.rest acts d.command)) d.code_is alike)

      test_does : (operand : Operand) (if_not if_zero : ℕ) → DoesTest here code a.following operand if_not if_zero → TurnAlike (f.Goes (placed g (m.chosen (operand_value g.values operand) if_not if_zero)) below) (Nested a.following)
      test_does operand if_not if_zero d =
          let listed = subst SoundList d.is pic.sound in
          let u = out-Statement d.statement in
          let n : operand_value g.values operand ≡ term_value a.values d.term = ap (operand_value g.values) (sym d.operand_is) ∙ value d.term in
          let ks = taken d.statement u d.rest in
          let ls = passed u d.rest in
          let sound_ks = taken_sound script.declarations script.procedures (locals_of pic.procedure) d.statement d.rest listed in
          let sound_ls = passed_sound script.declarations script.procedures (locals_of pic.procedure) d.statement d.rest listed in
          let frame = chosen (operand_value g.values operand) (term_value a.values d.term) if_not if_zero ks ls n d.follows_taken d.follows_passed sound_ks sound_ls in
          let nested : Nested a.following ≡ m.Goes (quiet a.values (m.chosen (term_value a.values d.term) ks ls)) acts = ap Nested d.is ∙ tested script a.values d.rest acts d.statement u d.term d.tests in
          subst (λ t. TurnAlike (f.Goes (placed g (m.chosen (operand_value g.values operand) if_not if_zero)) below) t) (sym nested) (frame, all, few)

      pub does_alike : (i : Instruction) → jump_in (Some i) ≡ None → Does here code g.place a.following i → TurnAlike (f.instruction_turn c g below (Some i)) (Nested a.following)
      does_alike (SkipIfZero operand n) j d = test_does operand (g.place + 1) (g.place + 1 + n) d
      does_alike (BackUnlessZero operand n) j d = test_does operand (g.place - n) (g.place + 1) d.0
      does_alike (GoOn n) j d = absurd cc
      does_alike Return j d = subst (λ ks. TurnAlike (f.Asks ask.End) (Nested ks)) (sym d) tt
      does_alike i j d = command_does i d

      pub list_alike : jump_in (instruction c g) ≡ None → TurnAlike (f.instruction_turn c g below (instruction c g)) (Nested a.following)
      list_alike landed =
          let d = does_here here code g.place a.following pic.follows in
          let is : instruction c g ≡ Some d.0 = ap (λ o. slice_get (f.instructions_in o) g.place) (routine_at g.procedure pic.procedure pic.is) ∙ d.1 in
          subst (λ o. TurnAlike (f.instruction_turn c g below o) (Nested a.following)) (sym is) (does_alike d.0 (ap jump_in (sym is) ∙ landed) d.2)

  -- an `each` with an event left
  each_alike : (g : Frame) (a : Activation) (below : List Frame) (acts : List Activation) (e : Event) (es : List Event) → a.events ≡ e ∷ es → PicturesFrame script g a → PicturesAll script below acts → TurnAlike (f.called c g.each (e.key ∷ e.number ∷ []) (record g { events = es }) below) (m.called script a.each (e.key ∷ e.number ∷ []) (record a { events = es }) acts)
  each_alike g a below acts e es is pic all =
      let calls = subst (CallsAlike script g.each a.each) is pic.each in
      called_alike a.each g.each calls.0 (e.key ∷ e.number ∷ []) (record g { events = es }) (record a { events = es }) below acts calls.3 calls.1 (sym calls.2)
      (record { procedure = pic.procedure; is = pic.is; long = pic.long; values = pic.values; events = refl; each = more es calls; follows = pic.follows; sound = pic.sound }) all
    where
      more : (es : List Event) → CallsAlike script g.each a.each (e ∷ es) → CallsAlike script g.each a.each es
      more [] calls = tt
      more (d ∷ ds) calls = calls

  -- a turn of the code is one of the statements, where no jump stands at the place
  pub turn_alike : (g : Frame) (a : Activation) (below : List Frame) (acts : List Activation) → PicturesFrame script g a → PicturesAll script below acts → length below ≤ MOST_BELOW → jump_in (instruction c g) ≡ None → TurnAlike (f.frame_turn c g below g.events) (m.frame_turn script a acts a.events)
  turn_alike g a below acts pic all few landed = subst (λ es. TurnAlike (f.frame_turn c g below es) (m.frame_turn script a acts a.events)) (sym pic.events) (by a.events refl)
    where
      by : (es : List Event) → a.events ≡ es → TurnAlike (f.frame_turn c g below es) (m.frame_turn script a acts es)
      by [] is = list_alike g a pic (pic.events ∙ is) below acts all few landed
      by (e ∷ es) is = each_alike g a below acts e es is pic all
