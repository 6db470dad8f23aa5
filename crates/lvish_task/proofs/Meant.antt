-- The code of a script means what its nested statements mean.
use Rattle.std.proofs.Common.{◌≡◌, ℕ, zero, suc, ℤ, pos, ◌+◌, ◌≤◌, Bool, true, false, ◌&&◌, ◌||◌, ◌==◌, codes, List, [], ◌∷◌, length, Option, Some, None, Result, Ok, Err, refl, sym, ap, ◌∙◌, subst, arith}
use Rattle.std.specs.Prelude.{if◌then◌else◌, nat_lt}
use Rattle.std.specs.Option.{option_map}
use Rattle.std.specs.List.{flat_map, slice_get, slice_set, list_all, list_any}
use Rattle.std.proofs.lemmas.Option.{slice_get-map}
use Rattle.std.proofs.Math.Dec.{eqb-suc-zero}
use Rattle.std.proofs.lemmas.Bool.{and_parts, and_from, cond_both, cond-true}
use Rattle.std.proofs.lemmas.Bool.Decides.{Decides-eqb}
use Rattle.lvish_task.specs.Vocabulary.{Any, AnyRead, Event, ErrorKind, Request, Reply, Declaration, Procedure, Script, Command, Statement, Instruction, SkipIfZero, BackUnlessZero, GoOn, Return}
use Rattle.lvish_calculus.specs.declared.request.ErrorKind.TheVariants as fault
use Rattle.lvish_calculus.specs.declared.request.Request.TheVariants as ask
use Rattle.lvish_calculus.specs.declared.request.Reply.TheVariants as reply
use Rattle.lvish_calculus.specs.Program.{IsReplyTo}
use Rattle.lvish_syntax.specs.Words.{Word}
use Rattle.lvish_syntax.specs.Sound.{takes as takes_terms, variable_names, locals_of, are_sound, is_own_sound, is_command_sound}
use Rattle.lvish_syntax.specs.Name.{has_name}
use Rattle.lvish_syntax.specs.declared.declaration.Declaration.TheVariants as line
use Rattle.lvish_syntax.specs.declared.command.Command.TheVariants as command
use Rattle.lvish_code.specs.Numbering.{name_number}
use Rattle.lvish_code.specs.Compile.{names_of, local_names, command_code, routine_of, pool_variables}
use Rattle.lvish_code.specs.Compile as compile
use Rattle.lvish_code.specs.Follows.{Follows, DoesCommand, Does}
use Rattle.lvish_code.specs.Sound.{takes_count}
use Rattle.lvish_code.specs.Flat as flat
use Rattle.lvish_code.specs.laws.Names.{taking, count_kinds}
use Rattle.lvish_code.specs.laws.Following.{does, does_here, place_within}
use Rattle.lvish_task.specs.declared.frame.Frame.{Frame}
use Rattle.lvish_task.specs.declared.stack.Stack.{Stack}
use Rattle.lvish_task.specs.declared.script_code.ScriptCode.{ScriptCode}
use Rattle.lvish_task.specs.CodeOf.{IsScriptCodeOf}
use Rattle.lvish_task.specs.States.{events_below}
use Rattle.lvish_task.specs.Meaning as m
use Rattle.lvish_task.specs.Meaning.{Activation, LocalState, Turn, LocalAsked, quiet, script_functions}
use Rattle.lvish_task.specs.Run as f
use Rattle.lvish_task.specs.Run.{FlatTurn, FlatAsked, stepped, routine, instruction, instructions, instructions_in, jump_in, landing, landed, is_frame_over, is_end, stack_fits, functions}
use Rattle.lvish_task.specs.laws.Landing.{jump_is, landing_induction, landing_lands}
use Rattle.lvish_task.specs.laws.Settling.{Makes}
use Rattle.lvish_task.specs.laws.Fits.{IsFrame, RequestFits, of_frame, of_local, each_fits, asked_is, asked_fits, request_fits}
use Rattle.lvish_calculus.specs.SameRuns.{SameRequest, IsMatch}
use Rattle.lvish_task.specs.Pictures.{CallsAlike, BeginsOnTwo, PicturesFrame, PicturesAll, Pictures}
use Rattle.lvish_task.proofs.Inner.{rest_sound, first_sound}
use Rattle.lvish_task.proofs.Alike as alike
use Rattle.lvish_task.specs.declared.limits.TheConstants.{TURNS, MOST_BELOW}

-- whether no statement follows
abbrev none_follow : List Statement → Bool
none_follow [] = true
none_follow (s ∷ ks) = false

module _ (script : Script) (c : flat.Code) (is_code : compile.IsCodeOf script c) where
  abbrev Frames : Frame → Activation → Type 0
  Frames g a = PicturesFrame script g a

  instructions_are : (g : Frame) (p : Procedure) → slice_get script.procedures g.procedure ≡ Some p → instructions c g ≡ (routine_of (names_of script p) p).instructions
  instructions_are g p e = ap instructions_in (alike.routine_at script c is_code g.procedure p e)

  -- ---- past jumps, and out of frames

  landed_pictures : (g : Frame) (a : Activation) → Frames g a → Frames (landed c g) a
  landed_pictures g a pic =
      let names = names_of script pic.procedure in
      let code = (routine_of names pic.procedure).instructions in
      let there : Follows names code (landing code g.place) a.following =
      landing_induction code (λ q. Follows names code q a.following) (λ p n e h. does names code p a.following h (GoOn n) (jump_is _ n e)) g.place pic.follows in
      let here = subst (λ is. Follows names code (landing is g.place) a.following) (sym (instructions_are g pic.procedure pic.is)) there in
      record { procedure = pic.procedure; is = pic.is; long = pic.long; values = pic.values; events = pic.events; each = pic.each; follows = here; sound = pic.sound }

  lands : (g : Frame) → jump_in (instruction c (landed c g)) ≡ None
  lands g = landing_lands (instructions c g) g.place

  pub returned_lands : (g : Frame) (below : List Frame) (left : ℕ) → jump_in (instruction c (f.returned c g below left).top) ≡ None
  returned_lands g [] left = lands g
  returned_lands g (h ∷ below) left =
      cond_both (is_frame_over c (landed c g)) (f.returned c h below left) (record { left = left; top = landed c g; below = h ∷ below }) (λ l. jump_in (instruction c l.top) ≡ None)
      (λ e. returned_lands h below left) (λ e. lands g)

  does_end : (g : Frame) (a : Activation) (pic : Frames g a) (i : Instruction) → jump_in (Some i) ≡ None → Does (names_of script pic.procedure) (routine_of (names_of script pic.procedure) pic.procedure).instructions g.place a.following i → is_end (Some i) ≡ none_follow a.following
  does_end g a pic (BackUnlessZero o n) j d = sym (ap none_follow d.0.is)
  does_end g a pic (GoOn n) j d = absurd cc
  does_end g a pic Return j d = sym (ap none_follow d)
  does_end g a pic i j d = sym (ap none_follow d.is)

  -- nothing follows in a frame of the code exactly where nothing follows in that of the statements
  over_is : (g : Frame) (a : Activation) → Frames g a → jump_in (instruction c g) ≡ None → is_frame_over c g ≡ ((length a.events == 0) && none_follow a.following)
  over_is g a pic lands_here =
      let names = names_of script pic.procedure in
      let code = (routine_of names pic.procedure).instructions in
      let d = does_here names code g.place a.following pic.follows in
      let is : instruction c g ≡ Some d.0 = ap (λ is. slice_get is g.place) (instructions_are g pic.procedure pic.is) ∙ d.1 in
      ap (λ es. (length es == 0) && is_end (instruction c g)) pic.events
      ∙ ap (λ o. (length a.events == 0) && is_end o) is
      ∙ ap (λ b. (length a.events == 0) && b) (does_end g a pic d.0 (ap jump_in (sym is) ∙ lands_here) d.2)

  last_is : (a : Activation) (left : ℕ) (es : List Event) (ks : List Statement) → m.returned script a [] left es ks ≡ record { top = a; below = []; left = left }
  last_is a left (e ∷ es) ks = refl
  last_is a left [] (s ∷ ks) = refl
  last_is a left [] [] = refl

  more_is : (a b : Activation) (acts : List Activation) (left : ℕ) (es : List Event) (ks : List Statement) → m.returned script a (b ∷ acts) left es ks ≡ (if (length es == 0) && none_follow ks then m.returned script b acts left b.events b.following else record { top = a; below = b ∷ acts; left = left })
  more_is a b acts left (e ∷ es) ks =
      ap (λ (t : Bool). if t && none_follow ks then m.returned script b acts left b.events b.following else record { top = a; below = b ∷ acts; left = left }) (sym (eqb-suc-zero (length es)))
  more_is a b acts left [] (s ∷ ks) = refl
  more_is a b acts left [] [] = refl

  pub returned_alike : (g : Frame) (a : Activation) (below : List Frame) (acts : List Activation) (left : ℕ) → Frames g a → PicturesAll script below acts → length below ≤ MOST_BELOW → left ≤ TURNS → Pictures script (f.returned c g below left) (m.returned script a acts left a.events a.following)
  returned_alike g a [] [] left pic all few some =
      subst (λ s. Pictures script (f.returned c g [] left) s) (sym (last_is a left a.events a.following))
      (record { top = landed_pictures g a pic; below = tt; left = refl; few_below = few; few_left = some })
  returned_alike g a (h ∷ below) (b ∷ acts) left pic all few some =
      let here = landed_pictures g a pic in
      let over = over_is (landed c g) a here (lands g) in
      let out = returned_alike h b below acts left all.0 all.1 (omega arith) some in
      let stay : Pictures script (record { left = left; top = landed c g; below = h ∷ below }) (record { top = a; below = b ∷ acts; left = left }) = record { top = here; below = all; left = refl; few_below = few; few_left = some } in
      let done = (length a.events == 0) && none_follow a.following in
      subst (λ s. Pictures script (f.returned c g (h ∷ below) left) s) (sym (more_is a b acts left a.events a.following))
      (subst (λ t. Pictures script (if t then f.returned c h below left else record { left = left; top = landed c g; below = h ∷ below }) (if done then m.returned script b acts left b.events b.following else record { top = a; below = b ∷ acts; left = left })) (sym over)
      (by done (f.returned c h below left) (record { left = left; top = landed c g; below = h ∷ below }) (m.returned script b acts left b.events b.following) (record { top = a; below = b ∷ acts; left = left }) out stay))
    where
      by : (t : Bool) (l k : Stack) (s r : LocalState) → Pictures script l s → Pictures script k r → Pictures script (if t then l else k) (if t then s else r)
      by true l k s r p q = p
      by false l k s r p q = q
  returned_alike g a below acts left pic all few some = absurd all

  -- ---- up to the next request

  pub record AskedAlike (a : FlatAsked) (b : LocalAsked) : Type 0 where
    pub request : SameRequest (Pictures script) a.request b.request
    pub at : Pictures script a.at b.at

  went_alike : (l : Stack) (s : LocalState) → Pictures script l s → (go : Frame → List Frame → FlatAsked) (on : Activation → List Activation → LocalAsked) → ((g : Frame) (a : Activation) (below : List Frame) (acts : List Activation) → Frames g a → PicturesAll script below acts → length below ≤ MOST_BELOW → AskedAlike (go g below) (on a acts)) → (t : FlatTurn) (u : Turn) → alike.TurnAlike script c is_code t u → AskedAlike (f.went c l go t) (m.went script s on u)
  went_alike l s pic go on next (f.Goes g below) (m.Goes a acts) h = next g a below acts h.0 h.1 h.2
  went_alike l s pic go on next (f.Asks r) (m.Asks q) h = record { request = h; at = pic }
  went_alike l s pic go on next t u h = absurd h

  run_alike : (n : ℕ) (g : Frame) (a : Activation) (below : List Frame) (acts : List Activation) → Frames g a → PicturesAll script below acts → length below ≤ MOST_BELOW → n ≤ TURNS → AskedAlike (f.run c n g below) (m.run script n a acts)
  run_alike zero g a below acts pic all few some = record { request = tt; at = returned_alike g a below acts zero pic all few some }
  run_alike (suc n) g a below acts pic all few some =
      let l = f.returned c g below (suc n) in
      let s = m.returned script a acts (suc n) a.events a.following in
      let there = returned_alike g a below acts (suc n) pic all few some in
      went_alike l s there (f.run c n) (m.run script n) (λ h b more bcts p q less. run_alike n h b more bcts p q less (omega arith))
      (f.flat_turn c l) (m.turn script s)
      (alike.turn_alike script c is_code l.top s.top l.below s.below there.top there.below there.few_below (returned_lands g below (suc n)))

  -- ---- what stands for a state fits

  each_there : (k : ℕ) (n : Word) (es : List Event) → CallsAlike script k n es → each_fits c k es ≡ true
  each_there k n [] h = refl
  each_there k n (e ∷ es) h =
      let two : takes_count 2 (routine c k) ≡ true = ap (takes_count 2) (alike.routine_at script c is_code k h.0 h.1) ∙ (Decides-eqb _ _).1 h.2 in
      ap (λ b. b || takes_count 2 (routine c k)) (eqb-suc-zero (length es)) ∙ two

  frame_fits : (g : Frame) (a : Activation) → Frames g a → IsFrame c g
  frame_fits g a pic =
      let names = names_of script pic.procedure in
      record {
        routine_of = routine_of names pic.procedure;
        at = alike.routine_at script c is_code g.procedure pic.procedure pic.is;
        within = place_within names (routine_of names pic.procedure).instructions g.place a.following pic.follows;
        long = pic.long;
        each = ap (each_fits c g.each) pic.events ∙ each_there g.each a.each a.events pic.each;
      }

  all_fit : (fs : List Frame) (acts : List Activation) → PicturesAll script fs acts → list_all (f.fits_frame c) fs ≡ true
  all_fit [] [] h = refl
  all_fit (g ∷ fs) (a ∷ acts) h = and_from _ _ (of_frame c g (frame_fits g a h.0)) (all_fit fs acts h.1)
  all_fit fs acts h = absurd h

  pub pictures_fit : (l : Stack) (s : LocalState) → Pictures script l s → stack_fits c l ≡ true
  pictures_fit l s pic = of_local c l (record { frames = record { first = frame_fits l.top s.top pic.top; others = all_fit l.below s.below pic.below; few = pic.few_below }; left = pic.few_left })

  pub asked_alike : (l : Stack) (s : LocalState) → Pictures script l s → AskedAlike (f.asked c l) (m.asked script s)
  asked_alike l s pic =
      subst (λ a. AskedAlike a (m.asked script s)) (sym (asked_is c l (pictures_fit l s pic)))
      (subst (λ n. AskedAlike (f.run c l.left l.top l.below) (m.run script n s.top s.below)) pic.left
      (run_alike l.left l.top s.top l.below s.below pic.top pic.below pic.few_below pic.few_left))

  -- ---- after a reply

  -- the turn asks for what this is a reply to
  abbrev Replied : FlatTurn → Reply Any ℤ → Type 0
  Replied (f.Goes g below) r = ⊥
  Replied (f.Asks q) r = IsReplyTo q r

  -- no call is replied to
  call_unanswered : (k : ℕ) (xs : List ℤ) (caller : Frame) (below : List Frame) (r : Reply Any ℤ) → Replied (f.called c k xs caller below) r → ⊥
  call_unanswered k xs caller below r = cond_both (nat_lt (length below) MOST_BELOW) (f.entered c caller below (f.callee c k xs)) (f.Asks (ask.Fault fault.Deep)) (λ t. Replied t r → ⊥) (λ e. into (f.callee c k xs)) (λ e h. h)
    where
      into : (o : Option Frame) → Replied (f.entered c caller below o) r → ⊥
      into None h = h
      into (Some g) h = h

  let_unanswered : (g : Frame) (below : List Frame) (x : ℕ) (o : Result ℤ ErrorKind) (r : Reply Any ℤ) → Replied (f.assigned g below x o) r → ⊥
  let_unanswered g below x (Ok n) r h = h
  let_unanswered g below x (Err k) r h = h

  module _ (g : Frame) (a : Activation) (pic : Frames g a) (none : g.events ≡ []) (below : List Frame) where
    abbrev here : compile.Names
    here = names_of script pic.procedure

    abbrev code : List Instruction
    code = (routine_of here pic.procedure).instructions

    abbrev SoundList : List Statement → Type 0
    SoundList ks = are_sound script.declarations script.procedures (locals_of pic.procedure) ks ≡ true

    module _ (rest : List Statement) (follows : Follows here code (g.place + 1) rest) (sound : SoundList rest) where
      goes_on : Frames (stepped g g.values) (quiet a.values rest)
      goes_on = alike.moved script c is_code g a pic none (g.place + 1) rest follows sound

      has : (x : Word) (n : ℤ) → has_name x (locals_of pic.procedure) ≡ true → Frames (stepped g (slice_set g.values (name_number (local_names pic.procedure) x) n)) (m.quiet (m.with_value a.values x n) rest)
      has x n known = alike.stored script c is_code g a pic none x n rest known follows sound

      each_begins : (n : Word) (es : List Event) → list_any (takes_terms n 2) script.procedures ≡ true → CallsAlike script (m.procedure script n) n es
      each_begins n [] e = tt
      each_begins n (d ∷ ds) e = let t = taking n 2 script.procedures script.sound.procedures_differ e in (t.procedure, t.at, t.count, refl)

      answered_alike : (d : Command) (r : Reply Any ℤ) → is_command_sound script.declarations script.procedures (locals_of pic.procedure) d ≡ true → Replied (f.instruction_turn c g below (Some (command_code here d))) r → Frames (f.frame_after g r (Some (command_code here d))) (m.answered script a.values rest d r)
      answered_alike (command.Let x v) r s e = absurd (let_unanswered g below _ _ r e)
      answered_alike (command.Call n ts) r s e = absurd (call_unanswered _ _ _ _ r e)
      answered_alike (command.Get x v w) (reply.Answer n) s e = has x n (and_parts _ _ (and_parts _ _ s).0).0
      answered_alike (command.GetAt x v k w) (reply.Answer n) s e = has x n (and_parts _ _ (and_parts _ _ (and_parts _ _ s).0).0).0
      answered_alike (command.Freeze x v ps) (reply.Content d) s e = has x (pos (length (events_below d))) (and_parts _ _ (and_parts _ _ s).0).0
      answered_alike (command.FreezeEach x v ps n) (reply.Content d) s e =
          let frame = has x (pos (length (events_below d))) (and_parts _ _ (and_parts _ _ (and_parts _ _ s).0).0).0 in
          record {
            procedure = frame.procedure;
            is = frame.is;
            long = frame.long;
            values = frame.values;
            events = refl;
            each = each_begins n (events_below d) (and_parts _ _ s).1;
            follows = frame.follows;
            sound = frame.sound;
          }
      answered_alike d r s e = goes_on

    module _ (r : Reply Any ℤ) where
      command_answered : (i : Instruction) → DoesCommand here code g.place a.following i → Replied (f.instruction_turn c g below (Some i)) r → Frames (f.frame_after g r (Some i)) (m.activation_after script a.values r a.following)
      command_answered i d e =
          let own_list = subst SoundList d.is pic.sound in
          let own = first_sound script.declarations script.procedures (locals_of pic.procedure) d.statement d.rest own_list in
          let sound : is_command_sound script.declarations script.procedures (locals_of pic.procedure) d.command ≡ true = ap (is_own_sound script.declarations script.procedures (locals_of pic.procedure)) (sym d.out) ∙ own in
          let rest = rest_sound script.declarations script.procedures (locals_of pic.procedure) d.statement d.rest own_list in
          let frame = answered_alike d.rest d.follows rest d.command r sound (subst (λ j. Replied (f.instruction_turn c g below (Some j)) r) (sym d.code_is) e) in
          let nested : m.activation_after script a.values r a.following ≡ m.answered script a.values d.rest d.command r = ap (m.activation_after script a.values r) d.is ∙ ap (m.after_statement script a.values d.rest r) d.out in
          subst (λ b. Frames (f.frame_after g r (Some i)) b) (sym nested)
          (subst (λ j. Frames (f.frame_after g r (Some j)) (m.answered script a.values d.rest d.command r)) d.code_is frame)

      does_answered : (i : Instruction) → Does here code g.place a.following i → Replied (f.instruction_turn c g below (Some i)) r → Frames (f.frame_after g r (Some i)) (m.activation_after script a.values r a.following)
      does_answered (SkipIfZero o n) d e = absurd e
      does_answered (BackUnlessZero o n) d e = absurd e
      does_answered (GoOn n) d e = absurd e
      does_answered Return d e = absurd e
      does_answered i d e = command_answered i d e

      here_answered : Replied (f.instruction_turn c g below (instruction c g)) r → Frames (f.frame_after g r (instruction c g)) (m.activation_after script a.values r a.following)
      here_answered e =
          let d = does_here here code g.place a.following pic.follows in
          let is : instruction c g ≡ Some d.0 = ap (λ is. slice_get is g.place) (instructions_are g pic.procedure pic.is) ∙ d.1 in
          subst (λ o. Frames (f.frame_after g r o) (m.activation_after script a.values r a.following)) (sym is)
          (does_answered d.0 d.2 (subst (λ o. Replied (f.instruction_turn c g below o) r) is e))

  frame_answered : (g : Frame) (a : Activation) (pic : Frames g a) (below : List Frame) (r : Reply Any ℤ) (es : List Event) → g.events ≡ es → Replied (f.frame_turn c g below es) r → Frames (f.frame_after g r (instruction c g)) (m.activation_after script a.values r a.following)
  frame_answered g a pic below r [] none e = here_answered g a pic none below r e
  frame_answered g a pic below r (d ∷ ds) is e = absurd (call_unanswered g.each (d.key ∷ d.number ∷ []) (record g { events = ds }) below r e)

  top_answered : (l : Stack) (a : Activation) → Frames l.top a → (q : Request Any AnyRead Stack) (r : Reply Any ℤ) → IsReplyTo q r → (n : ℕ) → Makes c n l q → Frames (f.resumed_top c l.top r n) (m.resumed_top script a r n)
  top_answered l a pic q r fit zero makes = pic
  top_answered l a pic q r fit (suc n) makes = frame_answered l.top a pic l.below r l.top.events refl (subst (λ t. Replied t r) (sym makes) fit)

  pub resumed_alike : (l : Stack) (s : LocalState) (q : Request Any AnyRead Stack) (r : Reply Any ℤ) → Pictures script l s → IsReplyTo q r → Makes c l.left l q → Pictures script (f.resumed c l r) (m.resumed script s r)
  resumed_alike l s q r pic fit makes =
      let top = top_answered l s.top pic.top q r fit l.left makes in
      subst (λ k. Pictures script k (m.resumed script s r)) (sym (cond-true _ _ _ (pictures_fit l s pic)))
      (record {
        top = subst (λ n. Frames (f.resumed_top c l.top r l.left) (m.resumed_top script s.top r n)) pic.left top;
        below = pic.below;
        left = refl;
        few_below = pic.few_below;
        few_left = omega arith;
      })

  -- ---- pools, and what handlers begin

  pooled_alike : (ds : List Declaration) → pool_variables (variable_names script.declarations) ds ≡ flat_map (m.pooled script) ds
  pooled_alike [] = refl
  pooled_alike (line.Variable v k ∷ ds) = pooled_alike ds
  pooled_alike (line.Pool p v ∷ ds) = ap (λ ns. m.variable script v ∷ ns) (pooled_alike ds)

  pub pools_alike : (p : ℕ) → slice_get c.pools p ≡ m.pool_variable script p
  pools_alike p = ap (λ ns. slice_get ns p) (is_code.pools ∙ pooled_alike script.declarations)

  pub begins_on_two : (k : ℕ) → takes_count 2 (routine c k) ≡ true → BeginsOnTwo script k
  begins_on_two k e = by (slice_get script.procedures k) refl (ap (takes_count 2) (sym at) ∙ e)
    where
      at : routine c k ≡ option_map (alike.code_of script c is_code) (slice_get script.procedures k)
      at = ap (λ rs. slice_get rs k) is_code.routines ∙ slice_get-map (alike.code_of script c is_code) script.procedures k

      by : (o : Option Procedure) → slice_get script.procedures k ≡ o → takes_count 2 (option_map (alike.code_of script c is_code) o) ≡ true → BeginsOnTwo script k
      by None is e = absurd cc
      by (Some p) is e = (p, is, (Decides-eqb _ _).0 e)

  pub begun_handler : (k : ℕ) (xs : List ℤ) → length xs ≡ 2 → BeginsOnTwo script k → Pictures script (f.started c k xs) (m.started script xs (slice_get script.procedures k))
  begun_handler k xs two b =
      subst (λ o. Pictures script (f.started c k xs) (m.started script xs o)) (sym b.1) (alike.started_on script c is_code k b.0 xs b.1 (two ∙ sym b.2))

pub code_meant : (script : Script) (c : ScriptCode) → IsScriptCodeOf script c → IsMatch (functions c) (script_functions script) (Pictures script) (BeginsOnTwo script)
code_meant script c is_code = record {
  pools = pools_alike script c.flat is_code;
  start = subst (λ k. Pictures script (f.started c.flat k []) (m.started script [] (m.named script (codes "main")))) (sym is_code.main) (alike.started_pictures script c.flat is_code (codes "main") [] script.sound.main_stands);
  start_handler = λ k e two. begun_handler script c.flat is_code k (e.key ∷ e.number ∷ []) refl two;
  request = λ l s pic. (asked_alike script c.flat is_code l s pic).request;
  adds = λ l s pic pool k e. begins_on_two script c.flat is_code k (subst (RequestFits c.flat) e (request_fits c.flat l)).1;
  at = λ l s pic. (asked_alike script c.flat is_code l s pic).at;
  resume = λ l s r pic fit.
      let a = f.asked c.flat l in
      resumed_alike script c.flat is_code a.at (m.asked script s).at a.request r (asked_alike script c.flat is_code l s pic).at fit (asked_fits c.flat l (pictures_fit script c.flat is_code l s pic)).makes;
}

pub variables_alike : (script : Script) (c : ScriptCode) → IsScriptCodeOf script c → (functions c).variables ≡ (script_functions script).variables
variables_alike script c is_code = ap length is_code.kinds ∙ count_kinds script.declarations
