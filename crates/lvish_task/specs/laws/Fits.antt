-- Local states that fit lead only to such, and ask for what exists.
use Rattle.std.proofs.Common.{◌≡◌, ℕ, zero, suc, ℤ, pos, ◌+◌, ◌-◌, ◌<◌, ◌≤◌, Bool, true, false, ◌||◌, ◌==◌, nat_lt, nat_le, List, [], ◌∷◌, length, map, replicate, Option, Some, None, Result, Ok, Err, refl, sym, ◌∙◌, ap, subst, arith, Contains}
use Rattle.std.specs.Prelude.{unwrap_or}
use Rattle.std.specs.Ordering.{int_eq}
use Rattle.std.specs.List.{slice_get, slice_set, list_any, list_all}
use Rattle.std.proofs.Math.Dec.{eqb-suc-zero}
use Rattle.std.proofs.Math.Bool.{or-true}
use Rattle.std.proofs.lemmas.Bool.Decides.{Decides-eqb}
use Rattle.std.proofs.lemmas.Bool.{and_parts, and_from, cond_both, cond-true, cond-false, lt-ltb, le-leb, leb-true}
use Rattle.std.proofs.lemmas.Option.{slice_get_within, slice_get-get_or, get_or_from_slice_get, cond_some}
use Rattle.std.proofs.lemmas.List.{length-append, length-replicate, length-set, length-map}
use Rattle.std.proofs.lemmas.List.Folds.{list_any_at}
use borrow.Author.Tests.{ltb-true}
use Rattle.lvish_lattice.specs.Lattice.{IsChecked}
use Rattle.lvish_task.specs.Vocabulary.{Any, AnyRead, Event, VariableKind, ErrorKind, Request, Reply, Target, Action, Put, Get, Fork, Handle, Freeze, Instruction, Ask, Let, Call, SkipIfZero, BackUnlessZero, Routine}
use Rattle.lvish_compound.specs.AnyReads.{Member}
use Rattle.lvish_compound.specs.States.{joined}
use Rattle.lvish_calculus.specs.declared.request.ErrorKind.TheVariants as fault
use Rattle.lvish_calculus.specs.declared.request.Request.TheVariants as ask
use Rattle.lvish_calculus.specs.declared.request.Reply.TheVariants as reply
use Rattle.lvish_code.specs.Flat as flat
use Rattle.lvish_code.specs.Sound.{takes_count, lands, is_target_sound, is_action_sound, is_instruction_sound, is_on}
use Rattle.lvish_code.specs.laws.Lists.{list_all_get}
use Rattle.lvish_task.specs.declared.frame.Frame.{Frame}
use Rattle.lvish_task.specs.declared.stack.Stack.{Stack}
use Rattle.lvish_task.specs.Run.{FlatTurn, Goes, Asks, FlatAsked, operand_value, expression_value, landing, placed, begun, stack_alone, answered, assigned, putting, getting, instructions, instructions_in, instruction, routine, landed, callee_in, callee, started, nowhere, entered, called, action_turn, instruction_turn, frame_turn, flat_turn, is_frame_over, returned, settled, went, run, fits_in, fits_frame, stack_fits, asked, frame_after, resumed_top, resumed}
use Rattle.lvish_task.specs.Meaning.{chosen}
use Rattle.lvish_task.specs.States.{events_below}
use Rattle.lvish_task.specs.Freezing.{is_freeze_action, is_freeze, routine_freezes, code_freezes}
use Rattle.lvish_task.specs.laws.Landing.{jump_is, landing_induction}
use Rattle.lvish_task.specs.laws.Settling.{settled_again, returned_left, Makes, asked_here}
use Rattle.lvish_task.specs.laws.Reads.{passes, read_checked, apart_at}
use Rattle.lvish_task.specs.declared.limits.TheConstants.{TURNS, MOST_BELOW}

-- whether an `each` calls a procedure of two parameters
abbrev pub each_fits : flat.Code → ℕ → List Event → Bool
each_fits c k es = (length es == 0) || takes_count 2 (routine c k)

each_after : (c : flat.Code) (k : ℕ) (e : Event) (es : List Event) → each_fits c k (e ∷ es) ≡ true → each_fits c k es ≡ true
each_after c k e es h =
    let two : takes_count 2 (routine c k) ≡ true = sym (ap (λ b. b || takes_count 2 (routine c k)) (eqb-suc-zero (length es))) ∙ h in
    ap (λ b. (length es == 0) || b) two ∙ or-true (length es == 0)

any_get : {X : Type 0} (p : X → Bool) (xs : List X) (k : ℕ) (x : X) → slice_get xs k ≡ Some x → p x ≡ true → list_any p xs ≡ true
any_get p xs k x e h = list_any_at p xs k x (slice_get_within xs k x e) (ap p (get_or_from_slice_get xs k x x e) ∙ h)

module _ (c : flat.Code) where
  -- a frame that fits
  pub record IsFrame (f : Frame) : Type 0 where
    pub routine_of : Routine
    pub at : routine c f.procedure ≡ Some routine_of
    pub within : f.place < length routine_of.instructions
    pub long : length f.values ≡ routine_of.locals
    pub each : each_fits c f.each f.events ≡ true

  -- frames that fit
  pub record AreFrames (top : Frame) (below : List Frame) : Type 0 where
    pub first : IsFrame top
    pub others : list_all (fits_frame c) below ≡ true
    pub few : length below ≤ MOST_BELOW

  -- a local state that fits
  pub record IsLocal (l : Stack) : Type 0 where
    pub frames : AreFrames l.top l.below
    pub left : l.left ≤ TURNS

  to_frame : (f : Frame) → fits_frame c f ≡ true → IsFrame f
  to_frame f e = by (routine c f.procedure) refl e
    where
      by : (o : Option Routine) → routine c f.procedure ≡ o → fits_in c f o ≡ true → IsFrame f
      by None is e = absurd cc
      by (Some r) is e =
          let h = and_parts _ _ e in
          let k = and_parts _ _ h.0 in
          record { routine_of = r; at = is; within = ltb-true _ _ k.0; long = (Decides-eqb _ _).0 k.1; each = h.1 }

  pub of_frame : (f : Frame) → IsFrame f → fits_frame c f ≡ true
  of_frame f i = ap (fits_in c f) i.at ∙ and_from _ _ (and_from _ _ (lt-ltb f.place (length i.routine_of.instructions) i.within) ((Decides-eqb _ _).1 i.long)) i.each

  to_local : (l : Stack) → stack_fits c l ≡ true → IsLocal l
  to_local l e =
      let h = and_parts _ _ e in
      let k = and_parts _ _ h.0 in
      let m = and_parts _ _ k.0 in
      record { frames = record { first = to_frame l.top m.0; others = m.1; few = leb-true _ _ k.1 }; left = leb-true _ _ h.1 }

  pub of_local : (l : Stack) → IsLocal l → stack_fits c l ≡ true
  of_local l i =
      let f = i.frames in
      and_from _ _ (and_from _ _ (and_from _ _ (of_frame l.top f.first) f.others) (le-leb (length l.below) MOST_BELOW f.few)) (le-leb l.left TURNS i.left)

  -- at another place within the procedure, with as many values
  moved_fits : (f : Frame) (i : IsFrame f) (q : ℕ) (values : List ℤ) → q < length i.routine_of.instructions → length values ≡ length f.values → IsFrame (record { place = q; procedure = f.procedure; values = values; each = f.each; events = f.events })
  moved_fits f i q values w n = record { routine_of = i.routine_of; at = i.at; within = w; long = n ∙ i.long; each = i.each }

  instructions_are : (f : Frame) (i : IsFrame f) → instructions c f ≡ i.routine_of.instructions
  instructions_are f i = ap instructions_in i.at

  frame_landed : (f : Frame) → IsFrame f → IsFrame (landed c f)
  frame_landed f i =
      let is = i.routine_of.instructions in
      let s = c.sound.routines_sound f.procedure i.routine_of i.at in
      let there = landing_induction is (λ q. q < length is) (λ p n e w. ltb-true _ _ (s.landing p _ (jump_is _ n e))) f.place i.within in
      let here = subst (λ js. landing js f.place < length is) (sym (instructions_are f i)) there in
      moved_fits f i (landing (instructions c f) f.place) f.values here refl

  returned_fits : (f : Frame) (below : List Frame) (left : ℕ) → AreFrames f below → left ≤ TURNS → IsLocal (returned c f below left)
  returned_fits f [] left i some = record { frames = record { first = frame_landed f i.first; others = refl; few = i.few }; left = some }
  returned_fits f (h ∷ below) left i some =
      let k = and_parts _ _ i.others in
      let few = i.few in
      let next : AreFrames h below = record { first = to_frame h k.0; others = k.1; few = omega arith } in
      cond_both (is_frame_over c (landed c f)) (returned c h below left) (record { left = left; top = landed c f; below = h ∷ below }) IsLocal
      (λ o. returned_fits h below left next some)
      (λ o. record { frames = record { first = frame_landed f i.first; others = i.others; few = few }; left = some })

  -- ---- where procedures begin

  begun_fits : (k : ℕ) (xs : List ℤ) (r : Routine) → routine c k ≡ Some r → length xs ≡ r.parameters → IsFrame (begun k xs r)
  begun_fits k xs r e n =
      let s = c.sound.routines_sound k r e in
      let p = s.parameters in
      let zeros = r.locals - length xs in
      record {
        routine_of = r;
        at = e;
        within = s.begins;
        long = omega (arith, length-append xs (replicate zeros (pos 0)), length-replicate zeros (pos 0));
        each = refl;
      }

  callee_fits : (k : ℕ) (xs : List ℤ) (f : Frame) → callee c k xs ≡ Some f → IsFrame f
  callee_fits k xs f e = by (routine c k) refl e
    where
      by : (o : Option Routine) → routine c k ≡ o → callee_in c k xs o ≡ Some f → IsFrame f
      by None is e = absurd cc
      by (Some r) is e = let t = cond_some (length xs == r.parameters) (begun k xs r) f e in subst IsFrame t.1 (begun_fits k xs r is ((Decides-eqb _ _).0 t.0))

  -- a procedure that takes this many values begins on them
  callee_there : (k : ℕ) (xs : List ℤ) → takes_count (length xs) (routine c k) ≡ true → (f : Frame) × (callee c k xs ≡ Some f)
  callee_there k xs e = by (routine c k) e
    where
      by : (o : Option Routine) → takes_count (length xs) o ≡ true → (f : Frame) × (callee_in c k xs o ≡ Some f)
      by None e = absurd cc
      by (Some r) e = (begun k xs r, cond-true _ _ _ ((Decides-eqb (length xs) r.parameters).1 (sym ((Decides-eqb r.parameters (length xs)).0 e))))

  pub started_fits : (k : ℕ) (xs : List ℤ) → takes_count (length xs) (routine c k) ≡ true → IsLocal (started c k xs)
  started_fits k xs e =
      let t = callee_there k xs e in
      let fit : IsLocal (stack_alone t.0) = record { frames = record { first = callee_fits k xs t.0 t.1; others = refl; few = omega arith }; left = omega arith } in
      subst (λ o. IsLocal (stack_alone (unwrap_or o (nowhere c)))) (sym t.1) fit

  -- ---- turns

  -- a request names what exists, asks to freeze only where an instruction does, and forks a local state that fits
  abbrev pub RequestFits : Request Any AnyRead Stack → Type 0
  RequestFits (ask.Put v d) = v < length c.kinds
  RequestFits (ask.Get v r) = (v < length c.kinds) × IsChecked joined (Member r)
  RequestFits (ask.Fork m) = IsLocal m
  RequestFits (ask.Add k p) = ((v : ℕ) × (slice_get c.pools k ≡ Some v)) × (takes_count 2 (routine c p) ≡ true)
  RequestFits (ask.Freeze v ps) = (v < length c.kinds) × ((k : ℕ) → Contains ps k → slice_get c.pools k ≡ Some v) × (code_freezes c ≡ true)
  RequestFits r = Unit {0}

  -- the frames after a local statement fit, or the request does
  abbrev TurnFits : FlatTurn → Type 0
  TurnFits (Goes top below) = AreFrames top below
  TurnFits (Asks r) = RequestFits r

  called_fits : (k : ℕ) (xs : List ℤ) (caller : Frame) (below : List Frame) → IsFrame caller → list_all (fits_frame c) below ≡ true → TurnFits (called c k xs caller below)
  called_fits k xs caller below i all =
      cond_both (nat_lt (length below) MOST_BELOW) (entered c caller below (callee c k xs)) (Asks (ask.Fault fault.Deep)) TurnFits (λ e. into (callee c k xs) (callee_fits k xs) (ltb-true _ _ e)) (λ e. tt)
    where
      into : (o : Option Frame) → ((f : Frame) → o ≡ Some f → IsFrame f) → length below < MOST_BELOW → TurnFits (entered c caller below o)
      into None there few = tt
      into (Some f) there few = record { first = there f refl; others = and_from _ _ (of_frame caller i) all; few = omega arith }

  putting_fits : (v : ℕ) (o : Option Any) → v < length c.kinds → TurnFits (putting v o)
  putting_fits v None h = tt
  putting_fits v (Some d) h = h

  getting_fits : (v : ℕ) (o : Option AnyRead) → v < length c.kinds → ((r : AnyRead) → o ≡ Some r → IsChecked joined (Member r)) → TurnFits (getting v o)
  getting_fits v None h checked = tt
  getting_fits v (Some r) h checked = (h, checked r refl)

  kind_there : (v n : ℕ) (t : Target) (o : Option VariableKind) → slice_get c.kinds v ≡ o → is_target_sound o n t ≡ true → v < length c.kinds
  kind_there v n t None is e = absurd cc
  kind_there v n t (Some k) is e = slice_get_within c.kinds v k is

  on_there : (v : ℕ) (o : Option ℕ) → is_on v o ≡ true → o ≡ Some v
  on_there v None e = absurd cc
  on_there v (Some w) e = ap Some ((Decides-eqb _ _).0 e)

  action_fits : (values : List ℤ) (n : ℕ) (a : Action) → is_action_sound c.kinds c.pools c.routines n a ≡ true → (is_freeze_action a ≡ true → code_freezes c ≡ true) → TurnFits (action_turn c values a)
  action_fits values n (Put v t o) e f = putting_fits v _ (kind_there v n t _ refl (and_parts _ _ (and_parts _ _ e).0).1)
  action_fits values n (Get x v t w) e f =
      let h = and_parts _ _ e in
      getting_fits v _ (kind_there v n t _ refl (and_parts _ _ h.0).1) (λ r is. read_checked _ _ r is (apart_at values t n w h.1))
  action_fits values n (Fork k os) e f = started_fits k _ (ap (λ m. takes_count m (routine c k)) (length-map os (operand_value values)) ∙ (and_parts _ _ e).0)
  action_fits values n (Handle p k) e f =
      let h = and_parts _ _ e in
      ((_, slice_get-get_or c.pools p 0 (ltb-true _ _ h.0)), h.1)
  action_fits values n (Freeze x v ps each) e f =
      let h = and_parts _ _ (and_parts _ _ e).0 in
      (ltb-true _ _ (and_parts _ _ h.0).1, λ p has. on_there v (slice_get c.pools p) (passes (λ q. is_on v (slice_get c.pools q)) ps h.1 p has), f refl)

  assigned_fits : (top : Frame) (below : List Frame) (x : ℕ) (o : Result ℤ ErrorKind) (s : AreFrames top below) → top.place + 1 < length s.first.routine_of.instructions → TurnFits (assigned top below x o)
  assigned_fits top below x (Ok n) s w = record { first = moved_fits top s.first (top.place + 1) (slice_set top.values x n) w (length-set top.values x n); others = s.others; few = s.few }
  assigned_fits top below x (Err k) s w = tt

  module _ (top : Frame) (below : List Frame) (s : AreFrames top below) where
    abbrev here : Routine
    here = s.first.routine_of

    -- one of two places
    test_fits : (n : ℤ) (a b : ℕ) → a < length here.instructions → b < length here.instructions → TurnFits (Goes (placed top (chosen n a b)) below)
    test_fits n a b p q = record { first = moved_fits top s.first (chosen n a b) top.values (cond_both (int_eq n (pos 0)) b a (λ k. k < length here.instructions) (λ e. q) (λ e. p)) refl; others = s.others; few = s.few }

    instruction_fits : (j : Instruction) → is_instruction_sound c.kinds c.pools c.routines here.locals j ≡ true → lands (length here.instructions) top.place j ≡ true → (is_freeze j ≡ true → code_freezes c ≡ true) → TurnFits (instruction_turn c top below (Some j))
    instruction_fits (Ask a) e h f = action_fits top.values here.locals a e f
    instruction_fits (Let x v) e h f = assigned_fits top below x (expression_value top.values v) s (ltb-true _ _ h)
    instruction_fits (Call k os) e h f = called_fits k (map (operand_value top.values) os) (placed top (top.place + 1)) below (moved_fits top s.first (top.place + 1) top.values (ltb-true _ _ h) refl) s.others
    instruction_fits (SkipIfZero o n) e h f =
        let far : top.place + 1 + n < length here.instructions = ltb-true _ _ h in
        test_fits (operand_value top.values o) (top.place + 1) (top.place + 1 + n) (omega arith) far
    instruction_fits (BackUnlessZero o n) e h f =
        let near : top.place + 1 < length here.instructions = ltb-true _ _ (and_parts (nat_le n top.place) (nat_lt (top.place + 1) (length here.instructions)) h).1 in
        test_fits (operand_value top.values o) (top.place - n) (top.place + 1) (omega arith) near
    instruction_fits j e h f = tt

    step_fits : TurnFits (instruction_turn c top below (instruction c top))
    step_fits = subst (λ is. TurnFits (instruction_turn c top below (slice_get is top.place))) (sym (instructions_are top s.first)) (by (slice_get here.instructions top.place) refl)
      where
        by : (o : Option Instruction) → slice_get here.instructions top.place ≡ o → TurnFits (instruction_turn c top below o)
        by None e = tt
        by (Some j) e =
            let r = c.sound.routines_sound top.procedure here s.first.at in
            instruction_fits j (list_all_get (is_instruction_sound c.kinds c.pools c.routines here.locals) here.instructions top.place j r.instructions e) (r.landing top.place j e)
            (λ f. any_get routine_freezes c.routines top.procedure here s.first.at (any_get is_freeze here.instructions top.place j e f))

    frame_fits : (es : List Event) → top.events ≡ es → TurnFits (frame_turn c top below es)
    frame_fits [] is = step_fits
    frame_fits (e ∷ es) is =
        let more = each_after c top.each e es (subst (λ fs. each_fits c top.each fs ≡ true) is s.first.each) in
        called_fits top.each (e.key ∷ e.number ∷ []) (record top { events = es }) below
        (record { routine_of = here; at = s.first.at; within = s.first.within; long = s.first.long; each = more }) s.others

  -- ---- up to the next request

  -- a request, and the settled local state that makes it
  pub record AskedFits (a : FlatAsked) : Type 0 where
    pub at : IsLocal a.at
    pub request : RequestFits a.request
    pub still : settled c a.at ≡ a.at
    pub makes : Makes c a.at.left a.at a.request

  went_fits : (l : Stack) (n : ℕ) → IsLocal l → settled c l ≡ l → l.left ≡ suc n → ((top : Frame) (below : List Frame) → AreFrames top below → AskedFits (run c n top below)) → (t : FlatTurn) → flat_turn c l ≡ t → TurnFits t → AskedFits (went c l (run c n) t)
  went_fits l n i is left on (Goes top below) e t = on top below t
  went_fits l n i is left on (Asks r) e t = record { at = i; request = t; still = is; makes = subst (λ m. Makes c m l r) (sym left) e }

  run_fits : (n : ℕ) (top : Frame) (below : List Frame) → AreFrames top below → n ≤ TURNS → AskedFits (run c n top below)
  run_fits zero top below s few =
      let pauses = subst (λ m. Makes c m (returned c top below zero) ask.Pause) (sym (returned_left c top below zero)) refl in
      record { at = returned_fits top below zero s few; request = tt; still = settled_again c top below zero; makes = pauses }
  run_fits (suc n) top below s few =
      let l = returned c top below (suc n) in
      let i = returned_fits top below (suc n) s few in
      went_fits l n i (settled_again c top below (suc n)) (returned_left c top below (suc n)) (λ next more t. run_fits n next more t (omega arith)) (flat_turn c l) refl (frame_fits l.top l.below i.frames l.top.events refl)

  pub asked_is : (l : Stack) → stack_fits c l ≡ true → asked c l ≡ run c l.left l.top l.below
  asked_is l e = cond-true _ _ _ e

  pub misfit : (l : Stack) → stack_fits c l ≡ false → asked c l ≡ record { request = ask.End; at = l }
  misfit l e = cond-false _ _ _ e

  pub asked_fits : (l : Stack) → stack_fits c l ≡ true → AskedFits (asked c l)
  asked_fits l e = let i = to_local l e in subst AskedFits (sym (asked_is l e)) (run_fits l.left l.top l.below i.frames i.left)

  -- each local state, fitting or not, asks for what exists
  pub request_fits : (l : Stack) → RequestFits (asked c l).request
  request_fits l = by (stack_fits c l) refl
    where
      by : (b : Bool) → stack_fits c l ≡ b → RequestFits (asked c l).request
      by true e = (asked_fits l e).request
      by false e = subst (λ a. RequestFits a.request) (sym (misfit l e)) tt

  -- the local state in which a request is made makes that request
  pub asked_again : (l : Stack) → (asked c (asked c l).at).request ≡ (asked c l).request
  asked_again l = by (stack_fits c l) refl
    where
      by : (b : Bool) → stack_fits c l ≡ b → (asked c (asked c l).at).request ≡ (asked c l).request
      by true e = let a = asked c l in let f = asked_fits l e in ap (λ b. b.request) (asked_is a.at (of_local a.at f.at) ∙ asked_here c a.at a.request f.still f.makes)
      by false e = ap (λ a. (asked c a.at).request) (misfit l e)

  -- ---- after a reply

  answered_fits : (f : Frame) (i : IsFrame f) (a : Action) (r : Reply Any ℤ) → is_action_sound c.kinds c.pools c.routines i.routine_of.locals a ≡ true → f.place + 1 < length i.routine_of.instructions → IsFrame (answered f a r)
  answered_fits f i (Get x v t u) (reply.Answer n) s w = moved_fits f i (f.place + 1) (slice_set f.values x n) w (length-set f.values x n)
  answered_fits f i (Freeze x v ps None) (reply.Content d) s w = moved_fits f i (f.place + 1) (slice_set f.values x (pos (length (events_below d)))) w (length-set f.values x (pos (length (events_below d))))
  answered_fits f i (Freeze x v ps (Some k)) (reply.Content d) s w =
      let two = ap (λ b. (length (events_below d) == 0) || b) (and_parts _ _ s).1 ∙ or-true (length (events_below d) == 0) in
      record { routine_of = i.routine_of; at = i.at; within = w; long = length-set f.values x (pos (length (events_below d))) ∙ i.long; each = two }
  answered_fits f i a r s w = moved_fits f i (f.place + 1) f.values w refl

  after_fits : (f : Frame) (i : IsFrame f) (r : Reply Any ℤ) (o : Option Instruction) → slice_get i.routine_of.instructions f.place ≡ o → IsFrame (frame_after f r o)
  after_fits f i r (Some (Ask a)) e =
      let s = c.sound.routines_sound f.procedure i.routine_of i.at in
      answered_fits f i a r (list_all_get (is_instruction_sound c.kinds c.pools c.routines i.routine_of.locals) i.routine_of.instructions f.place (Ask a) s.instructions e) (ltb-true _ _ (s.landing f.place (Ask a) e))
  after_fits f i r o e = i

  resumed_top_fits : (f : Frame) (i : IsFrame f) (r : Reply Any ℤ) (n : ℕ) → IsFrame (resumed_top c f r n)
  resumed_top_fits f i r zero = i
  resumed_top_fits f i r (suc n) = subst (λ is. IsFrame (frame_after f r (slice_get is f.place))) (sym (instructions_are f i)) (after_fits f i r (slice_get i.routine_of.instructions f.place) refl)

  pub resumed_fits : (l : Stack) (r : Reply Any ℤ) → stack_fits c l ≡ true → stack_fits c (resumed c l r) ≡ true
  resumed_fits l r e =
      let f = (to_local l e).frames in
      let next : Stack = record { left = TURNS; top = resumed_top c l.top r l.left; below = l.below } in
      ap (stack_fits c) (cond-true _ _ _ e) ∙ of_local next (record { frames = record { first = resumed_top_fits l.top f.first r l.left; others = f.others; few = f.few }; left = omega arith })
