-- Where main stands, by the freezes that it has passed.
use Rattle.std.proofs.Common.{◌≡◌, ◌↔◌, inl, inr, ℕ, zero, suc, ◌+◌, ◌-◌, ◌<◌, ◌≤◌, ℤ, true, List, [], ◌∷◌, Option, Some, None, Result, Ok, Err, refl, sym, ◌∙◌, subst, map, arith}
use Rattle.std.specs.Prelude.{nat_lt, unwrap_or}
use Rattle.std.specs.List.{slice_get}
use Rattle.std.specs.Ordering.{int_eq}
use Rattle.std.proofs.Math.Nat.{eq-or-lt_of_le}
use Rattle.std.proofs.lemmas.Bool.{cond_both, cond-true, cases_lt}
use Rattle.std.proofs.lemmas.Bool.Decides.{Decides-eqb}
use Rattle.lvish_calculus.specs.Handing.{IsAmong}
use Rattle.lvish_calculus.specs.declared.request.ErrorKind.TheVariants as fault
use Rattle.lvish_calculus.specs.declared.request.Request.TheVariants as ask
use Rattle.lvish_code.specs.Flat as flat
use Rattle.lvish_code.specs.Sound.{takes_count}
use Rattle.lvish_code.specs.declared.operand.Operand.{Operand}
use Rattle.lvish_task.specs.Vocabulary.{Any, AnyRead, Event, ErrorKind, Request, Target, Action, Put, Get, Fork, Handle, Freeze, Instruction, Ask, Let, Call, SkipIfZero, BackUnlessZero, GoOn, Routine}
use Rattle.lvish_task.specs.declared.frame.Frame.{Frame}
use Rattle.lvish_task.specs.declared.stack.Stack.{Stack}
use Rattle.lvish_task.specs.declared.limits.TheConstants.{MOST_BELOW}
use Rattle.lvish_task.specs.Meaning.{chosen}
use Rattle.lvish_task.specs.Run.{FlatTurn, Goes, Asks, FlatAsked, begun, stack_alone, nowhere, callee_in, operand_value, expression_value, placed, assigned, putting, getting, instructions_in, instruction, routine, landing, landed, callee, started, entered, called, action_turn, instruction_turn, frame_turn, flat_turn, is_frame_over, returned, went, run, stack_fits, asked}
use Rattle.lvish_task.specs.laws.Landing.{jump_is, landing_induction}
use Rattle.lvish_alike.specs.Reaching.{Leads, at_once, further, CanRun}
use Rattle.lvish_alike.specs.Sought.{instruction_names, instruction_calls, instruction_freezes, given_by, IsAt, code_outline}
use Rattle.lvish_alike.specs.Layered.{MainRuns, FreezesAt, IsLayered}
use Rattle.lvish_alike.proofs.Marks.{below_or_at}
use Rattle.lvish_alike.proofs.Tasks.{given_at, EachIn, FrameIn, RequestIn, TurnIn, each_in, callee_is, placed_in, frame_in}
use Rattle.lvish_alike.proofs.OneEnd.{all_given, calls_named}

module _ (c : flat.Code) (ly : IsLayered c) where
  -- ---- places of main

  abbrev pub HasFreeze : ℕ → Type 0
  HasFreeze i = (v : ℕ) × (ps : List ℕ) × FreezesAt c i v ps

  -- the same freezes stand above two places
  abbrev pub Same : ℕ → ℕ → Type 0
  Same p q = (i : ℕ) → HasFreeze i → (i < p) ↔ (i < q)

  pub same_refl : (p : ℕ) → Same p p
  same_refl p i f = (λ lt. lt, λ lt. lt)

  pub same_trans : (p q r : ℕ) → Same p q → Same q r → Same p r
  same_trans p q r a b i f = (λ lt. (b i f).0 ((a i f).0 lt), λ lt. (a i f).1 ((b i f).1 lt))

  pub same_next : (p : ℕ) → (HasFreeze p → ⊥) → Same p (p + 1)
  same_next p none i f = (λ lt. omega (arith, lt), λ lt. elim (below_or_at i p lt) [ inl e ↦ absurd (none (subst HasFreeze e f)) | inr less ↦ less ])

  -- a jump forward passes no freeze
  forward : (p q i : ℕ) → p < q → (p ≡ i → ⊥) → (p < i → q ≤ i) → (i < p) ↔ (i < q)
  forward p q i up ne skip = (
    λ lt. omega (arith, lt, up),
    λ lt. elim (cases_lt i p) [ inl less ↦ less | inr le ↦ elim (eq-or-lt_of_le le) [ inl e ↦ absurd (ne e) | inr gt ↦ let far = skip gt in absurd (omega (arith, far, lt)) ] ],
  )

  same_skip : (p n : ℕ) (o : Operand) → IsAt c.routines c.main p (SkipIfZero o n) → Same p (p + 1 + n)
  same_skip p n o at i f = forward p (p + 1 + n) i (omega arith) (λ e. absurd (cc (sym at ∙ subst (λ k. IsAt c.routines c.main k (Ask (Freeze f.2.0 f.0 f.1 f.2.1))) (sym e) f.2.2))) (λ gt. (ly.plain i f.0 f.1 f.2).skip p n o at gt)

  same_past : (p n : ℕ) → IsAt c.routines c.main p (GoOn n) → Same p (p + 1 + n)
  same_past p n at i f = forward p (p + 1 + n) i (omega arith) (λ e. absurd (cc (sym at ∙ subst (λ k. IsAt c.routines c.main k (Ask (Freeze f.2.0 f.0 f.1 f.2.1))) (sym e) f.2.2))) (λ gt. (ly.plain i f.0 f.1 f.2).past p n at gt)

  same_back : (p n : ℕ) (o : Operand) → IsAt c.routines c.main p (BackUnlessZero o n) → Same p (p - n)
  same_back p n o at i f = (λ lt. (ly.plain i f.0 f.1 f.2).back p n o at lt, λ lt. omega (arith, lt))

  same_landing : (p : ℕ) → Same p (landing (instructions_in (slice_get c.routines c.main)) p)
  same_landing p = landing_induction (instructions_in (slice_get c.routines c.main)) (λ q. Same p q) (λ q n e s. same_trans p q (q + 1 + n) s (same_past q n (jump_is _ n e))) p (same_refl p)

  -- ---- routines that main calls

  -- a routine that main calls at this place, or calls through another one
  abbrev pub IsLedFrom : ℕ → ℕ → Type 0
  IsLedFrom i k = (j : ℕ) × (n : Instruction) × (m : ℕ) × (i ≤ j) × IsAt c.routines c.main j n × (instruction_calls n ≡ Some m) × Leads (given_by instruction_calls c.routines) m k

  -- a routine that main runs above the frame that stands at this place
  pub record Upper (p k : ℕ) : Type 0 where
    pub not_main : k ≡ c.main → ⊥
    pub by_main : MainRuns c k
    pub tail : (i : ℕ) → HasFreeze i → i < p → IsLedFrom i k

  pub main_can : (k : ℕ) → MainRuns c k → CanRun (code_outline c) k
  main_can k at_once = at_once
  main_can k (further {j = j} l a) = further (main_can j l) (all_given instruction_calls instruction_names calls_named (instructions_in (slice_get c.routines j)) k a)

  upper_same : (p q k : ℕ) → Same p q → Upper p k → Upper q k
  upper_same p q k same u = record { not_main = u.not_main; by_main = u.by_main; tail = λ i f lt. u.tail i f ((same i f).1 lt) }

  named_not_main : (j k : ℕ) → MainRuns c j → IsAmong k (given_by instruction_calls c.routines j) → k ≡ c.main → ⊥
  named_not_main j k can a e = ly.once j (main_can j can) (subst (λ m. IsAmong m (given_by instruction_names c.routines j)) e (all_given instruction_calls instruction_names calls_named (instructions_in (slice_get c.routines j)) k a))

  pub upper_on : (p j k : ℕ) → Upper p j → IsAmong k (given_by instruction_calls c.routines j) → Upper p k
  upper_on p j k u a = record {
    not_main = named_not_main j k u.by_main a;
    by_main = further u.by_main a;
    tail = λ i f lt. let t = u.tail i f lt in (t.0, t.1, t.2, t.3, t.4, t.5, further t.6 a);
  }

  pub upper_first : (p k : ℕ) (n : Instruction) → IsAt c.routines c.main p n → instruction_calls n ≡ Some k → Upper (p + 1) k
  upper_first p k n at e =
      let a : IsAmong k (given_by instruction_calls c.routines c.main) = given_at instruction_calls (instructions_in (slice_get c.routines c.main)) p n k at e in
      record { not_main = named_not_main c.main k at_once a; by_main = further at_once a; tail = λ i f lt. (p, n, k, omega (arith, lt), at, e, at_once) }

  -- ---- frames

  pub record BottomFrame (f : Frame) : Type 0 where
    pub is : f.procedure ≡ c.main
    pub each : EachIn c (Upper f.place) (upper_on f.place) f.each f.events

  -- the place of the last frame
  abbrev pub bottom : Frame → List Frame → ℕ
  bottom top [] = top.place
  bottom top (f ∷ fs) = bottom f fs

  -- the last frame is main's, and the others are of routines that it called
  abbrev pub MainStack : Frame → List Frame → Type 0
  MainStack top [] = BottomFrame top
  MainStack top (f ∷ fs) = FrameIn c (Upper (bottom f fs)) (upper_on (bottom f fs)) top × MainStack f fs

  -- what main may ask for where it stands
  abbrev pub RequestMain : ℕ → Request Any AnyRead Stack → Type 0
  RequestMain p (ask.Put v d) = (i : ℕ) (ps : List ℕ) → FreezesAt c i v ps → i < p → ⊥
  RequestMain p (ask.Add pool k) = ((v : ℕ) → slice_get c.pools pool ≡ Some v → (i : ℕ) (ps : List ℕ) → FreezesAt c i v ps → i < p → ⊥)
      × ((j : ℕ) × (place : ℕ) × CanRun (code_outline c) j × IsAt c.routines j place (Ask (Handle pool k)))
  RequestMain p (ask.Fork m) = (j : ℕ) × (place : ℕ) × (k : ℕ) × (os : List Operand) × MainRuns c j × IsAt c.routines j place (Ask (Fork k os)) × ((xs : List ℤ) × (m ≡ started c k xs))
  RequestMain p (ask.Freeze v ps) = FreezesAt c p v ps
  RequestMain p r = Unit {0}

  abbrev TurnMain : ℕ → FlatTurn → Type 0
  TurnMain p (Goes top below) = MainStack top below × Same p (bottom top below)
  TurnMain p (Asks r) = RequestMain p r

  -- ---- turns of routines that main called

  abbrev pub Below : ℕ → List Frame → Type 0
  Below p [] = ⊥
  Below p (f ∷ fs) = MainStack f fs × (bottom f fs ≡ p)

  pub push : (p : ℕ) (f : Frame) (fs : List Frame) → FrameIn c (Upper p) (upper_on p) f → Below p fs → Below p (f ∷ fs)
  push p f [] i z = absurd z
  push p f (h ∷ fs) i z = ((subst (λ q. FrameIn c (Upper q) (upper_on q) f) (sym z.1) i, z.0), z.1)

  -- what freezes is main
  pub only_main : (j v place x : ℕ) (ps : List ℕ) (each : Option ℕ) {p : ℕ} → Upper p j → IsAt c.routines j place (Ask (Freeze x v ps each)) → j ≡ c.main
  only_main j v place x ps each u at = ly.alone j v (main_can j u.by_main) (given_at instruction_freezes (instructions_in (slice_get c.routines j)) place _ v at refl)

  pub upper_request : (p : ℕ) (r : Request Any AnyRead Stack) → RequestIn c (Upper p) (upper_on p) r → RequestMain p r
  upper_request p (ask.Put v d) (j, place, t, o, u, at) = λ i ps f lt. let z = u.tail i (v, ps, f) lt in ly.called i v z.0 z.2 j ps z.1 f z.3 z.4 z.5 z.6 (place, Ask (Put v t o), at, refl)
  upper_request p (ask.Add pool k) (j, place, u, at) = (
    (λ v of i ps f lt. let z = u.tail i (v, ps, f) lt in ly.called i v z.0 z.2 j ps z.1 f z.3 z.4 z.5 z.6 (place, Ask (Handle pool k), at, of)),
    (j, place, main_can j u.by_main, at),
  )
  upper_request p (ask.Fork m) (j, place, k, os, u, at, xs) = (j, place, k, os, u.by_main, at, xs)
  upper_request p (ask.Freeze v ps) (j, place, x, each, u, at) =
      absurd (u.not_main (only_main j v place x ps each u at))
  upper_request p r h = tt

  upper_turn : (top f : Frame) (fs : List Frame) → MainStack top (f ∷ fs) → (t : FlatTurn) → TurnIn c (Upper (bottom f fs)) (upper_on (bottom f fs)) (Below (bottom f fs)) (push (bottom f fs)) t → TurnMain (bottom f fs) t
  upper_turn top f fs s (Goes next []) z = absurd z.1
  upper_turn top f fs s (Goes next (h ∷ hs)) z = ((subst (λ q. FrameIn c (Upper q) (upper_on q) next) (sym z.1.1) z.0, z.1.0), subst (λ q. Same (bottom f fs) q) (sym z.1.1) (same_refl (bottom f fs)))
  upper_turn top f fs s (Asks r) z = upper_request (bottom f fs) r z

  -- ---- turns of main's own frame

  each_same : (p q k : ℕ) (es : List Event) → Same p q → EachIn c (Upper p) (upper_on p) k es → EachIn c (Upper q) (upper_on q) k es
  each_same p q k [] same i = tt
  each_same p q k (e ∷ es) same i = upper_same p q k same i

  pub moved : (f : Frame) (q : ℕ) (values : List ℤ) → Same f.place q → BottomFrame f → BottomFrame (record f { place = q; values = values })
  moved f q values same b = record { is = b.is; each = each_same f.place q f.each f.events same b.each }

  called_main : (p k : ℕ) (xs : List ℤ) (caller : Frame) → Upper caller.place k → BottomFrame caller → Same p caller.place → TurnMain p (called c k xs caller [])
  called_main p k xs caller u b same = cond_both (nat_lt 0 MOST_BELOW) (entered c caller [] (callee c k xs)) (Asks (ask.Fault fault.Deep)) (TurnMain p) (λ e. into (callee c k xs) refl) (λ e. tt)
    where
      into : (o : Option Frame) → callee c k xs ≡ o → TurnMain p (entered c caller [] o)
      into None e = tt
      into (Some f) e = ((callee_is c (Upper caller.place) (upper_on caller.place) k xs f u e, b), same)

  module _ (top : Frame) (b : BottomFrame top) where
    pub at_main : (n : Instruction) → instruction c top ≡ Some n → IsAt c.routines c.main top.place n
    at_main n e = subst (λ k. slice_get (instructions_in (slice_get c.routines k)) top.place ≡ Some n) b.is e

    pub no_freeze : (n : Instruction) → instruction c top ≡ Some n → ((x v : ℕ) (ps : List ℕ) (each : Option ℕ) → Some n ≡ Some (Ask (Freeze x v ps each)) → ⊥) → HasFreeze top.place → ⊥
    no_freeze n e never f = never f.2.0 f.0 f.1 f.2.1 (sym (at_main n e) ∙ f.2.2)

    main_puts : (v : ℕ) (t : Target) (o : Operand) → instruction c top ≡ Some (Ask (Put v t o)) → (d : Option Any) → TurnMain top.place (putting v d)
    main_puts v t o e None = tt
    main_puts v t o e (Some d) = λ i ps f lt. ly.below i v top.place ps (Ask (Put v t o)) f lt (at_main _ e) refl

    main_gets : (v : ℕ) (r : Option AnyRead) → TurnMain top.place (getting v r)
    main_gets v None = tt
    main_gets v (Some r) = tt

    main_action : (a : Action) → instruction c top ≡ Some (Ask a) → TurnMain top.place (action_turn c top.values a)
    main_action (Put v t o) e = main_puts v t o e _
    main_action (Get x v t w) e = main_gets v _
    main_action (Fork k os) e = (c.main, top.place, k, os, at_once, at_main _ e, (map (operand_value top.values) os, refl))
    main_action (Handle p k) e = ((λ v of i ps f lt. ly.below i v top.place ps (Ask (Handle p k)) f lt (at_main _ e) of), (c.main, top.place, at_once, at_main _ e))
    main_action (Freeze x v ps each) e = (x, each, at_main _ e)

    main_assigned : (x : ℕ) (o : Result ℤ ErrorKind) → Same top.place (top.place + 1) → TurnMain top.place (assigned top [] x o)
    main_assigned x (Ok n) same = (moved top (top.place + 1) _ same b, same)
    main_assigned x (Err k) same = tt

    -- one of two places
    main_chosen : (n : ℤ) (p q : ℕ) → Same top.place p → Same top.place q → TurnMain top.place (Goes (placed top (chosen n p q)) [])
    main_chosen n p q sp sq = let same = cond_both (int_eq n _) q p (λ k. Same top.place k) (λ e. sq) (λ e. sp) in (moved top _ top.values same b, same)

    main_instruction : (o : Option Instruction) → instruction c top ≡ o → TurnMain top.place (instruction_turn c top [] o)
    main_instruction (Some (Ask a)) e = main_action a e
    main_instruction (Some (Let x v)) e = main_assigned x (expression_value top.values v) (same_next top.place (no_freeze _ e (λ x v ps each z. cc z)))
    main_instruction (Some (Call k os)) e =
        let same = same_next top.place (no_freeze _ e (λ x v ps each z. cc z)) in
        called_main top.place k (map (operand_value top.values) os) (placed top (top.place + 1)) (upper_first top.place k _ (at_main _ e) refl) (moved top (top.place + 1) top.values same b) same
    main_instruction (Some (SkipIfZero o n)) e = main_chosen (operand_value top.values o) (top.place + 1) (top.place + 1 + n) (same_next top.place (no_freeze _ e (λ x v ps each z. cc z))) (same_skip top.place n o (at_main _ e))
    main_instruction (Some (BackUnlessZero o n)) e = main_chosen (operand_value top.values o) (top.place - n) (top.place + 1) (same_back top.place n o (at_main _ e)) (same_next top.place (no_freeze _ e (λ x v ps each z. cc z)))
    main_instruction o e = tt

    main_turn : (es : List Event) → top.events ≡ es → TurnMain top.place (frame_turn c top [] es)
    main_turn [] is = main_instruction (instruction c top) refl
    main_turn (e ∷ es) is =
        let u : Upper top.place top.each = subst (EachIn c (Upper top.place) (upper_on top.place) top.each) is b.each in
        called_main top.place top.each (e.key ∷ e.number ∷ []) (record top { events = es }) u (record { is = b.is; each = each_in c (Upper top.place) (upper_on top.place) top.each es u }) (same_refl top.place)

  pub turn_main : (top : Frame) (below : List Frame) → MainStack top below → TurnMain (bottom top below) (frame_turn c top below top.events)
  turn_main top [] b = main_turn top b top.events refl
  turn_main top (f ∷ fs) s =
      upper_turn top f fs s _ (frame_in c (Upper (bottom f fs)) (upper_on (bottom f fs)) (Below (bottom f fs)) (push (bottom f fs)) top (f ∷ fs) s.0 (s.1, refl) top.events refl)

  -- ---- up to the next request

  pub record StandsAt (p : ℕ) (l : Stack) : Type 0 where
    pub frames : MainStack l.top l.below
    pub same : Same p (bottom l.top l.below)

  returned_main : (top : Frame) (below : List Frame) (left : ℕ) → MainStack top below → StandsAt (bottom top below) (returned c top below left)
  returned_main top [] left b =
      let same = subst (λ k. Same top.place (landing (instructions_in (slice_get c.routines k)) top.place)) (sym b.is) (same_landing top.place) in
      record { frames = moved top _ top.values same b; same = same }
  returned_main top (f ∷ fs) left s =
      cond_both (is_frame_over c (landed c top)) (returned c f fs left) (record { left = left; top = landed c top; below = f ∷ fs }) (StandsAt (bottom f fs))
      (λ o. returned_main f fs left s.1)
      (λ o. record { frames = (placed_in c (Upper (bottom f fs)) (upper_on (bottom f fs)) top _ _ s.0, s.1); same = same_refl (bottom f fs) })

  pub record AskedMain (p : ℕ) (a : FlatAsked) : Type 0 where
    pub at : StandsAt p a.at
    pub request : RequestMain (bottom a.at.top a.at.below) a.request

  asked_from : (p q : ℕ) (a : FlatAsked) → Same p q → AskedMain q a → AskedMain p a
  asked_from p q a same z = record { at = record { frames = z.at.frames; same = same_trans p q _ same z.at.same }; request = z.request }

  went_main : (p : ℕ) (l : Stack) (n : ℕ) → StandsAt p l → ((top : Frame) (below : List Frame) → MainStack top below → AskedMain (bottom top below) (run c n top below)) → (t : FlatTurn) → TurnMain (bottom l.top l.below) t → AskedMain p (went c l (run c n) t)
  went_main p l n s on (Goes top below) t = asked_from p (bottom top below) _ (same_trans p _ _ s.same t.1) (on top below t.0)
  went_main p l n s on (Asks r) t = record { at = s; request = t }

  run_main : (n : ℕ) (top : Frame) (below : List Frame) → MainStack top below → AskedMain (bottom top below) (run c n top below)
  run_main zero top below s = record { at = returned_main top below zero s; request = tt }
  run_main (suc n) top below s =
      let l = returned c top below (suc n) in
      let r = returned_main top below (suc n) s in
      went_main (bottom top below) l n r (run_main n) (flat_turn c l) (turn_main l.top l.below r.frames)

  pub asked_main : (l : Stack) → MainStack l.top l.below → AskedMain (bottom l.top l.below) (asked c l)
  asked_main l s = cond_both (stack_fits c l) (run c l.left l.top l.below) (record { request = ask.End; at = l }) (AskedMain (bottom l.top l.below))
      (λ e. run_main l.left l.top l.below s) (λ e. record { at = record { frames = s; same = same_refl _ }; request = tt })

  -- main begins in a frame of its own
  pub main_begins : MainStack (started c c.main []).top (started c c.main []).below
  main_begins = by (routine c c.main) c.sound.main_takes
    where
      by : (o : Option Routine) → takes_count 0 o ≡ true → MainStack (stack_alone (unwrap_or (callee_in c c.main [] o) (nowhere c))).top []
      by None t = absurd (cc t)
      by (Some r) t = subst (λ o. BottomFrame (unwrap_or o (nowhere c))) (sym (cond-true _ (Some (begun c.main [] r)) None ((Decides-eqb 0 r.parameters).1 (sym ((Decides-eqb r.parameters 0).0 t))))) (record { is = refl; each = tt })
