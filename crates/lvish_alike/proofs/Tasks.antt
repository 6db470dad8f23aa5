-- What a task can ask for, by the procedures of its frames.
use Rattle.std.proofs.Common.{◌≡◌, inl, inr, ℕ, zero, suc, ℤ, ◌∙◌, List, [], ◌∷◌, length, Option, Some, None, Result, Ok, Err, refl, sym, ap, subst, map, le_refl}
use Rattle.std.specs.Prelude.{unwrap_or, nat_lt, ◌==◌}
use Rattle.std.specs.List.{slice_get, filter_map, cons_option}
use Rattle.std.proofs.lemmas.Bool.{cond_both}
use Rattle.std.proofs.lemmas.Option.{cond_some, slice_get_past}
use Rattle.lvish_calculus.specs.Handing.{IsAmong}
use Rattle.lvish_calculus.specs.declared.request.ErrorKind.TheVariants as fault
use Rattle.lvish_calculus.specs.declared.request.Request.TheVariants as ask
use Rattle.lvish_calculus.specs.declared.request.Reply.TheVariants as reply
use Rattle.lvish_code.specs.Flat as flat
use Rattle.lvish_task.specs.Vocabulary.{Any, AnyRead, Event, ErrorKind, Request, Reply, Operand, Target, Action, Put, Get, Fork, Handle, Freeze, Instruction, Ask, Let, Call, SkipIfZero, BackUnlessZero, Routine}
use Rattle.lvish_task.specs.declared.frame.Frame.{Frame}
use Rattle.lvish_task.specs.declared.stack.Stack.{Stack}
use Rattle.lvish_task.specs.declared.limits.TheConstants.{MOST_BELOW}
use Rattle.lvish_task.specs.Run.{FlatTurn, Goes, Asks, FlatAsked, operand_value, expression_value, begun, stack_alone, answered, assigned, putting, getting, instructions, instructions_in, instruction, routine, landed, callee_in, callee, started, nowhere, entered, called, action_turn, instruction_turn, frame_turn, flat_turn, is_frame_over, returned, went, run, stack_fits, asked, frame_after, resumed_top, resumed}
use Rattle.lvish_alike.specs.Sought.{instruction_calls, given_by, IsAt}

among_behind : (k : ℕ) (o : Option ℕ) (ks : List ℕ) → IsAmong k ks → IsAmong k (cons_option o ks)
among_behind k None ks h = h
among_behind k (Some j) ks h = inr h

-- what f gives of an instruction is among what it gives of all
pub given_at : (f : Instruction → Option ℕ) (is : List Instruction) (place : ℕ) (i : Instruction) (k : ℕ) → slice_get is place ≡ Some i → f i ≡ Some k → IsAmong k (filter_map f is)
given_at f [] place i k e g = absurd (cc e)
given_at f (j ∷ is) zero i k e g = let same : j ≡ i = cc in subst (λ o. IsAmong k (cons_option o (filter_map f is))) (sym (ap f same ∙ g)) (inl refl)
given_at f (j ∷ is) (suc place) i k e g = among_behind k (f j) (filter_map f is) (given_at f is place i k e g)

-- of routines that call no others
module _ (c : flat.Code) (Q : ℕ → Type 0) (closed : (j k : ℕ) → Q j → IsAmong k (given_by instruction_calls c.routines j) → Q k) where
  -- where an `each` has events left, the procedure that it calls is one of them
  abbrev pub EachIn : ℕ → List Event → Type 0
  EachIn k [] = Unit {0}
  EachIn k (e ∷ es) = Q k

  pub record FrameIn (f : Frame) : Type 0 where
    pub of : (r : Routine) → routine c f.procedure ≡ Some r → Q f.procedure
    pub each : EachIn f.each f.events

  abbrev pub FramesIn : List Frame → Type 0
  FramesIn [] = Unit {0}
  FramesIn (f ∷ fs) = FrameIn f × FramesIn fs

  -- all frames of the task are of such procedures
  pub record StackIn (l : Stack) : Type 0 where
    pub top : FrameIn l.top
    pub below : FramesIn l.below

  -- a request stands in such a routine
  abbrev pub RequestIn : Request Any AnyRead Stack → Type 0
  RequestIn (ask.Put v d) = (j : ℕ) × (place : ℕ) × (t : Target) × (o : Operand) × Q j × IsAt c.routines j place (Ask (Put v t o))
  RequestIn (ask.Fork m) = (j : ℕ) × (place : ℕ) × (k : ℕ) × (os : List Operand) × Q j × IsAt c.routines j place (Ask (Fork k os)) × ((xs : List ℤ) × (m ≡ started c k xs))
  RequestIn (ask.Add p k) = (j : ℕ) × (place : ℕ) × Q j × IsAt c.routines j place (Ask (Handle p k))
  RequestIn (ask.Freeze v ps) = (j : ℕ) × (place : ℕ) × (x : ℕ) × (each : Option ℕ) × Q j × IsAt c.routines j place (Ask (Freeze x v ps each))
  RequestIn r = Unit {0}

  pub each_in : (k : ℕ) (es : List Event) → Q k → EachIn k es
  each_in k [] q = tt
  each_in k (e ∷ es) q = q

  pub placed_in : (f : Frame) (place : ℕ) (values : List ℤ) → FrameIn f → FrameIn (record f { place = place; values = values })
  placed_in f place values i = record { of = i.of; each = i.each }

  -- the procedure of a frame in which there is an instruction
  pub here : (f : Frame) → FrameIn f → (j : Instruction) → instruction c f ≡ Some j → Q f.procedure
  here f i j e = by (routine c f.procedure) refl e
    where
      by : (o : Option Routine) → routine c f.procedure ≡ o → slice_get (instructions_in o) f.place ≡ Some j → Q f.procedure
      by None is e = absurd (cc e)
      by (Some r) is e = i.of r is

  goes_to : (f : Frame) → FrameIn f → (j : Instruction) (k : ℕ) → instruction c f ≡ Some j → instruction_calls j ≡ Some k → Q k
  goes_to f i j k e h = closed f.procedure k (here f i j e) (given_at instruction_calls (instructions c f) f.place j k e h)

  -- ---- where procedures begin

  pub callee_is : (k : ℕ) (xs : List ℤ) (f : Frame) → Q k → callee c k xs ≡ Some f → FrameIn f
  callee_is k xs f q e = by (routine c k) e
    where
      by : (o : Option Routine) → callee_in c k xs o ≡ Some f → FrameIn f
      by None e = absurd (cc e)
      by (Some r) e = subst FrameIn (cond_some (length xs == r.parameters) (begun k xs r) f e).1 (record { of = λ s is. q; each = tt })

  nowhere_in : FrameIn (nowhere c)
  nowhere_in = record { of = λ r is. absurd (cc (sym (slice_get_past c.routines (length c.routines) (le_refl _)) ∙ is)); each = tt }

  pub started_in : (k : ℕ) (xs : List ℤ) → Q k → StackIn (started c k xs)
  started_in k xs q = by (callee c k xs) refl
    where
      by : (o : Option Frame) → callee c k xs ≡ o → StackIn (stack_alone (unwrap_or o (nowhere c)))
      by None e = record { top = nowhere_in; below = tt }
      by (Some f) e = record { top = callee_is k xs f q e; below = tt }

  -- ---- turns

  -- what holds of the frames below the first one, and of these with another above them
  module _ (Below : List Frame → Type 0) (push : (f : Frame) (fs : List Frame) → FrameIn f → Below fs → Below (f ∷ fs)) where
    -- after a local statement the first frame is of such a routine, or the request stands in one
    abbrev pub TurnIn : FlatTurn → Type 0
    TurnIn (Goes top below) = FrameIn top × Below below
    TurnIn (Asks r) = RequestIn r

    called_in : (k : ℕ) (xs : List ℤ) (caller : Frame) (below : List Frame) → Q k → FrameIn caller → Below below → TurnIn (called c k xs caller below)
    called_in k xs caller below q i all = cond_both (nat_lt (length below) MOST_BELOW) (entered c caller below (callee c k xs)) (Asks (ask.Fault fault.Deep)) TurnIn (λ e. into (callee c k xs) refl) (λ e. tt)
      where
        into : (o : Option Frame) → callee c k xs ≡ o → TurnIn (entered c caller below o)
        into None e = tt
        into (Some f) e = (callee_is k xs f q e, push caller below i all)

    getting_in : (v : ℕ) (o : Option AnyRead) → TurnIn (getting v o)
    getting_in v None = tt
    getting_in v (Some r) = tt

    assigned_in : (top : Frame) (below : List Frame) (x : ℕ) (o : Result ℤ ErrorKind) → FrameIn top → Below below → TurnIn (assigned top below x o)
    assigned_in top below x (Ok n) i all = (placed_in top _ _ i, all)
    assigned_in top below x (Err k) i all = tt

    module _ (top : Frame) (below : List Frame) (i : FrameIn top) (all : Below below) where
      putting_in : (v : ℕ) (t : Target) (o : Operand) → instruction c top ≡ Some (Ask (Put v t o)) → (d : Option Any) → TurnIn (putting v d)
      putting_in v t o e None = tt
      putting_in v t o e (Some d) = (top.procedure, top.place, t, o, here top i _ e, e)

      action_in : (a : Action) → instruction c top ≡ Some (Ask a) → TurnIn (action_turn c top.values a)
      action_in (Put v t o) e = putting_in v t o e _
      action_in (Get x v t w) e = getting_in v _
      action_in (Fork k os) e = (top.procedure, top.place, k, os, here top i _ e, e, (map (operand_value top.values) os, refl))
      action_in (Handle p k) e = (top.procedure, top.place, here top i _ e, e)
      action_in (Freeze x v ps each) e = (top.procedure, top.place, x, each, here top i _ e, e)

      instruction_in : (o : Option Instruction) → instruction c top ≡ o → TurnIn (instruction_turn c top below o)
      instruction_in (Some (Ask a)) e = action_in a e
      instruction_in (Some (Let x v)) e = assigned_in top below x (expression_value top.values v) i all
      instruction_in (Some (Call k os)) e = called_in k (map (operand_value top.values) os) _ below (goes_to top i _ k e refl) (placed_in top _ _ i) all
      instruction_in (Some (SkipIfZero o n)) e = (placed_in top _ _ i, all)
      instruction_in (Some (BackUnlessZero o n)) e = (placed_in top _ _ i, all)
      instruction_in o e = tt

      pub frame_in : (es : List Event) → top.events ≡ es → TurnIn (frame_turn c top below es)
      frame_in [] is = instruction_in (instruction c top) refl
      frame_in (e ∷ es) is =
          let q : Q top.each = subst (EachIn top.each) is i.each in
          called_in top.each (e.key ∷ e.number ∷ []) (record top { events = es }) below q (record { of = i.of; each = each_in top.each es q }) all

  -- ---- up to the next request

  push_in : (f : Frame) (fs : List Frame) → FrameIn f → FramesIn fs → FramesIn (f ∷ fs)
  push_in f fs i all = (i, all)

  returned_in : (f : Frame) (below : List Frame) (left : ℕ) → FrameIn f → FramesIn below → StackIn (returned c f below left)
  returned_in f [] left i all = record { top = placed_in f _ _ i; below = tt }
  returned_in f (h ∷ below) left i all =
      cond_both (is_frame_over c (landed c f)) (returned c h below left) (record { left = left; top = landed c f; below = h ∷ below }) StackIn
      (λ o. returned_in h below left all.0 all.1) (λ o. record { top = placed_in f _ _ i; below = all })

  pub record AskedIn (a : FlatAsked) : Type 0 where
    pub at : StackIn a.at
    pub request : RequestIn a.request

  went_in : (l : Stack) (n : ℕ) → StackIn l → ((top : Frame) (below : List Frame) → FrameIn top → FramesIn below → AskedIn (run c n top below)) → (t : FlatTurn) → TurnIn FramesIn push_in t → AskedIn (went c l (run c n) t)
  went_in l n i on (Goes top below) t = on top below t.0 t.1
  went_in l n i on (Asks r) t = record { at = i; request = t }

  run_in : (n : ℕ) (top : Frame) (below : List Frame) → FrameIn top → FramesIn below → AskedIn (run c n top below)
  run_in zero top below i all = record { at = returned_in top below zero i all; request = tt }
  run_in (suc n) top below i all =
      let l = returned c top below (suc n) in
      let s = returned_in top below (suc n) i all in
      went_in l n s (run_in n) (flat_turn c l) (frame_in FramesIn push_in l.top l.below s.top s.below l.top.events refl)

  pub asked_in : (l : Stack) → StackIn l → AskedIn (asked c l)
  asked_in l s = cond_both (stack_fits c l) (run c l.left l.top l.below) (record { request = ask.End; at = l }) AskedIn (λ e. run_in l.left l.top l.below s.top s.below) (λ e. record { at = s; request = tt })

  -- ---- after a reply

  answered_in : (f : Frame) → FrameIn f → (a : Action) → instruction c f ≡ Some (Ask a) → (r : Reply Any ℤ) → FrameIn (answered f a r)
  answered_in f i (Get x v t u) e (reply.Answer n) = placed_in f _ _ i
  answered_in f i (Freeze x v ps None) e (reply.Content d) = placed_in f _ _ i
  answered_in f i (Freeze x v ps (Some k)) e (reply.Content d) = record { of = i.of; each = each_in k _ (goes_to f i _ k e refl) }
  answered_in f i a e r = placed_in f _ _ i

  after_in : (f : Frame) → FrameIn f → (r : Reply Any ℤ) (o : Option Instruction) → instruction c f ≡ o → FrameIn (frame_after f r o)
  after_in f i r (Some (Ask a)) e = answered_in f i a e r
  after_in f i r o e = i

  pub resumed_top_in : (f : Frame) → FrameIn f → (r : Reply Any ℤ) (n : ℕ) → FrameIn (resumed_top c f r n)
  resumed_top_in f i r zero = i
  resumed_top_in f i r (suc n) = after_in f i r (instruction c f) refl

  pub resumed_in : (l : Stack) → StackIn l → (r : Reply Any ℤ) → StackIn (resumed c l r)
  resumed_in l s r = cond_both (stack_fits c l) (record { left = _; top = resumed_top c l.top r l.left; below = l.below }) l StackIn (λ e. record { top = resumed_top_in l.top s.top r l.left; below = s.below }) (λ e. s)
