-- Where main stands after the reply to its request.
use Rattle.std.proofs.Common.{◌≡◌, ◌≢◌, ◌⊎◌, inl, inr, ℕ, zero, suc, ◌+◌, ℤ, true, List, [], ◌∷◌, length, Option, Some, None, refl, sym, ◌∙◌, subst}
use Rattle.std.specs.Prelude.{nat_lt}
use Rattle.std.proofs.lemmas.Bool.{cond_both, cond-true}
use Rattle.lvish_calculus.specs.Program.{IsReplyTo}
use Rattle.lvish_calculus.specs.declared.request.ErrorKind.TheVariants as fault
use Rattle.lvish_calculus.specs.declared.request.Request.TheVariants as ask
use Rattle.lvish_calculus.specs.declared.request.Reply.TheVariants as reply
use Rattle.lvish_code.specs.Flat as flat
use Rattle.lvish_task.specs.Vocabulary.{Any, AnyRead, Event, ErrorKind, Request, Reply, Action, Get, Freeze, Instruction, Ask, Let}
use Rattle.lvish_task.specs.declared.frame.Frame.{Frame}
use Rattle.lvish_task.specs.declared.stack.Stack.{Stack}
use Rattle.lvish_task.specs.declared.limits.TheConstants.{TURNS, MOST_BELOW}
use Rattle.lvish_task.specs.States.{events_below}
use Rattle.lvish_task.specs.Run.{FlatTurn, Asks, answered, instruction, callee, entered, called, action_turn, instruction_turn, frame_turn, stack_fits, frame_after, resumed_top, resumed}
use Rattle.lvish_task.specs.laws.Settling.{Makes}
use Rattle.lvish_alike.specs.Layered.{FreezesAt, IsLayered}
use Rattle.lvish_alike.proofs.Tasks.{EachIn, RequestIn, TurnIn, each_in, frame_in, resumed_top_in}
use Rattle.lvish_alike.proofs.Main.{Same, same_refl, same_next, Upper, upper_on, upper_first, BottomFrame, bottom, MainStack, RequestMain, Below, push, only_main, moved, at_main, no_freeze}

-- a task whose own computation went wrong, and one at its end, get no reply
fault_silent : (k : ErrorKind) (r : Reply Any ℤ) → IsReplyTo {S = Any} {R = AnyRead} {A = ℤ} {L = Stack} (ask.Fault k) r → ⊥
fault_silent k reply.Done h = h
fault_silent k (reply.Answer n) h = h
fault_silent k (reply.Content d) h = h

pub end_silent : (r : Reply Any ℤ) → IsReplyTo {S = Any} {R = AnyRead} {A = ℤ} {L = Stack} ask.End r → ⊥
end_silent reply.Done h = h
end_silent (reply.Answer n) h = h
end_silent (reply.Content d) h = h

asks_same : (p q : Request Any AnyRead Stack) → ◌≡◌ {A = FlatTurn} (Asks p) (Asks q) → p ≡ q
asks_same p q e = cc

module _ (c : flat.Code) (ly : IsLayered c) where
  -- a call gets no reply
  called_silent : (k : ℕ) (xs : List ℤ) (caller : Frame) (below : List Frame) (q : Request Any AnyRead Stack) (r : Reply Any ℤ) → called c k xs caller below ≡ Asks q → IsReplyTo q r → ⊥
  called_silent k xs caller below q r = cond_both (nat_lt (length below) MOST_BELOW) (entered c caller below (callee c k xs)) (Asks (ask.Fault fault.Deep)) (λ t. t ≡ Asks q → IsReplyTo q r → ⊥)
      (λ e. into (callee c k xs)) (λ e z h. fault_silent fault.Deep r (subst (λ x. IsReplyTo x r) (sym (asks_same _ _ z)) h))
    where
      into : (o : Option Frame) → entered c caller below o ≡ Asks q → IsReplyTo q r → ⊥
      into None z h = end_silent r (subst (λ x. IsReplyTo x r) (sym (asks_same _ _ z)) h)
      into (Some f) z h = cc z

  -- main stands where it stood, or behind the freeze that it asked for
  pub record ResumedAt (p : ℕ) (q : Request Any AnyRead Stack) (top : Frame) (below : List Frame) : Type 0 where
    pub frames : MainStack c ly top below
    pub stands : (Same c ly p (bottom c ly top below) × ((v : ℕ) (ps : List ℕ) → q ≢ ask.Freeze v ps))
        ⊎ ((v : ℕ) × (ps : List ℕ) × FreezesAt c p v ps × (q ≡ ask.Freeze v ps) × (bottom c ly top below ≡ p + 1))

  none_left : (p k : ℕ) (es : List Event) → es ≡ [] → EachIn c (Upper c ly p) (upper_on c ly p) k es
  none_left p k [] e = tt
  none_left p k (x ∷ es) e = absurd (cc e)

  module _ (f : Frame) (b : BottomFrame c ly f) (none : f.events ≡ []) (q : Request Any AnyRead Stack) (req : RequestMain c ly f.place q) (r : Reply Any ℤ) where
    -- after a request that is no freeze
    plain : (n : Instruction) → instruction c f ≡ Some n → ((x v : ℕ) (ps : List ℕ) (each : Option ℕ) → Some n ≡ Some (Ask (Freeze x v ps each)) → ⊥) → (values : List ℤ) → ResumedAt f.place q (record f { place = f.place + 1; values = values }) []
    plain n e never values =
        let same = same_next c ly f.place (no_freeze c ly f b n e never) in
        record {
          frames = moved c ly f (f.place + 1) values same b;
          stands = inl (same, λ v ps z. let at = subst (RequestMain c ly f.place) z req in no_freeze c ly f b n e never (v, ps, at));
        }

    frozen : (x v : ℕ) (ps : List ℕ) (each : Option ℕ) → instruction c f ≡ Some (Ask (Freeze x v ps each)) → action_turn c f.values (Freeze x v ps each) ≡ Asks q → (k : ℕ) (es : List Event) (values : List ℤ) → EachIn c (Upper c ly (f.place + 1)) (upper_on c ly (f.place + 1)) k es
        → ResumedAt f.place q (record { place = f.place + 1; procedure = f.procedure; values = values; each = k; events = es }) []
    frozen x v ps each e t k es values i = record { frames = record { is = b.is; each = i }; stands = inr (v, ps, (x, each, at_main c ly f b _ e), sym (asks_same _ _ t), refl) }

    answered_main : (a : Action) → instruction c f ≡ Some (Ask a) → action_turn c f.values a ≡ Asks q → (r : Reply Any ℤ) → ResumedAt f.place q (answered f a r) []
    answered_main (Get x v t u) e z (reply.Answer n) = plain _ e (λ x v ps each y. cc y) _
    answered_main (Freeze x v ps None) e z (reply.Content d) = frozen x v ps None e z _ _ _ (none_left _ _ _ none)
    answered_main (Freeze x v ps (Some k)) e z (reply.Content d) = frozen x v ps (Some k) e z k (events_below d) _ (each_in c (Upper c ly (f.place + 1)) (upper_on c ly (f.place + 1)) k (events_below d) (upper_first c ly f.place k _ (at_main c ly f b _ e) refl))
    answered_main (Freeze x v ps each) e z r = frozen x v ps each e z _ _ _ (none_left _ _ _ none)
    answered_main a e z r = plain _ e (λ x v ps each y. cc y) _

    after_main : (o : Option Instruction) → instruction c f ≡ o → instruction_turn c f [] o ≡ Asks q → ResumedAt f.place q (frame_after f r o) []
    after_main (Some (Ask a)) e z = answered_main a e z r
    after_main (Some (Let x v)) e z = record { frames = b; stands = inl (same_refl c ly f.place, λ v ps y. no_freeze c ly f b _ e (λ x v ps each w. cc w) (v, ps, subst (RequestMain c ly f.place) y req)) }
    after_main None e z = record { frames = b; stands = inl (same_refl c ly f.place, λ v ps y. cc (asks_same _ _ z ∙ y)) }
    after_main (Some i) e z = record { frames = b; stands = inl (same_refl c ly f.place, λ v ps y. no_freeze c ly f b _ e (λ x v ps each w. cc w) (v, ps, subst (RequestMain c ly f.place) y req)) }

  module _ (q : Request Any AnyRead Stack) (r : Reply Any ℤ) (replied : IsReplyTo q r) where
    own_frame : (f : Frame) → BottomFrame c ly f → RequestMain c ly f.place q → (es : List Event) → f.events ≡ es → frame_turn c f [] es ≡ Asks q → ResumedAt f.place q (frame_after f r (instruction c f)) []
    own_frame f b req [] none z = after_main f b none q req r (instruction c f) refl z
    own_frame f b req (e ∷ es) is z = absurd (called_silent f.each (e.key ∷ e.number ∷ []) (record f { events = es }) [] q r z replied)

    resumed_frames : (left : ℕ) (top : Frame) (below : List Frame) → MainStack c ly top below → RequestMain c ly (bottom c ly top below) q → Makes c left (record { left = left; top = top; below = below }) q → ResumedAt (bottom c ly top below) q (resumed_top c top r left) below
    resumed_frames zero top below s req m = record { frames = s; stands = inl (same_refl c ly (bottom c ly top below), λ v ps y. cc (m ∙ y)) }
    resumed_frames (suc n) top [] b req m = own_frame top b req top.events refl m
    resumed_frames (suc n) top (f ∷ fs) s req m =
        let p = bottom c ly f fs in
        let turn = frame_in c (Upper c ly p) (upper_on c ly p) (Below c ly p) (push c ly p) top (f ∷ fs) s.0 (s.1, refl) top.events refl in
        let asks : RequestIn c (Upper c ly p) (upper_on c ly p) q = subst (TurnIn c (Upper c ly p) (upper_on c ly p) (Below c ly p) (push c ly p)) m turn in
        record {
          frames = (resumed_top_in c (Upper c ly p) (upper_on c ly p) top s.0 r (suc n), s.1);
          stands = inl (same_refl c ly p, λ v ps y. upper_no_freeze p v ps (subst (RequestIn c (Upper c ly p) (upper_on c ly p)) y asks));
        }
      where
        upper_no_freeze : (p v : ℕ) (ps : List ℕ) → RequestIn c (Upper c ly p) (upper_on c ly p) (ask.Freeze v ps) → ⊥
        upper_no_freeze p v ps (j, place, x, each, u, at) = u.not_main (only_main c ly j v place x ps each u at)

    pub resumed_main : (l : Stack) → stack_fits c l ≡ true → MainStack c ly l.top l.below → RequestMain c ly (bottom c ly l.top l.below) q → Makes c l.left l q → ResumedAt (bottom c ly l.top l.below) q (resumed c l r).top (resumed c l r).below
    resumed_main l fits s req m =
        let next : Stack = record { left = TURNS; top = resumed_top c l.top r l.left; below = l.below } in
        subst (λ (k : Stack). ResumedAt (bottom c ly l.top l.below) q k.top k.below) (sym (cond-true _ next l fits)) (resumed_frames l.left l.top l.below s req m)
