-- A settled local state stays, and makes its request where it is.
use Rattle.std.proofs.Common.{◌≡◌, ℕ, zero, suc, ◌<◌, false, List, [], ◌∷◌, refl, ◌∙◌, ap, arith}
use Rattle.std.proofs.lemmas.Bool.{cond_both, cond-false}
use Rattle.lvish_task.specs.Vocabulary.{Request, Any, AnyRead}
use Rattle.lvish_calculus.specs.declared.request.Request.TheVariants as ask
use Rattle.lvish_code.specs.Flat as flat
use Rattle.lvish_task.specs.declared.frame.Frame.{Frame}
use Rattle.lvish_task.specs.declared.stack.Stack.{Stack}
use Rattle.lvish_task.specs.Run.{FlatAsked, Asks, placed, instructions, landed, is_frame_over, returned, settled, flat_turn, went, run}
use Rattle.lvish_task.specs.laws.Landing.{landing_again}

module _ (c : flat.Code) where
  landed_again : (f : Frame) → landed c (landed c f) ≡ landed c f
  landed_again f = ap (placed f) (landing_again (instructions c f) f.place)

  -- a frame in which something follows stays, past jumps
  pub stops : (f : Frame) (below : List Frame) (left : ℕ) → is_frame_over c (landed c f) ≡ false → returned c f below left ≡ record { left = left; top = landed c f; below = below }
  stops f [] left o = refl
  stops f (h ∷ below) left o = cond-false _ _ _ o

  pub stays : (f : Frame) (below : List Frame) (left : ℕ) → landed c f ≡ f → is_frame_over c f ≡ false → returned c f below left ≡ record { left = left; top = f; below = below }
  stays f below left l o = stops f below left (ap (is_frame_over c) l ∙ o) ∙ ap (λ g. record { left = left; top = g; below = below }) l

  pub settled_again : (f : Frame) (below : List Frame) (left : ℕ) → settled c (returned c f below left) ≡ returned c f below left
  settled_again f [] left = ap (λ g. record { left = left; top = g; below = [] }) (landed_again f)
  settled_again f (h ∷ below) left =
      cond_both (is_frame_over c (landed c f)) (returned c h below left) (record { left = left; top = landed c f; below = h ∷ below }) (λ l. settled c l ≡ l)
      (λ o. settled_again h below left) (λ o. stays (landed c f) (h ∷ below) left (landed_again f) o)

  pub returned_left : (f : Frame) (below : List Frame) (left : ℕ) → (returned c f below left).left ≡ left
  returned_left f [] left = refl
  returned_left f (h ∷ below) left =
      cond_both (is_frame_over c (landed c f)) (returned c h below left) (record { left = left; top = landed c f; below = h ∷ below }) (λ l. l.left ≡ left) (λ o. returned_left h below left) (λ o. refl)

  -- what is asked next in a local state that is settled
  abbrev pub pending : ℕ → Stack → FlatAsked
  pending zero l = record { request = ask.Pause; at = l }
  pending (suc n) l = went c l (run c n) (flat_turn c l)

  pub run_pending : (n : ℕ) (f : Frame) (below : List Frame) → run c n f below ≡ pending n (returned c f below n)
  run_pending zero f below = refl
  run_pending (suc n) f below = refl

  -- the local state, in which this many local statements are left, makes this request
  abbrev pub Makes : ℕ → Stack → Request Any AnyRead Stack → Type 0
  Makes zero l q = ask.Pause ≡ q
  Makes (suc n) l q = flat_turn c l ≡ Asks q

  pub makes_some : (n : ℕ) (l : Stack) (q : Request Any AnyRead Stack) → 0 < n → flat_turn c l ≡ Asks q → Makes n l q
  makes_some zero l q some e = absurd (omega arith)
  makes_some (suc n) l q some e = e

  -- it is asked where it is made
  pub asked_here : (l : Stack) (q : Request Any AnyRead Stack) → settled c l ≡ l → Makes l.left l q → run c l.left l.top l.below ≡ record { request = q; at = l }
  asked_here l q is makes = run_pending l.left l.top l.below ∙ ap (pending l.left) is ∙ by l.left makes
    where
      by : (n : ℕ) → Makes n l q → pending n l ≡ record { request = q; at = l }
      by zero e = ap (λ r. record { request = r; at = l }) e
      by (suc n) e = ap (went c l (run c n)) e
