-- A statement that is taken in a frame leaves what is asked next as it was.
use Rattle.std.proofs.Common.{◌≡◌, ℕ, zero, suc, ℤ, ◌+◌, ◌-◌, ◌*◌, ◌<◌, ◌≤◌, ◌&&◌, ◌==◌, true, false, List, [], ◌∷◌, length, Option, Some, None, Result, Ok, Err, if◌then◌else◌, refl, sym, ◌∙◌, ap, subst, arith}
use Rattle.std.specs.List.{slice_get, slice_set}
use Rattle.std.proofs.lemmas.Option.{slice_get_within, same_Some}
use Rattle.std.proofs.Math.Nat.{suc-mul}
use borrow.Author.Tests.{eqb-true}
use Rattle.lvish_code.specs.Flat as flat
use Rattle.lvish_task.specs.Vocabulary.{Event, ErrorKind, Expression, Instruction, Ask, Let, Call, SkipIfZero, BackUnlessZero, GoOn, Return}
use Rattle.lvish_task.specs.declared.frame.Frame.{Frame}
use Rattle.lvish_task.specs.declared.stack.Stack.{Stack}
use Rattle.lvish_task.specs.Run.{Goes, placed, instructions, instruction, landed, is_end, is_frame_over, jump_in, returned, settled, flat_turn, frame_turn, instruction_turn, went, run, assigned, operand_value, expression_value}
use Rattle.lvish_task.specs.declared.stride.Progress.{Progress}
use Rattle.lvish_task.specs.Meaning.{chosen}
use Rattle.lvish_task.specs.Stride.{let_taken, taken, at_progress}
use Rattle.lvish_task.specs.laws.Landing.{landing_here, landing_jump}
use Rattle.lvish_task.specs.laws.Settling.{stays, pending, run_pending}

-- ---- what is asked next

module _ (c : flat.Code) where
  -- a frame at a jump lands where the jump leads
  jumps : (f : Frame) (n : ℕ) → instruction c f ≡ Some (GoOn n) → landed c f ≡ landed c (placed f (f.place + 1 + n))
  jumps f n e = ap (placed f) (landing_jump (instructions c f) f.place n (ap jump_in e))

  returned_jump : (f : Frame) (below : List Frame) (left n : ℕ) → instruction c f ≡ Some (GoOn n) → returned c f below left ≡ returned c (placed f (f.place + 1 + n)) below left
  returned_jump f [] left n e = ap (λ g. record { left = left; top = g; below = [] }) (jumps f n e)
  returned_jump f (h ∷ below) left n e = ap (λ g. if is_frame_over c g then returned c h below left else record { left = left; top = g; below = h ∷ below }) (jumps f n e)

  jump_same : (l : Stack) (n : ℕ) → instruction c l.top ≡ Some (GoOn n) → run c l.left (placed l.top (l.top.place + 1 + n)) l.below ≡ run c l.left l.top l.below
  jump_same l n e =
      run_pending c l.left (placed l.top (l.top.place + 1 + n)) l.below
      ∙ ap (pending c l.left) (sym (returned_jump l.top l.below l.left n e))
      ∙ sym (run_pending c l.left l.top l.below)

  -- a frame without events stays at an instruction that is neither a jump nor an end
  over_at : (f : Frame) (es : List Event) → f.events ≡ es → es ≡ [] → is_end (instruction c f) ≡ false → is_frame_over c f ≡ false
  over_at f [] e none more = ap (λ es. (length es == 0) && is_end (instruction c f)) e ∙ more
  over_at f (x ∷ es) e none more = absurd cc

  at_rest : (l : Stack) → l.top.events ≡ [] → jump_in (instruction c l.top) ≡ None → is_end (instruction c l.top) ≡ false → settled c l ≡ l
  at_rest l none here more = stays c l.top l.below l.left (ap (placed l.top) (landing_here (instructions c l.top) l.top.place here)) (over_at l.top [] none refl more)

  step_same : (l : Stack) (k : ℕ) (t : Frame) (below : List Frame) → l.left ≡ suc k → settled c l ≡ l → flat_turn c l ≡ Goes t below → run c k t below ≡ run c l.left l.top l.below
  step_same l k t below left rest e =
      sym (run_pending c l.left l.top l.below ∙ ap (pending c l.left) rest ∙ ap (λ n. pending c n l) left ∙ ap (went c l (run c k)) e)

  turn_at : (l : Stack) (i : Option Instruction) → l.top.events ≡ [] → instruction c l.top ≡ i → flat_turn c l ≡ instruction_turn c l.top l.below i
  turn_at l i none is = ap (frame_turn c l.top l.below) none ∙ ap (instruction_turn c l.top l.below) is

  -- what is asked next is the same
  abbrev AsksAlike : Stack → Stack → Type 0
  AsksAlike l m = run c m.left m.top m.below ≡ run c l.left l.top l.below

  statement_same : (l m : Stack) (i : Instruction) → 0 < l.left → l.top.events ≡ [] → instruction c l.top ≡ Some i → jump_in (Some i) ≡ None → is_end (Some i) ≡ false → instruction_turn c l.top l.below (Some i) ≡ Goes m.top m.below → m.left ≡ l.left - 1 → AsksAlike l m
  statement_same l m i some none is here more goes less = by l.left refl some
    where
      rest : settled c l ≡ l
      rest = at_rest l none (ap jump_in is ∙ here) (ap is_end is ∙ more)

      by : (n : ℕ) → l.left ≡ n → 0 < n → AsksAlike l m
      by zero left z = absurd (omega (arith, z))
      by (suc k) left z =
          let fewer : m.left ≡ k = omega (arith, less, left) in
          ap (λ n. run c n m.top m.below) fewer ∙ step_same l k m.top m.below left rest (turn_at l (Some i) none is ∙ goes)

  -- a frame that goes on within its instructions
  abbrev Alike : Stack → Progress → List ℤ → Progress × List ℤ → Type 0
  Alike l p vs q = AsksAlike (at_progress l p vs) (at_progress l q.0 q.1)

  let_same : (l : Stack) (p : Progress) (vs : List ℤ) (q : Progress × List ℤ) (x : ℕ) (e : Expression) (r : Result ℤ ErrorKind) → 0 < p.left → l.top.events ≡ [] → instruction c (at_progress l p vs).top ≡ Some (Let x e) → expression_value vs e ≡ r → let_taken p vs x r ≡ Some q → Alike l p vs q
  let_same l p vs q x e (Ok n) some none is value h = subst (Alike l p vs) (same_Some _ _ h) (statement_same (at_progress l p vs) (at_progress l (record { left = p.left - 1; place = p.place + 1 }) (slice_set vs x n)) (Let x e) some none is refl refl (ap (assigned (at_progress l p vs).top l.below x) value) refl)
  let_same l p vs q x e (Err k) some none is value h = absurd cc

  pub taken_same : (l : Stack) (p : Progress) (vs : List ℤ) (q : Progress × List ℤ) (i : Option Instruction) → 0 < p.left → l.top.events ≡ [] → instruction c (at_progress l p vs).top ≡ i → taken p vs i ≡ Some q → Alike l p vs q
  taken_same l p vs q (Some (Let x e)) some none is h = let_same l p vs q x e (expression_value vs e) some none is refl h
  taken_same l p vs q (Some (SkipIfZero a n)) some none is h = subst (Alike l p vs) (same_Some _ _ h) (statement_same (at_progress l p vs) (at_progress l (record { left = p.left - 1; place = chosen (operand_value vs a) (p.place + 1) (p.place + 1 + n) }) vs) (SkipIfZero a n) some none is refl refl refl refl)
  taken_same l p vs q (Some (BackUnlessZero a n)) some none is h = subst (Alike l p vs) (same_Some _ _ h) (statement_same (at_progress l p vs) (at_progress l (record { left = p.left - 1; place = chosen (operand_value vs a) (p.place - n) (p.place + 1) }) vs) (BackUnlessZero a n) some none is refl refl refl refl)
  taken_same l p vs q (Some (GoOn n)) some none is h = subst (Alike l p vs) (same_Some _ _ h) (jump_same (at_progress l p vs) n is)
  taken_same l p vs q (Some (Ask a)) some none is h = absurd cc
  taken_same l p vs q (Some (Call k os)) some none is h = absurd cc
  taken_same l p vs q (Some Return) some none is h = absurd cc
  taken_same l p vs q None some none is h = absurd cc

-- ---- what grows less

-- no more local statements are left than before
abbrev Fewer : Progress → Progress × List ℤ → Type 0
Fewer p q = q.0.left ≤ p.left

let_fewer : (p : Progress) (vs : List ℤ) (q : Progress × List ℤ) (x : ℕ) (r : Result ℤ ErrorKind) → let_taken p vs x r ≡ Some q → Fewer p q
let_fewer p vs q x (Ok n) h = subst (Fewer p) (same_Some _ _ h) (omega arith)
let_fewer p vs q x (Err k) h = absurd cc

pub taken_fewer : (p : Progress) (vs : List ℤ) (q : Progress × List ℤ) (i : Option Instruction) → taken p vs i ≡ Some q → Fewer p q
taken_fewer p vs q (Some (Let x e)) h = let_fewer p vs q x (expression_value vs e) h
taken_fewer p vs q (Some (SkipIfZero a n)) h = subst (Fewer p) (same_Some _ _ h) (omega arith)
taken_fewer p vs q (Some (BackUnlessZero a n)) h = subst (Fewer p) (same_Some _ _ h) (omega arith)
taken_fewer p vs q (Some (GoOn n)) h = subst (Fewer p) (same_Some _ _ h) (omega arith)
taken_fewer p vs q (Some (Ask a)) h = absurd cc
taken_fewer p vs q (Some (Call k os)) h = absurd cc
taken_fewer p vs q (Some Return) h = absurd cc
taken_fewer p vs q None h = absurd cc

-- the local statements that are left, and then the places behind
abbrev pub to_take : List Instruction → Progress → ℕ
to_take is p = p.left * suc (length is) + (length is - p.place)

one_less : (count l m p q : ℕ) → 0 < l → m ≡ l - 1 → m * suc count + (count - q) < l * suc count + (count - p)
one_less count zero m p q some less = absurd (omega (arith, some))
one_less count (suc k) m p q some less =
    let is : m ≡ k = omega (arith, less) in
    let more : suc k * suc count ≡ k * suc count + suc count = suc-mul k (suc count) in
    let same : m * suc count ≡ k * suc count = ap (λ n. n * suc count) is in
    omega (arith, more, same)

-- less is left to take
abbrev Less : List Instruction → Progress → Progress × List ℤ → Type 0
Less is p q = to_take is q.0 < to_take is p

let_less : (is : List Instruction) (p : Progress) (vs : List ℤ) (q : Progress × List ℤ) (x : ℕ) (r : Result ℤ ErrorKind) → 0 < p.left → let_taken p vs x r ≡ Some q → Less is p q
let_less is p vs q x (Ok n) some h = subst (Less is p) (same_Some _ _ h) (one_less (length is) p.left (p.left - 1) p.place (p.place + 1) some refl)
let_less is p vs q x (Err k) some h = absurd cc

pub taken_less : (is : List Instruction) (p : Progress) (vs : List ℤ) (q : Progress × List ℤ) (i : Option Instruction) → 0 < p.left → slice_get is p.place ≡ i → taken p vs i ≡ Some q → Less is p q
taken_less is p vs q (Some (Let x e)) some at h = let_less is p vs q x (expression_value vs e) some h
taken_less is p vs q (Some (SkipIfZero a n)) some at h = subst (Less is p) (same_Some _ _ h) (one_less (length is) p.left (p.left - 1) p.place _ some refl)
taken_less is p vs q (Some (BackUnlessZero a n)) some at h = subst (Less is p) (same_Some _ _ h) (one_less (length is) p.left (p.left - 1) p.place _ some refl)
taken_less is p vs q (Some (GoOn n)) some at h =
    let within : p.place < length is = slice_get_within is p.place (GoOn n) at in
    subst (Less is p) (same_Some _ _ h) (omega (arith, within))
taken_less is p vs q (Some (Ask a)) some at h = absurd cc
taken_less is p vs q (Some (Call k os)) some at h = absurd cc
taken_less is p vs q (Some Return) some at h = absurd cc
taken_less is p vs q None some at h = absurd cc

pub without_events : (es : List Event) → true ≡ (length es == 0) → es ≡ []
without_events [] e = refl
without_events (x ∷ es) e = absurd (omega (arith, eqb-true (length (x ∷ es)) 0 (sym e)))
