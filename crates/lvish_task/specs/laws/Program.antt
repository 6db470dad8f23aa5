-- Flat code is a program, and its local states are told apart.
use Rattle.std.proofs.Common.{◌≡◌, ℕ, Bool, ◌&&◌, nat_eq, nat_lt, [], ◌∷◌, length, Option, Some, None, refl, sym, ◌∙◌, ap, subst, arith, IsSome}
use Rattle.std.specs.Prelude.{reverse}
use Rattle.std.specs.List.{slice_get}
use Rattle.std.specs.Ordering.{int_eq}
use Rattle.std.specs.Cmp.Rules.{signed_items}
use Rattle.std.specs.Cmp.Lexicographic.{pointwise}
use Rattle.std.proofs.lemmas.Bool.{and_parts}
use Rattle.std.proofs.lemmas.Bool.Decides.{Decides-eqb}
use Rattle.std.proofs.lemmas.List.{reverse-reverse}
use Rattle.std.proofs.lemmas.Option.{slice_get_within, slice_get-get_or}
use borrow.Author.Tests.{ltb-true}
use Rattle.lvish_lattice.specs.Lattice.{IsIdentity}
use Rattle.lvish_compound.specs.declared.event.Event.{Event}
use Rattle.lvish_compound.specs.AnyReads.{Member}
use Rattle.lvish_compound.specs.States.{joined}
use Rattle.lvish_calculus.specs.Program.{IsProgram}
use Rattle.lvish_code.specs.laws.Lists.{list_all_get}
use Rattle.lvish_task.specs.declared.frame.Frame.{Frame}
use Rattle.lvish_task.specs.declared.stack.Stack.{Stack}
use Rattle.lvish_task.specs.declared.script_code.ScriptCode.{ScriptCode}
use Rattle.lvish_task.specs.Run.{functions}
use Rattle.lvish_task.specs.laws.Fits.{RequestFits, request_fits, asked_again}

-- ---- identity

lists_identical : {X : Type 0} (same : X → X → Bool) → IsIdentity same → IsIdentity (pointwise same)
lists_identical same is [] [] e = refl
lists_identical same is (x ∷ xs) (y ∷ ys) e =
    let h = and_parts (same x y) (pointwise same xs ys) e in
    let head = is x y h.0 in
    let tail = lists_identical same is xs ys h.1 in
    cc
lists_identical same is xs ys e = absurd cc

pub frame_identical : (event_eq : Event → Event → Bool) → IsIdentity event_eq → (same : Frame → Frame → Bool) → ((a b : Frame) → same a b ≡ (nat_eq a.place b.place && (nat_eq a.procedure b.procedure && (pointwise int_eq a.values b.values && (nat_eq a.each b.each && pointwise event_eq a.events b.events))))) → IsIdentity same
frame_identical event_eq event_is same is a b e =
    let g = and_parts (nat_eq a.place b.place) _ (sym (is a b) ∙ e) in
    let h = and_parts (nat_eq a.procedure b.procedure) _ g.1 in
    let k = and_parts (pointwise int_eq a.values b.values) _ h.1 in
    let m = and_parts (nat_eq a.each b.each) _ k.1 in
    let place : a.place ≡ b.place = (Decides-eqb _ _).0 g.0 in
    let procedure : a.procedure ≡ b.procedure = (Decides-eqb _ _).0 h.0 in
    let values : a.values ≡ b.values = (signed_items a.values b.values).0 k.0 in
    let each : a.each ≡ b.each = (Decides-eqb _ _).0 m.0 in
    let events : a.events ≡ b.events = lists_identical event_eq event_is a.events b.events m.1 in
    λ i. record { place = place i; procedure = procedure i; values = values i; each = each i; events = events i }

pub local_identical : (frame_eq : Frame → Frame → Bool) → IsIdentity frame_eq → (same : Stack → Stack → Bool) → ((a b : Stack) → same a b ≡ (nat_eq a.left b.left && (frame_eq a.top b.top && pointwise frame_eq (reverse a.below) (reverse b.below)))) → IsIdentity same
local_identical frame_eq frame_is same is a b e =
    let g = and_parts (nat_eq a.left b.left) _ (sym (is a b) ∙ e) in
    let h = and_parts (frame_eq a.top b.top) _ g.1 in
    let left : a.left ≡ b.left = (Decides-eqb _ _).0 g.0 in
    let top = frame_is a.top b.top h.0 in
    let turned = lists_identical frame_eq frame_is (reverse a.below) (reverse b.below) h.1 in
    let below : a.below ≡ b.below = sym (reverse-reverse a.below) ∙ ap reverse turned ∙ reverse-reverse b.below in
    λ i. record { left = left i; top = top i; below = below i }

-- ---- the program

some_there : (o : Option ℕ) → IsSome o → (v : ℕ) × (o ≡ Some v)
some_there None h = absurd cc
some_there (Some v) h = (v, refl)

pub code_is_program : (c : ScriptCode) → IsProgram joined Member (functions c)
code_is_program c = record {
  known = λ k v e. ltb-true _ _ (list_all_get (λ w. nat_lt w (length c.flat.kinds)) c.flat.pools k v c.flat.sound.pools_known e);
  in_a_row = λ j k h some.
      let v = some_there (slice_get c.flat.pools k) some in
      let w = slice_get_within c.flat.pools k v.0 v.1 in
      subst IsSome (sym (slice_get-get_or c.flat.pools j 0 (omega arith))) refl;
  puts = λ l v d e. subst (RequestFits c.flat) e (request_fits c.flat l);
  gets = λ l v r e. subst (RequestFits c.flat) e (request_fits c.flat l);
  adds = λ l k p e. (subst (RequestFits c.flat) e (request_fits c.flat l)).0;
  freezes = λ l v ps e. let f = subst (RequestFits c.flat) e (request_fits c.flat l) in (f.0, f.1);
  repeats = λ l. asked_again c.flat l;
}
