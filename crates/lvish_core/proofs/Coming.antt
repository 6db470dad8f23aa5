-- What comes next for a handler, over any table.
use Rattle.std.proofs.Common.{◌≡◌, ◌↔◌, inl, inr, suc, Bool, true, List, ◌∷◌, [], Some, slice_get, sym, ap, ◌∙◌, if◌then◌else◌, arith, Contains}
use Rattle.std.proofs.lemmas.Option.{option_and_then_some, same_Some}
use Rattle.std.proofs.lemmas.Bool.{cases_Bool}
use Rattle.lvish_core.specs.Vocabulary.{Label, Held}
use Rattle.lvish_calculus.specs.Machine.{Machine, IsLawful}
use Rattle.lvish_calculus.specs.Calculus.{Post}
use Rattle.lvish_names.specs.Names.{Handler, same_handler}
use Rattle.lvish_calculus.proofs.Names.{same_handler-true}
use Rattle.lvish_variable.specs.Variable.{VariableView as Variable, logged}
use Rattle.lvish_handlers.specs.Handlers.{HandlersView as Handlers, held_as, next_of}
use Rattle.lvish_picture.specs.Picture.{Table, IsPictured, table_picture}
use Rattle.lvish_picture.specs.Laws.{IsHandlerSeated, PostsAreHeld}
use Rattle.lvish_core.specs.Core.{IsNext}

-- the handler that is found under a name has it
found : {E : Type 0} (eq : E → E → Bool) → ((a b : E) → (eq a b ≡ true) ↔ (a ≡ b)) → (held : List (Held E)) (name : Handler E) (h : Held E) → held_as eq held name ≡ Some h → Contains held h × (h.name ≡ name)
found eq is [] name h e = absurd (cc e)
found {E} eq is (y ∷ ys) name h e = elim (cases_Bool (same_handler eq name y.name)) [
  | inl b ↦
      let here : y ≡ h = same_Some _ _ (sym (ap (λ q. if q then Some y else held_as eq ys name) b) ∙ e) in
      ((0, omega arith, here), ap (λ (x : Held E). x.name) (sym here) ∙ sym (same_handler-true eq is name y.name b))
  | inr b ↦
      let z = found eq is ys name h (sym (ap (λ q. if q then Some y else held_as eq ys name) b) ∙ e) in
      ((suc z.0.0, omega (arith, z.0.1), z.0.2), z.1)
]

module _ {S E R A L : Type 0} (M : Machine S E R A L) (ok : IsLawful M) (c : Table S E L) where
  -- what comes next for a handler comes beside the variable where the table holds it
  pub coming : (name : Handler E) (e : E) (z : IsNext M.event_same c name e) → (h : Held E) × IsHandlerSeated c z.variable z.at z.beside h × (h.name ≡ name)
  coming name e z = option_and_then_some (λ (h : Held E). slice_get (logged (z.at).log) h.handed) (held_as M.event_same (z.beside).held name) e z.next (λ h is at.
      let there = found M.event_same ok.event_same_is (z.beside).held name h is in
      (h, record { at = z.at_is; beside = z.beside_is; held = there.0 }, there.1))

  -- only one event comes next
  pub next_one : PostsAreHeld M → (xs : List (Label E)) → IsPictured M c xs → (name : Handler E) (e f : E) → IsNext M.event_same c name e → IsNext M.event_same c name f → e ≡ f
  next_one posts xs k name e f y z =
      let h = coming name e y in
      let g = coming name f z in
      let p = posts xs c y.variable y.at y.beside h.0 k h.1 in
      let q = posts xs c z.variable z.at z.beside g.0 k g.1 in
      let pool : (h.0).pool ≡ (g.0).pool = ap (λ (r : Post). r.pool) (same_Some _ _ (sym p.0 ∙ ap (table_picture M c).handlers (h.2 ∙ sym g.2) ∙ q.0)) in
      let v : y.variable ≡ z.variable = same_Some _ _ (sym p.1 ∙ ap M.pool_variable pool ∙ q.1) in
      let xx : y.at ≡ z.at = same_Some _ _ (sym y.at_is ∙ ap (λ u. slice_get c.variables u) v ∙ z.at_is) in
      let hh : y.beside ≡ z.beside = same_Some _ _ (sym y.beside_is ∙ ap (λ u. slice_get c.handlers u) v ∙ z.beside_is) in
      same_Some _ _ (sym y.next ∙ ap (λ (x : Variable S E). next_of M.event_same x.log (y.beside).held name) xx ∙ ap (λ (hs : Handlers E). next_of M.event_same (z.at).log hs.held name) hh ∙ z.next)
