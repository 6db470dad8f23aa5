-- What puts and gets ask for that take no memory.
use Rattle.std.proofs.Common.{◌≡◌, ℕ, ℤ, true, IfOk, IfSome, Some, Result, Option, Ok, Err, sym, ap, ◌∙◌, subst}
use Rattle.std.specs.Result.{result_ok}
use Rattle.std.specs.Prelude.{List}
use Rattle.lvish_calculus.specs.declared.request.Request.TheVariants as ask
use Rattle.lvish_compound.specs.Places.{test_fits}
use Rattle.lvish_code.specs.Flat as flat
use Rattle.lvish_task.specs.Vocabulary.{Any, AnyRead, Place, Test, Operand, Target, Wanted, Action, Put, Get, Instruction, Ask}
use Rattle.lvish_task.specs.declared.stack.Stack.{Stack}
use Rattle.lvish_task.specs.States.{put_at, read_at}
use Rattle.lvish_task.specs.Run.{AsksBy, operand_value, target_place, wanted_test, putting, getting, run}
use Rattle.lvish_task.proofs.ReadFound.{read_found}

-- what a call gives, if it gives something
pub given : {A E : Type 0} (r : Result A E) (o : Option A) (a : A) → o ≡ result_ok r → IfOk r (λ s. s ≡ a) → IfSome o (λ s. Some a ≡ Some s)
given (Ok x) o a e h = subst (λ o. IfSome o (λ s. Some a ≡ Some s)) (sym e) (ap (λ x. Some x) (sym h))
given (Err x) o a e h = subst (λ o. IfSome o (λ s. Some a ≡ Some s)) (sym e) tt

-- the same of a call that gives what there is, if there is anything
pub given_there : {A E : Type 0} (r : Result A E) (o : Option A) (a : Option A) → o ≡ result_ok r → IfOk r (λ s. a ≡ Some s) → IfSome o (λ s. a ≡ Some s)
given_there (Ok x) o a e h = subst (λ o. IfSome o (λ s. a ≡ Some s)) (sym e) h
given_there (Err x) o a e h = subst (λ o. IfSome o (λ s. a ≡ Some s)) (sym e) tt

-- a place that holds all numbers of a test is read by it
pub read_of : (p q : Place) (t u : Test) (f : test_fits q u ≡ true) → p ≡ q → t ≡ u → read_at p t ≡ Some (record { place = q; test = u; fits = f })
read_of p q t u f e h = sym (read_found p t (record { place = q; test = u; fits = f }) (sym e) (sym h))

module _ (c : flat.Code) (l : Stack) (i : Instruction) (a : Action) (asks : AsksBy c l i) (is : i ≡ Ask a) where
  -- a task that stands at a put asks for it
  put_asked : (v : ℕ) (t : Target) (o : Operand) (vs : List ℤ) (n : ℤ) (s : Any) → a ≡ Put v t o → vs ≡ l.top.values → n ≡ operand_value vs o → put_at (target_place vs t) n ≡ Some s → run c l.left l.top l.below ≡ record { request = ask.Put v s; at = l }
  put_asked v t o vs n s action values number state =
      let by : AsksBy c l (Ask (Put v t o)) = subst (AsksBy c l) (is ∙ ap Ask action) asks in
      let same : put_at (target_place l.top.values t) (operand_value l.top.values o) ≡ Some s =
      ap (λ xs. put_at (target_place xs t) (operand_value xs o)) (sym values) ∙ ap (put_at (target_place vs t)) (sym number) ∙ state in
      by (ask.Put v s) (sym (ap (putting v) same))

  pub put_request : (v : ℕ) (t : Target) (o : Operand) (vs : List ℤ) (n : ℤ) (s : Any) → a ≡ Put v t o → vs ≡ l.top.values → n ≡ operand_value vs o → put_at (target_place vs t) n ≡ Some s → ask.Put v s ≡ (run c l.left l.top l.below).request
  put_request v t o vs n s action values number state = λ k. (sym (put_asked v t o vs n s action values number state) k).request

  pub put_place : (v : ℕ) (t : Target) (o : Operand) (vs : List ℤ) (n : ℤ) (s : Any) → a ≡ Put v t o → vs ≡ l.top.values → n ≡ operand_value vs o → put_at (target_place vs t) n ≡ Some s → l ≡ (run c l.left l.top l.below).at
  put_place v t o vs n s action values number state = λ k. (sym (put_asked v t o vs n s action values number state) k).at

  -- and one that stands at a get asks for that
  get_asked : (x v : ℕ) (t : Target) (w : Wanted) (vs : List ℤ) (r : AnyRead) → a ≡ Get x v t w → vs ≡ l.top.values → read_at (target_place vs t) (wanted_test vs w) ≡ Some r → run c l.left l.top l.below ≡ record { request = ask.Get v r; at = l }
  get_asked x v t w vs r action values read =
      let by : AsksBy c l (Ask (Get x v t w)) = subst (AsksBy c l) (is ∙ ap Ask action) asks in
      let same : read_at (target_place l.top.values t) (wanted_test l.top.values w) ≡ Some r =
      ap (λ xs. read_at (target_place xs t) (wanted_test xs w)) (sym values) ∙ read in
      by (ask.Get v r) (sym (ap (getting v) same))

  pub get_request : (x v : ℕ) (t : Target) (w : Wanted) (vs : List ℤ) (r : AnyRead) → a ≡ Get x v t w → vs ≡ l.top.values → read_at (target_place vs t) (wanted_test vs w) ≡ Some r → ask.Get v r ≡ (run c l.left l.top l.below).request
  get_request x v t w vs r action values read = λ k. (sym (get_asked x v t w vs r action values read) k).request

  pub get_place : (x v : ℕ) (t : Target) (w : Wanted) (vs : List ℤ) (r : AnyRead) → a ≡ Get x v t w → vs ≡ l.top.values → read_at (target_place vs t) (wanted_test vs w) ≡ Some r → l ≡ (run c l.left l.top l.below).at
  get_place x v t w vs r action values read = λ k. (sym (get_asked x v t w vs r action values read) k).at
