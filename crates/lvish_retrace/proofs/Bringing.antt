-- A step's entries were brought by this step.
use Rattle.std.proofs.Common.{◌≡◌, ◌≤◌, ◌<◌, ◌⊎◌, inl, inr, ℕ, zero, suc, List, [], ◌∷◌, ◌++◌, length, Some, refl, sym, ap, ◌∙◌, arith, Contains, append_assoc}
use Rattle.std.proofs.lemmas.Option.{slice_get_within, none-some}
use Rattle.std.specs.List.{slice_get}
use Rattle.lvish_calculus.specs.declared.label.Label.{Label}
use Rattle.lvish_calculus.specs.declared.label.Label.TheVariants.{Act}
use Rattle.lvish_calculus.specs.Machine.{Machine}
use Rattle.lvish_calculus.specs.Handing.{IsAmong}
use Rattle.lvish_variable.specs.declared.entry.Entry.{Entry}
use Rattle.lvish_variable.specs.Variable.{VariableView as Variable}
use Rattle.lvish_core.specs.Core.{CoreView, IsRunTo}
use Rattle.lvish_core.specs.CoreLaws.{EntriesNameTheirPuts, PutsHaveTheirEntries}
use Rattle.lvish_core.specs.Puts.{IsBroughtAfter}
use Rattle.lvish_retrace.specs.declared.bringer.Bringer.{Bringer}
use Rattle.lvish_retrace.specs.Brought.{IsBringer, AreBringers, entry_of}
use Rattle.lvish_retrace.proofs.Lists.{same_before, last_of, stays_at}

-- what stands at a place is in the list
contained_at : {X : Type 0} (xs : List X) (k : ℕ) (x : X) → slice_get xs k ≡ Some x → Contains xs x
contained_at [] k x at = absurd (none-some x at)
contained_at (y ∷ xs) zero x at = (0, omega arith, cc)
contained_at (y ∷ xs) (suc k) x at = let g = contained_at xs k x at in (suc g.0, omega (arith, g.1), g.2)

module _ {P S E R A L : Type 0} (M : Machine S E R A L) (named : EntriesNameTheirPuts P M) (each : PutsHaveTheirEntries P M) where
  -- a put of a run is one of the run with one step more
  pub stays : (xs : List (Label E)) (l : Label E) (b : Bringer E) → IsBringer M xs b → IsBringer M (xs ++ l ∷ []) b
  stays xs l b h = record {
    before = h.before;
    step = h.step;
    put = record {
      after = h.put.after ++ l ∷ [];
      is = ap (λ zs. zs ++ l ∷ []) h.put.is ∙ append_assoc h.before (Act b.task ∷ h.put.after) (l ∷ []);
      put = h.put.put;
      introduces = h.put.introduces;
    };
  }

  -- an entry behind those that the log had before the last step was brought by this step
  pub by_last : (old new : CoreView P S E L) (xs : List (Label E)) (l : Label E) → IsRunTo M old xs → IsRunTo M new (xs ++ l ∷ []) → (x y : Variable S E) (more : List (Entry E)) (b : Bringer E)
      → slice_get old.table.variables b.variable ≡ Some x → slice_get new.table.variables b.variable ≡ Some y → y.log ≡ x.log ++ more
      → (k : ℕ) → length x.log ≤ k → slice_get y.log k ≡ Some (entry_of b) → b.step ≡ length xs → IsBringer M (xs ++ l ∷ []) b
  by_last old new xs l run_old run_new x y more b at_x at_y grown k behind at step =
      let found = named new (xs ++ l ∷ []) run_new b.variable y at_y (entry_of b) (contained_at y.log k (entry_of b) at) in
      by found.0 found.1 (last_of found.1.after)
    where
      by : (before : List (Label E)) (put : IsBroughtAfter M before (xs ++ l ∷ []) b.variable (entry_of b)) → (put.after ≡ []) ⊎ ((ys : List (Label E)) × (z : Label E) × (put.after ≡ ys ++ z ∷ [])) → IsBringer M (xs ++ l ∷ []) b
      by before put (inl none) =
          let here : xs ≡ before = same_before xs before l (Act b.task) (put.is ∙ ap (λ zs. before ++ Act b.task ∷ zs) none) in
          record { before = before; step = ap length (sym here) ∙ sym step; put = put }
      by before put (inr (ys, z, some)) =
          let earlier : xs ≡ before ++ Act b.task ∷ ys = same_before xs (before ++ Act b.task ∷ ys) l z (put.is ∙ ap (λ zs. before ++ Act b.task ∷ zs) some ∙ sym (append_assoc before (Act b.task ∷ ys) (z ∷ []))) in
          let was = each old xs run_old b.variable x at_x before ys b.task b.event earlier put.introduces in
          let is = each new (xs ++ l ∷ []) run_new b.variable y at_y before put.after b.task b.event put.is put.introduces in
          let place = was.2.index in
          let within : place < length x.log = slice_get_within x.log place _ was.2.at in
          let there : slice_get y.log place ≡ slice_get x.log place = ap (λ zs. slice_get zs place) grown ∙ stays_at x.log more place within in
          let one : place ≡ is.2.index = is.2.only place _ (there ∙ was.2.at) refl in
          let other : k ≡ is.2.index = is.2.only k (entry_of b) at refl in
          absurd (omega (arith, one, other, within, behind))

  -- the puts of a whole run
  pub whole : (c : CoreView P S E L) (xs : List (Label E)) (bs : List (Bringer E)) → IsRunTo M c xs → ((b : Bringer E) → IsAmong b bs → IsBringer M xs b)
      → ((v : ℕ) (x : Variable S E) → slice_get c.table.variables v ≡ Some x → (k : ℕ) (e : Entry E) → slice_get x.log k ≡ Some e → (b : Bringer E) × IsAmong b bs × (b.variable ≡ v) × (b.event ≡ e.event))
      → AreBringers M c.table.variables xs bs
  whole c xs bs run sound noted = record {
    each = sound;
    all = λ v x at before after t e cut new. let is = each c xs run v x at before after t e cut new in noted v x at is.2.index _ is.2.at;
  }
