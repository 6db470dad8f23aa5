-- Whether a request can be made, told by the variable's state, by cursors and by counts.
use Rattle.std.proofs.Common.{◌≡◌, ◌↔◌, ◌<◌, ℕ, Bool, false, List, length, Option, Some, sym, ap, ◌∙◌, get_or, is_some, option_map, unwrap_or, inl, inr, ◌+◌, min, refl, subst, arith, All, slice_get, slice_index, IsTrue}
use Rattle.std.proofs.lemmas.Bool.{both_ways, cases_lt}
use Rattle.std.proofs.lemmas.Option.{same_Some, slice_get_read, slice_get_within}
use Rattle.std.proofs.lemmas.List.Elements.{Contains-get_or}
use Rattle.lvish_core.specs.Vocabulary.{Get, Freeze, HandlerPlace}
use Rattle.lvish_calculus.specs.Machine.{Machine, IsOf}
use Rattle.lvish_calculus.specs.Calculus.{IsReady, IsQuiescent}
use Rattle.lvish_names.specs.Names.{Handler}
use Rattle.lvish_variable.specs.Variable.{VariableView as Variable}
use Rattle.lvish_handlers.specs.Handlers.{HandlersView as Handlers, IsWithin}
use Rattle.lvish_picture.specs.Counts.{FreezesByCounts}
use Rattle.lvish_core.specs.Core.{CoreView, state}
use Rattle.lvish_core.specs.Kept.{IsKept}
use Rattle.lvish_core.specs.Reads.{AreWithin, IsAllHanded}

module _ {P S E R A L : Type 0} (M : Machine S E R A L) (n running : ℕ) (places : List (Handler E × HandlerPlace)) (c : CoreView P S E L) (k : IsKept M n running places c) where
  -- a variable that the program has is in the table
  pub there : (v : ℕ) (x : Variable S E) → v < n → x ≡ get_or c.table.variables v x → slice_get c.table.variables v ≡ Some x
  there v x lt is = slice_get_read c.table.variables n v x (sym k.there) lt is

  -- and so are its handlers
  pub beside : (v : ℕ) (hs : Handlers E) → v < n → hs ≡ get_or c.table.handlers v hs → slice_get c.table.handlers v ≡ Some hs
  beside v hs lt is = slice_get_read c.table.handlers n v hs (sym (k.standing.pictured.table.beside ∙ k.there)) lt is

  -- a get is ready where its read has an answer in the variable's state
  pub get_is_ready : (v : ℕ) (r : R) (x : Variable S E) → v < n → x ≡ get_or c.table.variables v x → (o : Option A) → o ≡ M.answer r x.state → (b : Bool) → b ≡ is_some o → IsTrue b ↔ IsReady M (state M c) (Get v r)
  get_is_ready v r x lt is o answer b e =
      let same : b ≡ is_some (M.answer r ((state M c).content v)) =
      e ∙ ap is_some answer ∙ ap (λ o. is_some (M.answer r (unwrap_or (option_map (λ (x : Variable S E). x.state) o) M.bottom))) (sym (there v x lt is)) in
      (λ z. sym same ∙ z, λ z. same ∙ z)

  -- the pools that a freeze names are counted
  pub counted_pools : (v : ℕ) (hs : Handlers E) → v < n → hs ≡ get_or c.table.handlers v hs → (pools : List ℕ) → IsOf M pools v → All (λ p. p < length hs.running) pools
  counted_pools v hs lt is pools of i d less = (k.counted v hs (get_or pools i d) (beside v hs lt is) (of (get_or pools i d) (Contains-get_or pools i d less))).0

  module _ (quiet : FreezesByCounts M) (v : ℕ) (x : Variable S E) (hs : Handlers E) (lt : v < n) (at : x ≡ get_or c.table.variables v x) (by : hs ≡ get_or c.table.handlers v hs) (pools : List ℕ) (of : IsOf M pools v) where
    told : (All (λ h. h.handed ≡ length x.log) hs.held × All (λ p. slice_index hs.running p ≡ 0) pools) ↔ IsQuiescent M (state M c) v pools
    told = quiet k.standing.run c.table v x hs pools k.standing.pictured k.counted (there v x lt at) (beside v hs lt by) of

    -- a freeze is ready where the handlers were handed the whole log and no task runs in the pools
    pub freeze_is_ready : All (λ h. h.handed ≡ length x.log) hs.held → (b : Bool) → IsTrue b ↔ All (λ p. slice_index hs.running p ≡ 0) pools → IsTrue b ↔ IsReady M (state M c) (Freeze v pools)
    freeze_is_ready drained b ended = (λ z. told.0 (drained, ended.0 z), λ z. ended.1 (told.1 z).1)

    -- and it isn't, where a handler wasn't
    pub freeze_waits : (b : Bool) → IsTrue b ↔ All (λ h. h.handed ≡ length x.log) hs.held → b ≡ false → IsTrue b ↔ IsReady M (state M c) (Freeze v pools)
    freeze_waits b drained waits = (λ z. absurd (both_ways b waits z), λ z. drained.1 (told.1 z).0)

-- ---- whether every handler was handed its variable's whole log, variable by variable

-- those of the first n variables were
abbrev pub HandedBelow : {S E : Type 0} → List (Variable S E) → List (Handlers E) → ℕ → Type 0
HandedBelow {S} {E} xs hss n = (v : ℕ) (x : Variable S E) (hs : Handlers E) → v < n → slice_get xs v ≡ Some x → slice_get hss v ≡ Some hs → All (λ h. h.handed ≡ length x.log) hs.held

module _ {S E : Type 0} (xs : List (Variable S E)) (hss : List (Handlers E)) where
  module _ (n : ℕ) (x : Variable S E) (hs : Handlers E) (at : (d : Variable S E) → x ≡ get_or xs n d) (low : n < length xs) (by : (d : Handlers E) → hs ≡ get_or hss n d) (under : n < length hss) where
    at_is : slice_get xs n ≡ Some x
    at_is = slice_get_read xs (length xs) n x refl low (at x)

    by_is : slice_get hss n ≡ Some hs
    by_is = slice_get_read hss (length hss) n hs refl under (by hs)

    pub within_here : AreWithin xs hss → IsWithin hs x.log
    within_here all = all n x hs at_is by_is

    -- one variable more
    pub one_more : HandedBelow xs hss n → All (λ h. h.handed ≡ length x.log) hs.held → (m : ℕ) → m ≡ n + 1 → HandedBelow xs hss m
    one_more below here m more v y ks lt y_is ks_is = elim (cases_lt v n) [
      | inl less ↦ below v y ks less y_is ks_is
      | inr ge ↦
          let v_is : n ≡ v = omega (arith, lt, ge, more) in
          let xx : x ≡ y = same_Some _ _ (sym at_is ∙ ap (λ u. slice_get xs u) v_is ∙ y_is) in
          let hh : hs ≡ ks = same_Some _ _ (sym by_is ∙ ap (λ u. slice_get hss u) v_is ∙ ks_is) in
          subst (λ (y : Variable S E). All (λ h. h.handed ≡ length y.log) ks.held) xx (subst (λ (ks : Handlers E). All (λ h. h.handed ≡ length x.log) ks.held) hh here)
    ]

    -- a variable whose log isn't handed to all
    pub not_all : (All (λ h. h.handed ≡ length x.log) hs.held → ⊥) → IsAllHanded xs hss → ⊥
    not_all none all = none (all n x hs at_is by_is)

  -- all variables
  pub all_below : (n : ℕ) → HandedBelow xs hss n → n ≡ min (length xs) (length hss) → IsAllHanded xs hss
  all_below n below is v x hs at by = below v x hs (omega (arith, is, slice_get_within xs v x at, slice_get_within hss v hs by)) at by
