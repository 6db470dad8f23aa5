-- The steps in which a deal is made.
use Rattle.std.proofs.Common.{◌≡◌, ◌≢◌, ℕ, ◌+◌, ◌-◌, ◌<◌, ◌≤◌, All, List, [], ◌∷◌, ◌++◌, length, map, set, get_or, take, refl, ap, ◌∙◌, sym, subst, arith, length-set}
use Rattle.std.specs.Global.{Global, Vec}
use Rattle.crossbeam_deque.specs.Handles.{worker_deque}
use native.Mathlib.Decide.{ℕ_discrete}
use mathlib.Core.Logic.{dite}
use Rattle.std.proofs.Math.Seq.{map-set_same}
use Rattle.std.proofs.lemmas.List.{get_or-set_same, get_or-set_other, get_or-map, get_or_append_left, length-map, length_push, map_push, take_more}
use Rattle.lvish_deal.specs.declared.reach.Reach.{Reach}
use Rattle.lvish_deal.specs.Reaches.{reach_deque, reach_parts, reach_got, HasParts}
use Rattle.lvish_deal.specs.Deals.{IsNew, IsNewRow, AreCut, AreNewRows, parts_after, Own, deques}
use Rattle.lvish_deal.specs.Place.{SeatPlace, Deal, AreFreshFrom}
use Rattle.lvish_deal.proofs.Lists.{get_or_last, peeled}

module _ {T : Type 0} where
  -- the seat `number` has its passes for the first k deques
  abbrev pub Cut : ℕ → ℕ → List (Own T) → Type 0
  Cut number k ws = (j : ℕ) (d : Own T) → j < length ws → (j < k → IsNew (parts_after (number + 1) j) (get_or ws j d)) × (k ≤ j → IsNew (parts_after number j) (get_or ws j d))

  pub cut_step : (number k : ℕ) (ws : List (Own T)) (w' : Own T) → k < length ws → Cut number k ws → IsNew (parts_after (number + 1) k) w' → Cut number (k + 1) (set ws k w')
  cut_step number k ws w' inside cut new j d within =
      let within' : j < length ws = rw length-set at within in
      dite (ℕ_discrete j k)
      (λ (e : j ≡ k). ((λ _. rw (e, get_or-set_same ws k w' d inside) new), λ above. absurd (omega arith)))
      (λ (ne : ¬ (j ≡ k)). ((λ below. rw (get_or-set_other ws k j w' d ne) ((cut j d within').0 (omega arith))), λ above. rw (get_or-set_other ws k j w' d ne) ((cut j d within').1 (omega arith))))

  pub names_step : (ws ws' : List (Own T)) (k : ℕ) (w w' : Own T) → w ≡ get_or ws k w → worker_deque w' ≡ worker_deque w → deques ws ≡ deques ws' → deques (set ws k w') ≡ deques ws'
  names_step ws ws' k w w' here same names = map-set_same worker_deque ws k w' w (same ∙ ap worker_deque here) ∙ names

  pub name_here : (ws : List (Own T)) (deal : Deal) (k : ℕ) (w : Own T) (e : (ℕ × ℕ) × Global) → k < length ws → w ≡ get_or ws k w → deques ws ≡ deal → get_or deal k e ≡ worker_deque w
  name_here ws deal k w e inside here names = ap (λ l. get_or l k e) (sym names) ∙ get_or-map worker_deque ws k w e inside ∙ ap worker_deque (sym here)

  pub row_step : (row : List (Reach T)) (r : Reach T) (deal : Deal) (k : ℕ) (e : (ℕ × ℕ) × Global) → k < length deal → map reach_deque row ≡ take k deal → reach_deque r ≡ get_or deal k e → map reach_deque (row ++ r ∷ []) ≡ take (k + 1) deal
  row_step row r deal k e inside is this = map_push reach_deque row r ∙ (λ i. is i ++ this i ∷ []) ∙ sym (take_more deal k e inside)

  pub none_step : (row : List (Reach T)) (r : Reach T) (deal : Deal) (k : ℕ) (e : (ℕ × ℕ) × Global) → k < length deal → map reach_got row ≡ map (λ _. []) (take k deal) → reach_got r ≡ [] → map reach_got (row ++ r ∷ []) ≡ map (λ _. []) (take (k + 1) deal)
  none_step row r deal k e inside is this = map_push reach_got row r ∙ (λ i. is i ++ this i ∷ []) ∙ sym (map_push (λ _. []) (take k deal) (get_or deal k e)) ∙ ap (map (λ _. [])) (sym (take_more deal k e inside))

  -- the passes of a seat, up to the deque k
  pub parts_step : (number k : ℕ) (row : List (Reach T)) (r : Reach T) → length row ≡ k → HasParts number row → (k ≡ number → reach_parts r ≡ 0) × (k ≢ number → reach_parts r ≡ 1) → HasParts number (row ++ r ∷ [])
  parts_step number k row r long has this j d within =
      dite (ℕ_discrete j k)
      (λ (e : j ≡ k). rw (e, get_or_last row r k d long) this)
      (λ (ne : ¬ (j ≡ k)). let below : j < length row = omega (arith, length_push row r) in rw (get_or_append_left row (r ∷ []) d j below) (has j d below))

  -- the owners before any seat has its passes
  pub cut_none : (ws : List (Own T)) → All (IsNew 9) ws → AreCut 0 ws
  cut_none ws all k w at = subst (λ (n : ℕ). IsNew n (get_or ws k w)) (omega arith) (all k w at)

  -- the owners once all seats have theirs
  pub cut_all : (ws : List (Own T)) (n : ℕ) → n ≡ length ws → n ≤ 8 → AreCut n ws → All (IsNew (10 - length ws)) ws
  cut_all ws n e few cut k w at = subst (λ (m : ℕ). IsNew m (get_or ws k w)) (omega arith) (cut k w at)

  -- one more row
  pub rows_step : (deal : Deal) (rows : List (Vec (Reach T))) (row : Vec (Reach T)) (i : ℕ) → length rows ≡ i → AreNewRows deal rows → IsNewRow deal i row → AreNewRows deal (rows ++ row ∷ [])
  rows_step deal rows row i long has this j d within =
      dite (ℕ_discrete j i)
      (λ (e : j ≡ i). rw (e, get_or_last rows row i d long) this)
      (λ (ne : ¬ (j ≡ i)). let below : j < length rows = omega (arith, length_push rows row) in rw (get_or_append_left rows (row ∷ []) d j below) (has j d below))

  -- the last of these rows, and the others
  pub rows_apart : (deal : Deal) (rows new : List (Vec (Reach T))) (row : Vec (Reach T)) → rows ≡ new ++ row ∷ [] → AreNewRows deal rows → AreNewRows deal new × IsNewRow deal (length new) row
  rows_apart deal rows new row e all =
      let these : AreNewRows deal (new ++ row ∷ []) = subst (AreNewRows deal) e all in
      let long = length_push new row in (
        (λ j d below. subst (IsNewRow deal j) (get_or_append_left new (row ∷ []) d j below) (these j d (omega arith))),
        subst (IsNewRow deal (length new)) (get_or_last new row (length new) row refl) (these (length new) row (omega arith)),
      )

  -- the same of the names of owners that are taken from the end
  pub peel : (f : Own T → (ℕ × ℕ) × Global) (new : List (Own T)) (x : Own T) (deal : Deal) → map f (new ++ x ∷ []) ≡ take (length (new ++ x ∷ [])) deal → (map f new ≡ take (length new) deal) × ((e : (ℕ × ℕ) × Global) → get_or deal (length new) e ≡ f x)
  peel f new x deal e = rw (← length-map new f) (peeled (map f new) (f x) deal (rw (← map_push f new x, length-map (new ++ x ∷ []) f) e))

  pub seat_step : (deal : Deal) (k m n : ℕ) (row : Vec (Reach T)) (s : SeatPlace T) (ss : List (SeatPlace T)) → m ≡ k + 1 → n ≡ k → IsNewRow deal k row
      → s ≡ record { deal = map reach_deque row.items; number = n; pushed = []; popped = []; stolen = map reach_got row.items } → AreFreshFrom deal m ss → AreFreshFrom deal k (s ∷ ss)
  seat_step deal k m n row s ss next nth new is rest = (
    (ap (λ (p : SeatPlace T). p.deal) is ∙ new.0, ap (λ (p : SeatPlace T). p.number) is ∙ nth, ap (λ (p : SeatPlace T). p.pushed) is, ap (λ (p : SeatPlace T). p.popped) is, ap (λ (p : SeatPlace T). p.stolen) is ∙ new.1),
    subst (λ (j : ℕ). AreFreshFrom deal j ss) (next ∙ (omega arith)) rest,
  )

  pub row_own : (deal : Deal) (row : Vec (Reach T)) (k : ℕ) (w : Own T) (d : Reach T) → map reach_deque row.items ≡ deal → k < length row.items → get_or deal k (worker_deque w) ≡ worker_deque w → reach_deque (get_or row.items k d) ≡ worker_deque w
  row_own deal row k w d is inside here = sym (get_or-map reach_deque row.items k d (worker_deque w) inside) ∙ ap (λ l. get_or l k (worker_deque w)) is ∙ here

  pub row_long : (ws : List (Own T)) (row : Vec (Reach T)) → map reach_deque row.items ≡ deques ws → length row.items ≡ length ws
  row_long ws row is = sym (length-map row.items reach_deque) ∙ ap length is ∙ length-map ws worker_deque
