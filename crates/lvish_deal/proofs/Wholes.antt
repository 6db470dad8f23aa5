-- For callers: a deal whose seats move is a whole deal.
use Rattle.std.proofs.Common.{◌≡◌, ℕ, zero, suc, ◌+◌, ◌<◌, List, [], ◌∷◌, ◌++◌, length, map, set, get_or, ap, ◌∙◌, sym, subst, append_assoc, append-nil, arith, Result, Ok, Err, IfOk, length-set}
use Rattle.std.specs.Global.{Vec}
use native.Mathlib.Decide.{ℕ_discrete}
use mathlib.Core.Logic.{dite}
use Rattle.std.proofs.lemmas.List.{get_or-map, get_or-set_same, get_or-set_other, length-map, map_push}
use Rattle.lvish_deal.specs.Place.{SeatPlace, Deal, AreFreshFrom, IsSameSeat, IsWholeDeal}
use Rattle.lvish_deal.proofs.Lists.{some_of}

module _ {T : Type 0} where
  -- the seat at k moves
  pub whole_set : (ss : List (SeatPlace T)) (k : ℕ) (s s' : SeatPlace T) → k < length ss → s ≡ get_or ss k s → s'.deal ≡ s.deal → s'.number ≡ s.number → IsWholeDeal ss → IsWholeDeal (set ss k s')
  whole_set ss k s s' inside here same alike w = (
    w.0,
    w.1,
    length-set ss k s' ∙ w.2,
    λ j d at.
        let at' : j < length ss = rw length-set at at in
        dite (ℕ_discrete j k)
        (λ (e : j ≡ k). let is = w.3 k s inside in rw (e, get_or-set_same ss k s' d inside) (same ∙ ap (λ (p : SeatPlace T). p.deal) here ∙ is.0, alike ∙ ap (λ (p : SeatPlace T). p.number) here ∙ is.1))
        (λ (ne : ¬ (j ≡ k)). rw (get_or-set_other ss k j s' d ne) (w.3 j d at')),
  )

  pub seat_is : (ss : List (SeatPlace T)) (k : ℕ) (s : SeatPlace T) → k < length ss → s ≡ get_or ss k s → IsWholeDeal ss → (length s.deal ≡ length ss) × (s.number ≡ k)
  seat_is ss k s inside here w =
      let is = w.3 k s inside in
      (ap (λ (p : SeatPlace T). length p.deal) here ∙ ap (λ (d : Deal). length d) is.0 ∙ sym w.2, ap (λ (p : SeatPlace T). p.number) here ∙ is.1)

  fresh_at : (deal : Deal) (j : ℕ) (ss : List (SeatPlace T)) → AreFreshFrom deal j ss → (j + length ss ≡ length deal) × ((k : ℕ) (s : SeatPlace T) → k < length ss → ((get_or ss k s).deal ≡ deal) × ((get_or ss k s).number ≡ j + k))
  fresh_at deal j [] a = (omega arith, λ k s inside. absurd (omega arith))
  fresh_at deal j (x ∷ xs) a = let rest = fresh_at deal (suc j) xs a.1 in let long = rest.0 in (omega arith, by rest.1)
    where
      by : ((k : ℕ) (s : SeatPlace T) → k < length xs → ((get_or xs k s).deal ≡ deal) × ((get_or xs k s).number ≡ suc j + k)) → (k : ℕ) (s : SeatPlace T) → k < length (x ∷ xs) → ((get_or (x ∷ xs) k s).deal ≡ deal) × ((get_or (x ∷ xs) k s).number ≡ j + k)
      by rest zero s inside = (a.0.0, a.0.1 ∙ omega arith)
      by rest (suc k) s inside = let r = rest k s (omega arith) in (r.0, r.1 ∙ omega arith)

  pub whole_if_ok : {E : Type 0} (r : Result (Vec (SeatPlace T)) E) (deal : Deal) (n : ℕ) → length deal ≡ n → 0 < n → IfOk r (λ seats. AreFreshFrom deal 0 seats.items) → IfOk r (λ seats. IsWholeDeal seats.items × (length seats.items ≡ n))
  whole_if_ok (Ok seats) deal n long some h =
      let f = fresh_at deal 0 seats.items h in
      let all = f.0 in
      ((deal, omega arith, omega arith, λ k s inside. let r = f.1 k s inside in (r.0, r.1 ∙ omega arith)), omega arith)
  whole_if_ok (Err e) deal n long some h = tt

  -- all seats move, each on a thread of its own
  pub whole_moved : {X : Type 0} (f : X → SeatPlace T) (ss : List (SeatPlace T)) (xs : List X) → length xs ≡ length ss → ((k : ℕ) (s : SeatPlace T) (x : X) → k < length ss → IsSameSeat (get_or ss k s) (f (get_or xs k x))) → IsWholeDeal ss → IsWholeDeal (map f xs)
  whole_moved f ss xs long same w = (
    w.0,
    w.1,
    length-map xs f ∙ long ∙ w.2,
    λ k s at.
        let within : k < length xs = omega (arith, length-map xs f) in
        let inside : k < length ss = omega arith in
        let x = some_of xs k within in
        let m = same k s x inside in
        let is = w.3 k s inside in
        rw (get_or-map f xs k x s within) (m.0 ∙ is.0, m.1 ∙ is.1),
  )

  -- one more seat is given back
  pub whole_back : {X : Type 0} (f : X → SeatPlace T) (ds new : List X) (d : X) (ss : List (SeatPlace T)) → ds ≡ new ++ d ∷ [] → IsWholeDeal (map f ds ++ ss) → IsWholeDeal (map f new ++ f d ∷ ss)
  whole_back {X = X} f ds new d ss e w = subst (λ (l : List (SeatPlace T)). IsWholeDeal l) (ap (λ (l : List X). map f l ++ ss) e ∙ ap (λ (l : List (SeatPlace T)). l ++ ss) (map_push f new d) ∙ append_assoc (map f new) (f d ∷ []) ss) w

  -- all that is to be given back, and nothing is given back
  pub whole_first : {X : Type 0} (f : X → SeatPlace T) (ds : List X) (ss : List (SeatPlace T)) → ss ≡ [] → IsWholeDeal (map f ds) → IsWholeDeal (map f ds ++ ss)
  whole_first f ds ss none w = subst (λ (l : List (SeatPlace T)). IsWholeDeal l) (sym (ap (λ (l : List (SeatPlace T)). map f ds ++ l) none ∙ append-nil (map f ds))) w

  -- all seats are given back
  pub whole_last : {X : Type 0} (f : X → SeatPlace T) (ds : List X) (ss : List (SeatPlace T)) → length ds ≡ 0 → IsWholeDeal (map f ds ++ ss) → IsWholeDeal ss
  whole_last f [] ss none w = w
  whole_last f (d ∷ ds) ss none w = absurd (omega arith)
