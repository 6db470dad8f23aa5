-- What a seat looks like after a steal.
use Rattle.std.proofs.Common.{arith, ◌≡◌, ℕ, ◌-◌, ◌<◌, List, [], ◌∷◌, ◌++◌, length, map, set, get_or, refl, ap, ◌∙◌, sym, subst, append-nil, slice_set}
use Rattle.std.specs.Global.{Global}
use Rattle.std.specs.Vec.{with_item}
use Rattle.std.proofs.Math.Seq.{map-set_same}
use Rattle.std.proofs.lemmas.List.{map-set, get_or-map, length-map}
use Rattle.lvish_deal.specs.declared.reach.Reach.{Reach}
use Rattle.lvish_deal.specs.declared.seat.Seat.TheInside.{Inside}
use Rattle.lvish_deal.specs.declared.steal.Steal.{Steal}
use Rattle.lvish_deal.specs.declared.steal.Steal.TheVariants.{Taken}
use Rattle.lvish_deal.specs.Rule.{log, TookAlone}
use Rattle.lvish_deal.specs.Reaches.{reach_deque, reach_got}
use Rattle.lvish_deal.specs.Place.{SeatPlace, Deal, taken_from, IsSameSeat, IsAlone}
use Rattle.lvish_deal.specs.Seats.{seat_place, IsSeated}
use Rattle.crossbeam_deque.specs.Handles.{worker_view, worker_deque}
use Rattle.lvish_deal.specs.Closes.{IsPartOfSeat}
use Rattle.lvish_deal.specs.Answer.{MatchSteal, IfTaken, IfNotTaken}

pub if_taken : {X : Type 0} (answer : Steal X) (P : X → Type 0) (Q : Type 0) → MatchSteal answer P Q → IfTaken answer P
if_taken (Taken x) P Q m = m
if_taken answer P Q m = tt

pub if_not : {X : Type 0} (answer : Steal X) (P : X → Type 0) (Q : Type 0) → MatchSteal answer P Q → IfNotTaken answer Q
if_not (Taken x) P Q m = tt
if_not answer P Q m = m

module _ {T : Type 0} where
  placed : (s : Inside T) (from : ℕ) (r : Reach T) (d : Deal) (l : List (List T)) → map reach_deque (set s.reaches.items from r) ≡ d → map reach_got (set s.reaches.items from r) ≡ l
      → seat_place (record s { reaches = with_item s.reaches from r }) ≡ record (seat_place s) { deal = d; stolen = l }
  placed s from r d l p q = λ i. record (seat_place s) { deal = p i; stolen = q i }

  unchanged : (s : Inside T) (from : ℕ) (r r' : Reach T) (now : SeatPlace T) → r ≡ get_or s.reaches.items from r → reach_deque r' ≡ reach_deque r → reach_got r' ≡ reach_got r → seat_place s ≡ now → seat_place (record s { reaches = with_item s.reaches from r' }) ≡ now
  unchanged s from r r' now here deque took is =
      let d = map-set_same reach_deque s.reaches.items from r' r (deque ∙ ap reach_deque here) in
      placed s from r' _ _ d (map-set_same reach_got s.reaches.items from r' r (took ∙ ap reach_got here)) ∙ is

  pub after_steal : (s : Inside T) (from : ℕ) (r r' : Reach T) (answer : Steal T) (now : SeatPlace T) → from < length s.reaches.items → r ≡ get_or s.reaches.items from r → reach_deque r' ≡ reach_deque r
      → MatchSteal answer (λ x. reach_got r' ≡ reach_got r ++ x ∷ []) (reach_got r' ≡ reach_got r)
      → seat_place s ≡ now
      → MatchSteal answer (λ x. seat_place (record s { reaches = with_item s.reaches from r' }) ≡ record now { stolen = slice_set now.stolen from (taken_from now from ++ x ∷ []) })
      (seat_place (record s { reaches = with_item s.reaches from r' }) ≡ now)
  after_steal s from r r' (Taken x) now inside here deque took is =
      let d = map-set_same reach_deque s.reaches.items from r' r (deque ∙ ap reach_deque here) in
      let got = get_or-map reach_got s.reaches.items from r [] inside ∙ ap reach_got (sym here) in
      subst (λ (p : SeatPlace T). seat_place (record s { reaches = with_item s.reaches from r' }) ≡ record p { stolen = slice_set p.stolen from (taken_from p from ++ x ∷ []) }) is
      (placed s from r' _ _ d (map-set reach_got s.reaches.items from r' ∙ ap (λ (l : List T). set (map reach_got s.reaches.items) from l) (took ∙ ap (λ (l : List T). l ++ x ∷ []) (sym got))))
  after_steal s from r r' answer now inside here deque took is = unchanged s from r r' now here deque took is

  pub within : (s : Inside T) (now : SeatPlace T) (from : ℕ) → seat_place s ≡ now → from < length now.deal → from < length s.reaches.items
  within s now from is inside = let e = ap (λ (p : SeatPlace T). length p.deal) is in omega (arith, length-map s.reaches.items reach_deque)

  own_name : (l : List (Reach T)) (k : ℕ) (e v : (ℕ × ℕ) × Global) → k < length l → ((d : Reach T) → reach_deque (get_or l k d) ≡ v) → get_or (map reach_deque l) k e ≡ v
  own_name [] k e v inside own = absurd (omega arith)
  own_name (x ∷ xs) k e v inside own = get_or-map reach_deque (x ∷ xs) k x e inside ∙ own x

  pub is_part : (s : Inside T) (now : SeatPlace T) → IsSeated s → seat_place s ≡ now → IsPartOfSeat now s.own s.reaches
  is_part s now i is =
      let long = length-map s.reaches.items reach_deque in
      let few = i.few in
      let all = i.parts in
      let parts : (worker_view s.own).parts ≡ 10 - length (map reach_deque s.reaches.items) = omega arith in
      subst (λ (p : SeatPlace T). IsPartOfSeat p s.own s.reaches) is record {
        port = i.port;
        flavor = i.flavor;
        view = λ k. log (parts k) (worker_view s.own).sent (worker_view s.own).got (i.joined k);
        few = omega arith;
        deal = refl;
        stolen = refl;
        shares = i.shares;
        own = λ e. own_name s.reaches.items s.number e (worker_deque s.own) i.among i.own;
      }

  pub same_steal : (s : Inside T) (from : ℕ) (r r' : Reach T) (now : SeatPlace T) → r ≡ get_or s.reaches.items from r → reach_deque r' ≡ reach_deque r → seat_place s ≡ now → IsSameSeat now (seat_place (record s { reaches = with_item s.reaches from r' }))
  same_steal s from r r' now here deque is = (map-set_same reach_deque s.reaches.items from r' r (deque ∙ ap reach_deque here) ∙ ap (λ (p : SeatPlace T). p.deal) is, ap (λ (p : SeatPlace T). p.number) is)

  pub all_popped : (s : Inside T) (now : SeatPlace T) → IsSeated s → seat_place s ≡ now → TookAlone (worker_view s.own) [] → IsAlone now → now.popped ≡ now.pushed
  all_popped s now i is took lone =
      let long = length-map s.reaches.items reach_deque in
      let deal = ap (λ (p : SeatPlace T). length p.deal) is in
      let all = i.parts in
      ap (λ (p : SeatPlace T). p.popped) (sym is) ∙ sym (append-nil (worker_view s.own).got) ∙ sym (took (omega arith) i.joined) ∙ ap (λ (p : SeatPlace T). p.pushed) is
