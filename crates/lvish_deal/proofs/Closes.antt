-- The steps in which a deal is closed.
use Rattle.std.proofs.Common.{◌≡◌, ℕ, zero, suc, ◌+◌, ◌-◌, ◌<◌, ◌≤◌, List, [], ◌∷◌, ◌++◌, length, map, set, get_or, drop, refl, ap, ◌∙◌, sym, subst, append_assoc, append-nil, arith, All, Result, is_ok, Bool, true, cond, vec_capacity, sum_by}
use Rattle.std.specs.Global.{Vec}
use native.Mathlib.Decide.{ℕ_discrete}
use mathlib.Core.Logic.{dite}
use Rattle.std.proofs.lemmas.List.{get_or-set_same, get_or-set_other, get_or-map, get_or_default, get_or_append_left, length_push, length-map, map-append, same_lists}
use Rattle.std.proofs.lemmas.List.Sums.{sum_by-append}
use Rattle.crossbeam_deque.specs.Handles.{worker_deque, worker_view}
use Rattle.lvish_deal.specs.declared.log.Log.{Log}
use Rattle.lvish_deal.specs.declared.reach.Reach.{Reach}
use Rattle.lvish_deal.specs.Reaches.{reach_deque, reach_view, reach_got}
use Rattle.lvish_deal.specs.Rule.{log, parts, got, Told, rest_of}
use Rattle.lvish_deal.proofs.Lists.{all_but, get_or_last, some_of}
use Rattle.lvish_deal.proofs.Rules.{rest_short}
use Rattle.lvish_deal.specs.Place.{SeatPlace, Deal, IsWholeDeal, AreSettled, taken_from, thefts}
use Rattle.lvish_deal.specs.Deals.{Own, deques}
use Rattle.lvish_deal.specs.Closes.{IsJoined, IsOpen, IsWhole, HasRoomForRest, AreRooms, IsPartOfSeat, AreParts, column}

pub inserted : {X A E : Type 0} (r : Result A E) (a b c : List X) → c ≡ cond (is_ok r) a b → is_ok r ≡ true → c ≡ a
inserted r a b c e ok = e ∙ ap (λ (t : Bool). cond t a b) ok

module _ {T : Type 0} where
  pub long_owners : (ws ws' : List (Own T)) → deques ws ≡ deques ws' → length ws ≡ length ws'
  long_owners ws ws' e = sym (length-map ws worker_deque) ∙ ap length e ∙ length-map ws' worker_deque

  -- the owners from the k-th on were joined by the row
  abbrev pub JoinedFrom : ℕ → Vec (Reach T) → List (Own T) → List (Own T) → Type 0
  JoinedFrom k row ws now = (j : ℕ) (d : Own T) → j < length ws → (j < k → get_or now j d ≡ get_or ws j d) × (k ≤ j → IsJoined (column j (row ∷ [])) (get_or ws j d) (get_or now j d))

  pub join_step : (row : Vec (Reach T)) (ws now : List (Own T)) (k n m : ℕ) (r : Reach T) (w w' : Own T) → k ≡ n → m ≡ k + 1 → k < length ws → length now ≡ length ws → k < length row.items → get_or row.items k r ≡ r → w ≡ get_or now k w → JoinedFrom m row ws now
      → IsJoined (reach_view r ∷ []) w w' → JoinedFrom n row ws (set now k w')
  join_step row ws now k n m r w w' same next inside long within here own joined new j d at =
      dite (ℕ_discrete j k)
      (λ (e : j ≡ k).
      let was : w ≡ get_or ws k d = own ∙ (joined k w inside).0 (omega arith) ∙ get_or_default ws k w d inside in
      let view : get_or (map reach_view row.items) k (log 0 [] [] []) ≡ reach_view r = get_or-map reach_view row.items k r (log 0 [] [] []) within ∙ ap reach_view here in
      let done : IsJoined (column k (row ∷ [])) (get_or ws k d) w' = subst (λ (v : Own T). IsJoined (column k (row ∷ [])) v w') was (subst (λ (v : Log T). IsJoined (v ∷ []) w w') (sym view) new) in
      ((λ below. absurd (omega arith)), λ _. rw (e, get_or-set_same now k w' d (omega arith)) done))
      (λ (ne : ¬ (j ≡ k)).
      let old = joined j d at in
      ((λ below. rw (get_or-set_other now k j w' d ne) (old.0 (omega arith))), λ above. rw (get_or-set_other now k j w' d ne) (old.1 (omega arith))))

  -- the name of what a row reaches at k is that of the owner there
  pub reached_own : (row : List (Reach T)) (ws now : List (Own T)) (k : ℕ) (r : Reach T) (w : Own T) → map reach_deque row ≡ deques ws → deques now ≡ deques ws → k < length row → k < length now → get_or row k r ≡ r → w ≡ get_or now k w → reach_deque r ≡ worker_deque w
  reached_own row ws now k r w is names a b here own =
      let e = worker_deque w in
      ap reach_deque (sym here) ∙ sym (get_or-map reach_deque row k r e a) ∙ ap (λ l. get_or l k e) (is ∙ sym names) ∙ get_or-map worker_deque now k w e b ∙ ap worker_deque (sym own)

  pub joined_twice : (xs ys : List (Log T)) (w w' w'' : Own T) → IsJoined xs w w' → IsJoined ys w' w'' → IsJoined (ys ++ xs) w w''
  joined_twice xs ys w w' w'' a b =
      let counts : (worker_view w).parts + sum_by parts xs + sum_by parts ys ≡ (worker_view w).parts + sum_by parts (ys ++ xs) = omega (arith, sum_by-append parts ys xs) in
      let lists : map got ys ++ (map got xs ++ (worker_view w).joined) ≡ map got (ys ++ xs) ++ (worker_view w).joined = sym (append_assoc (map got ys) (map got xs) (worker_view w).joined) ∙ ap (λ (l : List (List T)). l ++ (worker_view w).joined) (sym (map-append got ys xs)) in record {
        deque = b.deque ∙ a.deque;
        port = b.port ∙ a.port;
        flavor = b.flavor ∙ a.flavor;
        view = b.view ∙ ap (λ (v : Log T). log (v.parts + sum_by parts ys) v.sent v.got (map got ys ++ v.joined)) a.view ∙ (λ i. log (counts i) (worker_view w).sent (worker_view w).got (lists i));
      }

  pub open_there : (row : Vec (Reach T)) (ws now : List (Own T)) (k m : ℕ) (w : Own T) → k < m → k < length ws → All IsOpen ws → w ≡ get_or now k w → JoinedFrom m row ws now → IsOpen w
  open_there row ws now k m w below inside may own joined = subst IsOpen (sym (own ∙ (joined k w inside).0 below)) (may k w inside)

  -- the owners were joined by the rows from the m-th on
  abbrev pub JoinedBy : ℕ → List (Vec (Reach T)) → List (Own T) → List (Own T) → Type 0
  JoinedBy m rows ws now = (j : ℕ) (d : Own T) → j < length ws → IsJoined (column j (drop m rows)) (get_or ws j d) (get_or now j d)

  -- the deques below k were drained into their lists
  abbrev pub DrainedTo : ℕ → List (Own T) → List (Own T) → List (Vec T) → List (Vec T) → Type 0
  DrainedTo k ws now left now' = (j : ℕ) (d : Own T) (e : Vec T) → j < length ws
      → (j < k → Told (worker_view (get_or ws j d)) (get_or now' j e).items) × (k ≤ j → (get_or now j d ≡ get_or ws j d) × (get_or now' j e ≡ get_or left j e))

  pub joined_more : (rows : List (Vec (Reach T))) (row : Vec (Reach T)) (k m : ℕ) (ws now new : List (Own T)) → drop k rows ≡ row ∷ drop m rows → length now ≡ length ws → JoinedBy m rows ws now
      → ((j : ℕ) (d : Own T) → j < length now → IsJoined (column j (row ∷ [])) (get_or now j d) (get_or new j d)) → JoinedBy k rows ws new
  joined_more rows row k m ws now new back long old more j d at =
      subst (λ (l : List (Vec (Reach T))). IsJoined (column j l) (get_or ws j d) (get_or new j d)) (sym back) (joined_twice (column j (drop m rows)) (column j (row ∷ [])) (get_or ws j d) (get_or now j d) (get_or new j d) (old j d at) (more j d (omega arith)))

  -- owners that were joined may be joined again
  pub open_again : (m : ℕ) (rows : List (Vec (Reach T))) (ws now : List (Own T)) → length now ≡ length ws → All IsOpen ws → JoinedBy m rows ws now → All IsOpen now
  open_again m rows ws now long may joined k w at =
      let inside : k < length ws = omega arith in
      let j = joined k w inside in
      let parts = ap (λ (v : Log T). v.parts) j.view in
      let some = (may k w inside).1 in
      (j.port ∙ (may k w inside).0, omega arith)

  pub drained_more : (k : ℕ) (ws now : List (Own T)) (left now' : List (Vec T)) (w w' : Own T) (l l' : Vec T) → k < length ws → length now ≡ length ws → length now' ≡ length ws → w ≡ get_or now k w → l ≡ get_or now' k l → DrainedTo k ws now left now'
      → Told (worker_view w) l'.items → DrainedTo (k + 1) ws (set now k w') left (set now' k l')
  drained_more k ws now left now' w w' l l' inside long long' own list old told j d e at =
      dite (ℕ_discrete j k)
      (λ (i : j ≡ k). (
        (λ below. rw (i, get_or-set_same now' k l' e (omega arith)) (subst (λ (x : Own T). Told (worker_view x) l'.items) (own ∙ ((old k w l inside).1 (omega arith)).0 ∙ get_or_default ws k w d inside) told)),
        (λ above. absurd (omega arith)),
      ))
      (λ (ne : ¬ (j ≡ k)).
      let was = old j d e at in (
        (λ below. rw (get_or-set_other now' k j l' e ne) (was.0 (omega arith))),
        (λ above. rw (get_or-set_other now k j w' d ne, get_or-set_other now' k j l' e ne) (was.1 (omega arith))),
      ))

  pub room_here : (k : ℕ) (ws now : List (Own T)) (left now' : List (Vec T)) (w : Own T) (l : Vec T) → k < length ws → w ≡ get_or now k w → l ≡ get_or now' k l → HasRoomForRest ws left → DrainedTo k ws now left now' → (l.items ≡ []) × (length (rest_of (worker_view w)) ≤ vec_capacity l)
  room_here k ws now left now' w l inside own list room old =
      let same = (old k w l inside).1 (omega arith) in
      let P : Own T → Vec T → Type 0 = λ x y. (y.items ≡ []) × (length (rest_of (worker_view x)) ≤ vec_capacity y) in
      subst (λ (x : Own T). P x l) (sym (own ∙ same.0)) (subst (λ (y : Vec T). P (get_or ws k w) y) (sym (list ∙ same.1)) (room.1 k w l inside))

  abbrev pub RoomsTo : ℕ → List (SeatPlace T) → List (Vec T) → Type 0
  RoomsTo k seats rooms = (length rooms ≡ k) × ((j : ℕ) (s : SeatPlace T) (l : Vec T) → j < k → ((get_or rooms j l).items ≡ []) × (length (get_or seats j s).pushed ≤ vec_capacity (get_or rooms j l) + length (get_or seats j s).popped))

  pub rooms_more : (k : ℕ) (seats : List (SeatPlace T)) (rooms : List (Vec T)) (s : SeatPlace T) (l : Vec T) → k < length seats → s ≡ get_or seats k s → l.items ≡ [] → length s.pushed ≤ vec_capacity l + length s.popped → RoomsTo k seats rooms → RoomsTo (k + 1) seats (rooms ++ l ∷ [])
  rooms_more k seats rooms s l inside here none room old = (
    length_push rooms l ∙ ap (λ n. n + 1) old.0,
    λ j t m below.
        let long = old.0 in
        dite (ℕ_discrete j k)
        (λ (e : j ≡ k). rw (e, get_or_last rooms l k m old.0) (none, subst (λ (p : SeatPlace T). length p.pushed ≤ vec_capacity l + length p.popped) (here ∙ get_or_default seats k s t inside) room))
        (λ (ne : ¬ (j ≡ k)). rw (get_or_append_left rooms (l ∷ []) m j (omega arith)) (old.1 j t m (omega arith))),
  )

  -- one more seat is taken apart
  pub parts_cons : (s : SeatPlace T) (w : Own T) (r : Vec (Reach T)) (ss : List (SeatPlace T)) (ws : List (Own T)) (rs : List (Vec (Reach T))) → IsPartOfSeat s w r → AreParts ss ws rs → AreParts (s ∷ ss) (w ∷ ws) (r ∷ rs)
  parts_cons s w r ss ws rs here p = record { owners_long = ap suc p.owners_long; rows_long = ap suc p.rows_long; each = by }
    where
      by : (k : ℕ) (x : SeatPlace T) (y : Own T) (z : Vec (Reach T)) → k < length (s ∷ ss) → IsPartOfSeat (get_or (s ∷ ss) k x) (get_or (w ∷ ws) k y) (get_or (r ∷ rs) k z)
      by zero x y z inside = here
      by (suc k) x y z inside = p.each k x y z (omega arith)

  got_at : (row : List (Reach T)) (k : ℕ) → got (get_or (map reach_view row) k (log 0 [] [] [])) ≡ get_or (map reach_got row) k []
  got_at [] k = refl
  got_at (x ∷ xs) zero = refl
  got_at (x ∷ xs) (suc k) = got_at xs k

  -- all seats of a deal, taken apart
  module _ (ss : List (SeatPlace T)) (ws : List (Own T)) (rs : List (Vec (Reach T))) (a : IsWholeDeal ss) (p : AreParts ss ws rs) where
    an_owner : (k : ℕ) → k < length ss → Own T
    an_owner k inside = let long = p.owners_long in some_of ws k (omega arith)

    a_row : (k : ℕ) → k < length ss → Vec (Reach T)
    a_row k inside = let long = p.rows_long in some_of rs k (omega arith)

    names : deques ws ≡ a.0
    names = same_lists (deques ws) a.0 (length-map ws worker_deque ∙ p.owners_long ∙ a.2) (λ k e at.
        let owners = p.owners_long in
        let within : k < length ws = omega (arith, length-map ws worker_deque) in
        let inside : k < length ss = omega arith in
        let s = some_of ss k inside in
        let w = some_of ws k within in
        let is = a.3 k s inside in
        get_or-map worker_deque ws k w e within ∙ sym ((p.each k s w (a_row k inside) inside).own e) ∙ (λ i. get_or (is.0 i) (is.1 i) e))

    pub opens : All IsOpen ws
    opens = λ k w at.
        let owners = p.owners_long in
        let inside : k < length ss = omega arith in
        let here = p.each k (some_of ss k inside) w (a_row k inside) inside in
        let few = here.few in
        let parts = ap (λ (v : Log T). v.parts) here.view in
        (here.port, omega arith)

    pub all_rows : All (λ row. map reach_deque row.items ≡ deques ws) rs
    all_rows = λ k r at.
        let rows = p.rows_long in
        let inside : k < length ss = omega arith in
        let s = some_of ss k inside in
        (p.each k s (an_owner k inside) r inside).deal ∙ (a.3 k s inside).0 ∙ sym names

    -- what the seats took from the deque j
    columns : (j : ℕ) → map got (column j rs) ≡ thefts j ss
    columns j =
        let view : Vec (Reach T) → Log T = λ row. get_or (map reach_view row.items) j (log 0 [] [] []) in
        let long : length (map got (column j rs)) ≡ length rs = length-map (column j rs) got ∙ length-map rs view in
        same_lists (map got (column j rs)) (thefts j ss) (long ∙ p.rows_long ∙ sym (length-map ss (λ s. taken_from s j))) (λ k d at.
        let rows = p.rows_long in
        let inside : k < length ss = omega arith in
        let s = some_of ss k inside in
        let r = a_row k inside in
        let v = view r in
        get_or-map got (column j rs) k v d (omega (arith, length-map rs view)) ∙ ap got (get_or-map view rs k r v (omega arith)) ∙ got_at (get_or rs k r).items j ∙ ap (λ (l : List (List T)). get_or l j []) (p.each k s (an_owner k inside) r inside).stolen ∙ sym (get_or-map (λ s. taken_from s j) ss k s d inside))

    -- each seat has a part of the deque k but its own
    parts_of_all : (k : ℕ) → k < length ss → sum_by parts (column k rs) + 1 ≡ length ss
    parts_of_all k inside =
        let view : Vec (Reach T) → Log T = λ row. get_or (map reach_view row.items) k (log 0 [] [] []) in
        let long = length-map rs view in
        let rows = p.rows_long in
        let deal = a.2 in
        let all = all_but parts (column k rs) k (λ j v at.
        let there : j < length ss = omega arith in
        let s = some_of ss j there in
        let r = a_row j there in
        let is = a.3 j s there in
        let here = p.each j s (an_owner j there) r there in
        let wide : length (get_or rs j r).items ≡ length a.0 = sym (length-map (get_or rs j r).items reach_deque) ∙ ap (λ (d : Deal). length d) (here.deal ∙ is.0) in
        let x = some_of (get_or rs j r).items k (omega arith) in
        let same = ap parts (get_or-map view rs j r v (omega arith) ∙ get_or-map reach_view (get_or rs j r).items k x (log 0 [] [] []) (omega arith)) in
        let has = here.shares k x (omega arith) in
        ((λ e. same ∙ has.0 (sym e ∙ sym is.1)), λ ne. same ∙ has.1 (λ e. ne (sym (e ∙ is.1))))) in
        omega arith

    -- the owners, joined by all
    module _ (now : List (Own T)) (long : length now ≡ length ws) (joined : (k : ℕ) (d : Own T) → k < length ws → IsJoined (column k rs) (get_or ws k d) (get_or now k d)) where
      final_view : (k : ℕ) (s : SeatPlace T) (w : Own T) → k < length ss → worker_view (get_or now k w) ≡ log 9 (get_or ss k s).pushed (get_or ss k s).popped (thefts k ss)
      final_view k s w inside =
          let owners = p.owners_long in
          let here = p.each k s w (a_row k inside) inside in
          let few = here.few in
          let deal = a.2 in
          let name = ap (λ (d : Deal). length d) (a.3 k s inside).0 in
          let rest = parts_of_all k inside in
          let counts : 10 - length (get_or ss k s).deal + sum_by parts (column k rs) ≡ 9 = omega arith in
          let lists : map got (column k rs) ++ [] ≡ thefts k ss = append-nil (map got (column k rs)) ∙ columns k in
          (joined k w (omega arith)).view ∙ ap (λ (v : Log T). log (v.parts + sum_by parts (column k rs)) v.sent v.got (map got (column k rs) ++ v.joined)) here.view ∙ (λ i. log (counts i) (get_or ss k s).pushed (get_or ss k s).popped (lists i))

      pub all_whole : All IsWhole now
      all_whole = λ k w at.
          let owners = p.owners_long in
          let inside : k < length ss = omega arith in
          let s = some_of ss k inside in
          let here = p.each k s w (a_row k inside) inside in
          let j = joined k w (omega arith) in
          record { port = j.port ∙ here.port; flavor = j.flavor ∙ here.flavor; parts = ap (λ (v : Log T). v.parts) (final_view k s w inside) }

      pub have_room : (left : List (Vec T)) → AreRooms ss left → HasRoomForRest now left
      have_room left rooms = (
        rooms.0 ∙ sym (long ∙ p.owners_long),
        λ k w l at.
            let owners = p.owners_long in
            let inside : k < length ss = omega arith in
            let s = some_of ss k inside in
            let v = final_view k s w inside in
            let sent = ap (λ (u : Log T). length u.sent) v in
            let taken = ap (λ (u : Log T). length u.got) v in
            let rest = rest_short (worker_view (get_or now k w)) in
            let room = rooms.1 k s l inside in
            let wide = room.1 in
            (room.0, omega arith),
      )

      pub settled : (left : List (Vec T)) → length left ≡ length ss → ((k : ℕ) (d : Own T) (e : Vec T) → k < length now → Told (worker_view (get_or now k d)) (get_or left k e).items) → AreSettled ss left
      settled left many told = (
        many,
        λ k s l inside.
            let owners = p.owners_long in
            let w = an_owner k inside in
            let t = subst (λ (u : Log T). Told u (get_or left k l).items) (final_view k s w inside) (told k w l (omega arith)) in
            (t.0, t.1, t.2, t.3.0, t.3.1),
      )
