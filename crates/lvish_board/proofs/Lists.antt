-- On which list a parked task is, and whom the asking of a list wakes.
use Rattle.std.proofs.Common.{ℕ, Bool, List, Option, None, Some, subst}
use Rattle.smallvec.specs.SmallVec.{SmallVec}
use Rattle.std.specs.HashMap.{HashMap}
use Rattle.lvish_board.specs.Vocabulary.{Request, Get, Freeze, Entry, Handed}
use Rattle.lvish_calculus.specs.Handing.{IsAmong}
use Rattle.lvish_board.specs.Shelved.{IsOnItsList, WaitsAt, get_list, list_at, shelf_at}
use Rattle.lvish_board.specs.Woken.{MayWake}

module _ {S R L W H : Type 0} (eq : W → W → Bool) (watched : R → Option W) where
  module _ (whole : List (SmallVec ℕ)) (spots : List (HashMap W (SmallVec ℕ) H)) (freezes : List (SmallVec ℕ)) where
    -- a get that waits here is on the list of here
    pub waits_on : (v : ℕ) (spot : Option W) (r : Request S R L) (t : ℕ) → IsOnItsList eq watched whole spots freezes r t → WaitsAt watched v spot r → IsAmong t (get_list eq whole spots v spot)
    waits_on v spot (Get w r) t on at =
        subst (λ k. IsAmong t (get_list eq whole spots v k)) at.1 (subst (λ k. IsAmong t (get_list eq whole spots k (watched r))) at.0 on)
    waits_on v spot r t on at = absurd at

  -- an index that stays on the lists on which it was stays on its list
  pub stays_on : (whole whole' : List (SmallVec ℕ)) (spots spots' : List (HashMap W (SmallVec ℕ) H)) (freezes freezes' : List (SmallVec ℕ)) (r : Request S R L) (t : ℕ)
      → ((v : ℕ) → IsAmong t (list_at whole v) → IsAmong t (list_at whole' v)) → ((v : ℕ) (w : W) → IsAmong t (shelf_at eq spots v w) → IsAmong t (shelf_at eq spots' v w)) → ((v : ℕ) → IsAmong t (list_at freezes v) → IsAmong t (list_at freezes' v))
      → IsOnItsList eq watched whole spots freezes r t → IsOnItsList eq watched whole' spots' freezes' r t
  stays_on whole whole' spots spots' freezes freezes' (Get v r) t at_none at_spot at_freeze on = by (watched r) on
    where
      by : (k : Option W) → IsAmong t (get_list eq whole spots v k) → IsAmong t (get_list eq whole' spots' v k)
      by None i = at_none v i
      by (Some w) i = at_spot v w i
  stays_on whole whole' spots spots' freezes freezes' (Freeze v pools) t at_none at_spot at_freeze on = at_freeze v on
  stays_on whole whole' spots spots' freezes freezes' r t at_none at_spot at_freeze on = absurd on

module _ {S E R L W H : Type 0} (eq : W → W → Bool) (watched : R → Option W) where
  module _ (whole : List (SmallVec ℕ)) (spots : List (HashMap W (SmallVec ℕ) H)) (freezes : List (SmallVec ℕ)) where
    -- and a freeze that waits is on that of its variable
    pub freezes_on : (v : ℕ) (r : Request S R L) (t : ℕ) → IsOnItsList eq watched whole spots freezes r t → (spot_of : E → W) (fresh : List (Entry E)) → MayWake spot_of watched (Some (Handed v)) fresh r → IsAmong t (list_at freezes v)
    freezes_on v (Freeze w pools) t on spot_of fresh at = subst (λ k. IsAmong t (list_at freezes k)) at on
    freezes_on v r t on spot_of fresh at = absurd at
