-- What a step that is made leaves, by its request, and what stays along a way.
use Rattle.std.proofs.Common.{◌≡◌, inl, inr, ℕ, suc, Bool, true, false, List, [], ◌∷◌, ◌++◌, Option, Some, None, refl, sym, ◌∙◌, ap, if◌then◌else◌}
use Rattle.std.proofs.lemmas.Bool.{both_ways}
use Rattle.lvish_names.specs.Names.{Name, forked, handed, Handler, is_deep}
use Rattle.lvish_calculus.specs.Machine.{Machine, IsLawful, Put, Get, Fork, Add, Freeze, Pause, Fault, Done, Answer, Content, Deep, Late, Frozen}
use Rattle.lvish_calculus.specs.Calculus.{Task, Live, Post, State, Label, Act, Hand, Change, Changes, Fails, put_effect, get_effect, add_effect, changed, with_task, with_handler, with_join, IsEnabled}
use Rattle.lvish_calculus.proofs.Names.{with_task-same, with_handler-same}
use Rattle.lvish_calculus.proofs.Steps.{Makes, puts, forks, adds, unview}
use Rattle.lvish_calculus.proofs.Order.{IsLe, le_trans}
use Rattle.lvish_calculus.proofs.Sound.{IsSound, live≢absent, own_is}
use Rattle.lvish_calculus.proofs.Keeps.{written, made_absent, handlers_stay}
use Rattle.lvish_calculus.proofs.Moves.{content_le, frozen_stays, touches, Untouched}
use Rattle.lvish_calculus.proofs.Ends.{Way, here, goes, frozen_now}
use Rattle.lvish_calculus.proofs.Runs.{way_keeps}

module _ {S E R A L : Type 0} (M : Machine S E R A L) (ok : IsLawful M) where
  -- ---- what stays along a way

  pub handlers_way : (d c : State S E L) (ls : List (Label E)) → IsSound d → Way M d ls c → (h : Handler E) (post : Post) → d.handlers h ≡ Some post → c.handlers h ≡ Some post
  handlers_way d c ls s w h post z = way_keeps M ok (λ (x : State S E L). x.handlers h ≡ Some post) (λ x l ch m en sx. handlers_stay M ok x l ch m en sx h post) d c ls s w z

  pub le_way : (d c : State S E L) (ls : List (Label E)) → IsSound d → Way M d ls c → (v : ℕ) → IsLe M ok (d.content v) (c.content v)
  le_way d c ls s w v = way_keeps M ok (λ (x : State S E L). IsLe M ok (d.content v) (x.content v))
      (λ x l ch m en sx z. le_trans M ok (d.content v) (x.content v) ((changed M ch x).content v) z (content_le M ok x l ch m en sx v)) d c ls s w (ok.join_idem (d.content v))

  pub frozen_way : (d c : State S E L) (ls : List (Label E)) → IsSound d → Way M d ls c → (v : ℕ) → d.frozen v ≡ true → (c.frozen v ≡ true) × (c.content v ≡ d.content v)
  frozen_way d c ls s w v z = way_keeps M ok (λ (x : State S E L). (x.frozen v ≡ true) × (x.content v ≡ d.content v))
      (λ x l ch m en sx k.
      let un : Untouched M x (changed M ch x) v = elim (touches M ok x l ch m v) [ inl g ↦ g | inr (inl g) ↦ absurd (both_ways _ g.unfrozen k.0) | inr (inr g) ↦ absurd (both_ways _ g.unfrozen k.0) ] in
      (frozen_stays M ok x l ch m en sx v k.0, un.content ∙ k.1)) d c ls s w (z, refl)

  -- ---- what a step leaves of its tasks and handlers

  pub own_now : (x : State S E L) (ch : Change S E L) (t : Name E) (k : Task L) → ch.own ≡ Some (t, k) → (changed M ch x).tasks t ≡ k
  own_now x ch t k e = ap (λ o. with_task M.event_same o (with_task M.event_same ch.made x.tasks) t) e ∙ with_task-same M.event_same ok.event_same_is t k (with_task M.event_same ch.made x.tasks)

  pub made_now : (x : State S E L) (l : Label E) (ch : Change S E L) (m : Makes M x l ch) → IsEnabled M x l → IsSound x → (u : Name E) (k : Task L) → ch.made ≡ Some (u, k) → (changed M ch x).tasks u ≡ k
  made_now x l ch m en s u k e = elim (written M.event_same ok.event_same_is ch.own (with_task M.event_same ch.made x.tasks) u) [
    | inl w ↦ let g = own_is M ok x l ch m u w.0 w.1 in absurd (live≢absent _ g.local g.forks g.adds g.puts g.was (made_absent M ok x l ch m en s u k e))
    | inr z ↦ z ∙ ap (λ o. with_task M.event_same o x.tasks u) e ∙ with_task-same M.event_same ok.event_same_is u k x.tasks
  ]

  pub added_now : (x : State S E L) (ch : Change S E L) (h : Handler E) (post : Post) → ch.added ≡ Some (h, post) → (changed M ch x).handlers h ≡ Some post
  added_now x ch h post e = ap (λ o. with_handler M.event_same o x.handlers h) e ∙ with_handler-same M.event_same ok.event_same_is h post x.handlers

  module _ (x : State S E L) (t : Name E) (l : L) (f a p : ℕ) (ch : Change S E L) (m : Makes M x (Act t) ch) (is : x.tasks t ≡ Live l f a p) where
    pub put_made : (v : ℕ) (d : S) → M.request l ≡ Put v d
        → (s : S) × (M.join (x.content v) d ≡ Some s) × (ch.own ≡ Some (t, Live (M.resume (M.at l) Done) f a (suc p))) × (ch.joined ≡ Some (v, d))
    put_made v d q = go _ refl (rw (is, q) at (unview M ok x (Act t) ch m))
      where
        by : (s : S) → M.join (x.content v) d ≡ Some s → (b : Bool) → (if b then Fails Frozen (Some v) t else Changes (record { own = Some (t, Live (M.resume (M.at l) Done) f a (suc p)); made = None; added = None; joined = Some (v, d); froze = None; handing = None })) ≡ Changes ch
            → (s : S) × (M.join (x.content v) d ≡ Some s) × (ch.own ≡ Some (t, Live (M.resume (M.at l) Done) f a (suc p))) × (ch.joined ≡ Some (v, d))
        by s j true e = absurd (cc e)
        by s j false e = let z : record { own = Some (t, Live (M.resume (M.at l) Done) f a (suc p)); made = None; added = None; joined = Some (v, d); froze = None; handing = None } ≡ ch = cc in
            (s, j, sym (ap (λ (y : Change S E L). y.own) z), sym (ap (λ (y : Change S E L). y.joined) z))

        go : (o : Option S) → M.join (x.content v) d ≡ o → put_effect M x t (Live (M.resume (M.at l) Done) f a (suc p)) v d o ≡ Changes ch
            → (s : S) × (M.join (x.content v) d ≡ Some s) × (ch.own ≡ Some (t, Live (M.resume (M.at l) Done) f a (suc p))) × (ch.joined ≡ Some (v, d))
        go None j e = absurd (cc e)
        go (Some s) j e = by s j _ e

    pub get_made : (v : ℕ) (r : R) → M.request l ≡ Get v r → (y : A) × (M.answer r (x.content v) ≡ Some y) × (ch.own ≡ Some (t, Live (M.resume (M.at l) (Answer y)) f a p))
    get_made v r q = go _ refl (rw (is, q) at (unview M ok x (Act t) ch m))
      where
        go : (o : Option A) → M.answer r (x.content v) ≡ o → get_effect M t (M.at l) f a p o ≡ Changes ch → (y : A) × (M.answer r (x.content v) ≡ Some y) × (ch.own ≡ Some (t, Live (M.resume (M.at l) (Answer y)) f a p))
        go None j e = absurd (cc e)
        go (Some y) j e = let z : record { own = Some (t, Live (M.resume (M.at l) (Answer y)) f a p); made = None; added = None; joined = None; froze = None; handing = None } ≡ ch = cc in
            (y, j, sym (ap (λ (y : Change S E L). y.own) z))

    pub fork_made : (k : L) → M.request l ≡ Fork k → (is_deep t ≡ false) × (ch.own ≡ Some (t, Live (M.resume (M.at l) Done) (suc f) a p)) × (ch.made ≡ Some (forked t (suc f), Live k 0 0 0))
    fork_made k q = by _ refl (rw (is, q) at (unview M ok x (Act t) ch m))
      where
        by : (b : Bool) → is_deep t ≡ b
            → (if b then Fails Deep None t else Changes (record { own = Some (t, Live (M.resume (M.at l) Done) (suc f) a p); made = Some (forked t (suc f), Live k 0 0 0); added = None; joined = None; froze = None; handing = None })) ≡ Changes ch
            → (is_deep t ≡ false) × (ch.own ≡ Some (t, Live (M.resume (M.at l) Done) (suc f) a p)) × (ch.made ≡ Some (forked t (suc f), Live k 0 0 0))
        by true b e = absurd (cc e)
        by false b e = let z : record { own = Some (t, Live (M.resume (M.at l) Done) (suc f) a p); made = Some (forked t (suc f), Live k 0 0 0); added = None; joined = None; froze = None; handing = None } ≡ ch = cc in
            (b, sym (ap (λ (y : Change S E L). y.own) z), sym (ap (λ (y : Change S E L). y.made) z))

    pub add_made : (pool procedure : ℕ) → M.request l ≡ Add pool procedure
        → (is_deep t ≡ false) × (ch.own ≡ Some (t, Live (M.resume (M.at l) Done) f (suc a) p)) × (ch.added ≡ Some (record { adder = t; number = suc a }, record { pool = pool; procedure = procedure }))
    add_made pool procedure q = deep _ refl (rw (is, q) at (unview M ok x (Act t) ch m))
      where
        by : (w : ℕ) (b : Bool) → is_deep t ≡ false
            → (if b then Fails Late (Some w) t else Changes (record { own = Some (t, Live (M.resume (M.at l) Done) f (suc a) p); made = None; added = Some (record { adder = t; number = suc a }, record { pool = pool; procedure = procedure }); joined = None; froze = None; handing = None })) ≡ Changes ch
            → (is_deep t ≡ false) × (ch.own ≡ Some (t, Live (M.resume (M.at l) Done) f (suc a) p)) × (ch.added ≡ Some (record { adder = t; number = suc a }, record { pool = pool; procedure = procedure }))
        by w true shallow e = absurd (cc e)
        by w false shallow e = let z : record { own = Some (t, Live (M.resume (M.at l) Done) f (suc a) p); made = None; added = Some (record { adder = t; number = suc a }, record { pool = pool; procedure = procedure }); joined = None; froze = None; handing = None } ≡ ch = cc in
            (shallow, sym (ap (λ (y : Change S E L). y.own) z), sym (ap (λ (y : Change S E L). y.added) z))

        on : (o : Option ℕ) → is_deep t ≡ false
            → add_effect x t (Live (M.resume (M.at l) Done) f (suc a) p) (record { adder = t; number = suc a }) (record { pool = pool; procedure = procedure }) o ≡ Changes ch
            → (is_deep t ≡ false) × (ch.own ≡ Some (t, Live (M.resume (M.at l) Done) f (suc a) p)) × (ch.added ≡ Some (record { adder = t; number = suc a }, record { pool = pool; procedure = procedure }))
        on None shallow e = absurd (cc e)
        on (Some w) shallow e = by w _ shallow e

        deep : (b : Bool) → is_deep t ≡ b
            → (if b then Fails Deep None t else add_effect x t (Live (M.resume (M.at l) Done) f (suc a) p) (record { adder = t; number = suc a }) (record { pool = pool; procedure = procedure }) (M.pool_variable pool)) ≡ Changes ch
            → (is_deep t ≡ false) × (ch.own ≡ Some (t, Live (M.resume (M.at l) Done) f (suc a) p)) × (ch.added ≡ Some (record { adder = t; number = suc a }, record { pool = pool; procedure = procedure }))
        deep true b e = absurd (cc e)
        deep false b e = on _ b e

    pub freeze_made : (v : ℕ) (pools : List ℕ) → M.request l ≡ Freeze v pools
        → (ch.own ≡ Some (t, Live (M.resume (M.at l) (Content (x.content v))) f a p)) × ((changed M ch x).frozen v ≡ true) × ((changed M ch x).content v ≡ x.content v)
    freeze_made v pools q =
        let e : Changes (record { own = Some (t, Live (M.resume (M.at l) (Content (x.content v))) f a p); made = None; added = None; joined = None; froze = Some v; handing = None }) ≡ Changes ch = rw (is, q) at (unview M ok x (Act t) ch m) in
        let z : record { own = Some (t, Live (M.resume (M.at l) (Content (x.content v))) f a p); made = None; added = None; joined = None; froze = Some v; handing = None } ≡ ch = cc in (
          sym (ap (λ (y : Change S E L). y.own) z),
          frozen_now M ok x (Act t) ch m v (record { task = t; local = l; forks = f; adds = a; puts = p; pools = pools; label = refl; is = is; asked = q }),
          ap (λ o. with_join M.join o x.content v) (sym (ap (λ (y : Change S E L). y.joined) z)),
        )

    pub pause_made : M.request l ≡ Pause → ch.own ≡ Some (t, Live (M.resume (M.at l) Done) f a p)
    pause_made q =
        let e : Changes (record { own = Some (t, Live (M.resume (M.at l) Done) f a p); made = None; added = None; joined = None; froze = None; handing = None }) ≡ Changes ch = rw (is, q) at (unview M ok x (Act t) ch m) in
        let z : record { own = Some (t, Live (M.resume (M.at l) Done) f a p); made = None; added = None; joined = None; froze = None; handing = None } ≡ ch = cc in
        sym (ap (λ (y : Change S E L). y.own) z)

    pub no_fault : (kind : _) → M.request l ≡ Fault kind → ⊥
    no_fault kind q = cc (rw (is, q) at (unview M ok x (Act t) ch m))

  pub hand_made : (x : State S E L) (h : Handler E) (e : E) (ch : Change S E L) → Makes M x (Hand h e) ch → (post : Post) → x.handlers h ≡ Some post
      → ch.made ≡ Some (handed h.adder h.number e, Live (M.start_handler post.procedure e) 0 0 0)
  hand_made x h e ch m post is =
      let made : Option (Name E × Task L) = Some (handed h.adder h.number e, Live (M.start_handler post.procedure e) 0 0 0) in
      let q : Changes (record { own = None; made = made; added = None; joined = None; froze = None; handing = Some (h, e) }) ≡ Changes ch = rw is at (unview M ok x (Hand h e) ch m) in
      let z : record { own = None; made = made; added = None; joined = None; froze = None; handing = Some (h, e) } ≡ ch = cc in
      sym (ap (λ (y : Change S E L). y.made) z)

  -- a way and one that goes on from its end
  pub way_append : (x d e : State S E L) (ls ms : List (Label E)) → Way M x ls d → Way M d ms e → Way M x (ls ++ ms) e
  way_append x d e [] ms here w2 = w2
  way_append x d e (l ∷ ls) ms (goes ch m en w) w2 = goes ch m en (way_append (changed M ch x) d e ls ms w w2)
