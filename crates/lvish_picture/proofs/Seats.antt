-- The handlers of all variables, as one variable or its handlers change.
use Rattle.std.proofs.Common.{◌≡◌, ◌⊎◌, inl, inr, ℕ, suc, zero, List, [], ◌∷◌, ◌++◌, map, slice_set, slice_get, get_or, All, Some, refl, sym, ap, ◌∙◌, subst, append_assoc}
use Rattle.std.proofs.lemmas.List.Elements.{All-contains, Contains-get_or, Contains-append_left, Contains-append_right, Contains-append_cases}
use Rattle.lvish_calculus.specs.Handing.{IsAmong}
use Rattle.lvish_calculus.proofs.Sound.{some_is}
use Rattle.lvish_variable.specs.Variable.{VariableView as Variable, logged}
use Rattle.lvish_handlers.specs.declared.held.Held.{Held}
use Rattle.lvish_handlers.specs.Handlers.{HandlersView as Handlers}
use Rattle.lvish_picture.specs.Picture.{HandlerAtLog, seats, seats_at}
use Rattle.lvish_picture.proofs.Slots.{contained, among}

module _ {S E : Type 0} where
  -- the handlers of one variable stand between those of the others
  pub record Place (xs : List (Variable S E)) (hss : List (Handlers E)) (v : ℕ) (x : Variable S E) (hs : Handlers E) : Type 0 where
    pub before : List (HandlerAtLog E)
    pub after : List (HandlerAtLog E)
    pub there : seats xs hss ≡ before ++ (seats_at (logged x.log) hs.held ++ after)
    pub handlers : (ks : Handlers E) → seats xs (slice_set hss v ks) ≡ before ++ (seats_at (logged x.log) ks.held ++ after)
    pub variable : (y : Variable S E) → seats (slice_set xs v y) hss ≡ before ++ (seats_at (logged y.log) hs.held ++ after)

  pub place : (xs : List (Variable S E)) (hss : List (Handlers E)) (v : ℕ) (x : Variable S E) (hs : Handlers E) → slice_get xs v ≡ Some x → slice_get hss v ≡ Some hs → Place xs hss v x hs
  place [] hss v x hs a b = absurd (cc a)
  place (y ∷ xs) [] v x hs a b = absurd (cc b)
  place (y ∷ xs) (ks ∷ hss) zero x hs a b =
      let e : y ≡ x = some_is a in
      let f : ks ≡ hs = some_is b in
      record {
        before = [];
        after = seats xs hss;
        there = ap (λ (z : Variable S E). seats_at (logged z.log) ks.held ++ seats xs hss) e ∙ ap (λ (k : Handlers E). seats_at (logged x.log) k.held ++ seats xs hss) f;
        handlers = λ js. ap (λ (z : Variable S E). seats_at (logged z.log) js.held ++ seats xs hss) e;
        variable = λ z. ap (λ (k : Handlers E). seats_at (logged z.log) k.held ++ seats xs hss) f;
      }
  place (y ∷ xs) (ks ∷ hss) (suc v) x hs a b =
      let g = place xs hss v x hs a b in
      let first : List (HandlerAtLog E) = seats_at (logged y.log) ks.held in
      record {
        before = first ++ g.before;
        after = g.after;
        there = ap (λ l. first ++ l) g.there ∙ sym (append_assoc first g.before (seats_at (logged x.log) hs.held ++ g.after));
        handlers = λ js. ap (λ l. first ++ l) (g.handlers js) ∙ sym (append_assoc first g.before (seats_at (logged x.log) js.held ++ g.after));
        variable = λ z. ap (λ l. first ++ l) (g.variable z) ∙ sym (append_assoc first g.before (seats_at (logged z.log) hs.held ++ g.after));
      }

-- two parts of one variable's handlers
pub parted : {E : Type 0} (log : List E) (hb ha : List (Held E)) (after : List (HandlerAtLog E)) → seats_at log (hb ++ ha) ++ after ≡ seats_at log hb ++ (seats_at log ha ++ after)
parted log [] ha after = refl
parted log (h ∷ hb) ha after = ap (λ l. record { log = log; held = h } ∷ l) (parted log hb ha after)

pub middle : {E : Type 0} (log : List E) (held hb ha : List (Held E)) (before after : List (HandlerAtLog E)) → held ≡ hb ++ ha → before ++ (seats_at log held ++ after) ≡ (before ++ seats_at log hb) ++ (seats_at log ha ++ after)
middle log held hb ha before after e =
    ap (λ l. before ++ (seats_at log l ++ after)) e ∙ ap (λ l. before ++ l) (parted log hb ha after) ∙ sym (append_assoc before (seats_at log hb) (seats_at log ha ++ after))

-- elements of two lists, and of lists of handlers
pub among_append : {X : Type 0} (x : X) (ys zs : List X) → IsAmong x (ys ++ zs) → IsAmong x ys ⊎ IsAmong x zs
among_append x ys zs h = elim (Contains-append_cases ys zs x (contained (ys ++ zs) x h)) [ inl z ↦ inl (among ys x z) | inr z ↦ inr (among zs x z) ]

pub among_left : {X : Type 0} (x : X) (ys zs : List X) → IsAmong x ys → IsAmong x (ys ++ zs)
among_left x ys zs h = among (ys ++ zs) x (Contains-append_left ys zs x (contained ys x h))

pub among_right : {X : Type 0} (x : X) (ys zs : List X) → IsAmong x zs → IsAmong x (ys ++ zs)
among_right x ys zs h = among (ys ++ zs) x (Contains-append_right ys zs x (contained zs x h))

-- an element of a list with one more, or with another in its place
pub among_mid : {X : Type 0} (x y : X) (before after : List X) → IsAmong x (before ++ y ∷ after) → (x ≡ y) ⊎ IsAmong x (before ++ after)
among_mid x y before after h = elim (among_append x before (y ∷ after) h) [ inl z ↦ inr (among_left x before after z) | inr (inl e) ↦ inl e | inr (inr z) ↦ inr (among_right x before after z) ]

pub among_other : {X : Type 0} (x y : X) (before after : List X) → IsAmong x (before ++ after) → IsAmong x (before ++ y ∷ after)
among_other x y before after h = elim (among_append x before after h) [ inl z ↦ among_left x before (y ∷ after) z | inr z ↦ among_right x before (y ∷ after) (inr z) ]

pub among_map : {X Y : Type 0} (f : X → Y) (x : X) (xs : List X) → IsAmong x xs → IsAmong (f x) (map f xs)
among_map f x [] h = absurd h
among_map f x (y ∷ xs) (inl e) = inl (ap f e)
among_map f x (y ∷ xs) (inr h) = inr (among_map f x xs h)

pub all_among : {X : Type 0} (P : X → Type 0) (x : X) (xs : List X) → All P xs → IsAmong x xs → P x
all_among P x xs all h = All-contains P xs x all (contained xs x h)

pub among_all : {X : Type 0} (P : X → Type 0) (xs : List X) → ((x : X) → IsAmong x xs → P x) → All P xs
among_all P xs h k d lt = h (get_or xs k d) (among xs (get_or xs k d) (Contains-get_or xs k d lt))

at_log : {E : Type 0} (log : List E) (held : List (Held E)) (s : HandlerAtLog E) → IsAmong s (seats_at log held) → (s.log ≡ log) × IsAmong s.held held
at_log log [] s h = absurd h
at_log {E} log (k ∷ held) s (inl e) = (ap (λ (r : HandlerAtLog E). r.log) e, inl (ap (λ (r : HandlerAtLog E). r.held) e))
at_log log (k ∷ held) s (inr h) = let g = at_log log held s h in (g.0, inr g.1)

module _ {S E : Type 0} where
  -- where a handler is
  pub record Found (xs : List (Variable S E)) (hss : List (Handlers E)) (s : HandlerAtLog E) : Type 0 where
    pub variable : ℕ
    pub at : Variable S E
    pub at_is : slice_get xs variable ≡ Some at
    pub hs : Handlers E
    pub hs_is : slice_get hss variable ≡ Some hs
    pub log : s.log ≡ logged at.log
    pub held : IsAmong s.held hs.held

  pub find_seat : (xs : List (Variable S E)) (hss : List (Handlers E)) (s : HandlerAtLog E) → IsAmong s (seats xs hss) → Found xs hss s
  find_seat [] hss s h = absurd h
  find_seat (x ∷ xs) [] s h = absurd h
  find_seat (x ∷ xs) (hs ∷ hss) s h = elim (among_append s (seats_at (logged x.log) hs.held) (seats xs hss) h) [
    | inl z ↦ let g = at_log (logged x.log) hs.held s z in record { variable = 0; at = x; at_is = refl; hs = hs; hs_is = refl; log = g.0; held = g.1 }
    | inr z ↦ let g = find_seat xs hss s z in record { variable = suc g.variable; at = g.at; at_is = g.at_is; hs = g.hs; hs_is = g.hs_is; log = g.log; held = g.held }
  ]

  pub seat_there : (xs : List (Variable S E)) (hss : List (Handlers E)) (v : ℕ) (x : Variable S E) (hs : Handlers E) (h : Held E) → slice_get xs v ≡ Some x → slice_get hss v ≡ Some hs → IsAmong h hs.held
      → IsAmong (record { log = logged x.log; held = h }) (seats xs hss)
  seat_there xs hss v x hs h a b z =
      let p = place xs hss v x hs a b in
      subst (λ l. IsAmong (record { log = logged x.log; held = h }) l) (sym p.there)
      (among_right (record { log = logged x.log; held = h }) p.before (seats_at (logged x.log) hs.held ++ p.after)
      (among_left (record { log = logged x.log; held = h }) (seats_at (logged x.log) hs.held) p.after (among_map (λ (k : Held E). record { log = logged x.log; held = k }) h hs.held z)))
