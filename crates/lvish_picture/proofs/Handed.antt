-- What the handlers of a table were handed, and where they are.
use Rattle.std.proofs.Common.{◌≡◌, ◌⊎◌, ◌↔◌, inl, inr, ℕ, suc, zero, ◌+◌, ◌<◌, ◌≤◌, Bool, true, false, ◌&&◌, ◌||◌, List, [], ◌∷◌, ◌++◌, length, take, map, get_or, Option, Some, option_map, refl, sym, ap, ◌∙◌, subst, arith, if◌then◌else◌}
use Rattle.std.proofs.Math.Bool.{and-or_distrib_left, and-false, or-false, or_assoc}
use Rattle.std.proofs.Math.Numerals.{add-one}
use Rattle.std.proofs.lemmas.List.{map-append, take-append-le}
use Rattle.std.proofs.lemmas.Bool.{cases_Bool, both_ways}
use Rattle.std.specs.List.{find}
use Rattle.std.specs.Set.{is_member}
use Rattle.lvish_calculus.specs.Calculus.{Post}
use Rattle.lvish_names.specs.Names.{Handler, same_handler}
use Rattle.lvish_calculus.specs.Handing.{IsAmong, NoRepeats}
use Rattle.lvish_calculus.proofs.Names.{swap_ifs, swap_ors, same_handler-true, same_handler-refl, same_handler-other}
use Rattle.lvish_calculus.proofs.Sound.{some_is}
use Rattle.lvish_handlers.specs.declared.held.Held.{Held}
use Rattle.lvish_handlers.specs.Handlers.{one_more}
use Rattle.lvish_picture.specs.Picture.{HandlerAtLog, seats_at, post_in, handed_in}
use Rattle.lvish_picture.proofs.Seats.{among_map, among_mid}

or_parts : (a b c r : Bool) → ((a && (b || c)) || r) ≡ ((a && b) || ((a && c) || r))
or_parts a b c r = ap (λ q. q || r) (and-or_distrib_left a b c) ∙ or_assoc (a && b) (a && c) r

-- the names of handlers
abbrev pub names_at : {E : Type 0} → List (HandlerAtLog E) → List (Handler E)
names_at ss = map (λ s. s.held.name) ss

-- the log's first entries, as many as were handed
abbrev pub first_of : {E : Type 0} → HandlerAtLog E → List E
first_of s = take s.held.handed s.log

abbrev pub post_at : {E : Type 0} → HandlerAtLog E → Post
post_at s = record { pool = s.held.pool; procedure = s.held.procedure }

module _ {E : Type 0} (eq : E → E → Bool) where
  -- one handler's part of what was handed
  abbrev part : Handler E → E → HandlerAtLog E → Bool
  part g y s = same_handler eq g s.held.name && is_member eq (first_of s) y

  member_more : (log : List E) (n : ℕ) (e y : E) → n < length log → get_or log n e ≡ e → is_member eq (take (suc n) log) y ≡ (eq y e || is_member eq (take n log) y)
  member_more [] n e y lt is = absurd (omega arith)
  member_more (x ∷ log) zero e y lt is = ap (λ z. eq y z || false) is
  member_more (x ∷ log) (suc n) e y lt is = ap (λ b. eq y x || b) (member_more log n e y (omega arith) is) ∙ swap_ors (eq y x) (eq y e) (is_member eq (take n log) y)

  -- a handler that is handed its log's next entry
  pub handed_more : (before after : List (HandlerAtLog E)) (log : List E) (h : Held E) (e : E) (g : Handler E) (y : E) → h.handed < length log → get_or log h.handed e ≡ e
      → handed_in eq (before ++ record { log = log; held = one_more h } ∷ after) g y ≡ ((same_handler eq g h.name && eq y e) || handed_in eq (before ++ record { log = log; held = h } ∷ after) g y)
  handed_more [] after log h e g y some next =
      ap (λ n. (same_handler eq g h.name && is_member eq (take n log) y) || handed_in eq after g y) (add-one h.handed)
      ∙ ap (λ b. (same_handler eq g h.name && b) || handed_in eq after g y) (member_more log h.handed e y some next)
      ∙ or_parts (same_handler eq g h.name) (eq y e) (is_member eq (take h.handed log) y) (handed_in eq after g y)
  handed_more (s ∷ before) after log h e g y some next =
      ap (λ b. part g y s || b) (handed_more before after log h e g y some next)
      ∙ swap_ors (part g y s) (same_handler eq g h.name && eq y e) (handed_in eq (before ++ record { log = log; held = h } ∷ after) g y)

  post_cons : (s : HandlerAtLog E) (xs : List (HandlerAtLog E)) (g : Handler E) → post_in eq (s ∷ xs) g ≡ (if same_handler eq g s.held.name then Some (post_at s) else post_in eq xs g)
  post_cons s xs g = by (same_handler eq g s.held.name)
    where
      by : (b : Bool) → option_map post_at (if b then Some s else find (λ r. same_handler eq g r.held.name) xs) ≡ (if b then Some (post_at s) else post_in eq xs g)
      by true = refl
      by false = refl

  -- the posts of two lists with one head
  post_head : (s : HandlerAtLog E) (xs ys : List (HandlerAtLog E)) (g : Handler E) → post_in eq xs g ≡ post_in eq ys g → post_in eq (s ∷ xs) g ≡ post_in eq (s ∷ ys) g
  post_head s xs ys g e = post_cons s xs g ∙ ap (λ o. if same_handler eq g s.held.name then Some (post_at s) else o) e ∙ sym (post_cons s ys g)

  post_same : (s r : HandlerAtLog E) (xs : List (HandlerAtLog E)) (g : Handler E) → s.held.name ≡ r.held.name → post_at s ≡ post_at r → post_in eq (s ∷ xs) g ≡ post_in eq (r ∷ xs) g
  post_same s r xs g name post =
      post_cons s xs g
      ∙ ap (λ (n : Handler E). if same_handler eq g n then Some (post_at s) else post_in eq xs g) name
      ∙ ap (λ (p : Post). if same_handler eq g r.held.name then Some p else post_in eq xs g) post
      ∙ sym (post_cons r xs g)

  pub post_more : (before after : List (HandlerAtLog E)) (log : List E) (h : Held E) (g : Handler E)
      → post_in eq (before ++ record { log = log; held = one_more h } ∷ after) g ≡ post_in eq (before ++ record { log = log; held = h } ∷ after) g
  post_more [] after log h g = post_same (record { log = log; held = one_more h }) (record { log = log; held = h }) after g refl refl
  post_more (s ∷ before) after log h g = post_head s (before ++ record { log = log; held = one_more h } ∷ after) (before ++ record { log = log; held = h } ∷ after) g (post_more before after log h g)

  -- a longer log
  handed_longer_at : (log fs : List E) (held : List (Held E)) (after : List (HandlerAtLog E)) (g : Handler E) (y : E) → ((h : Held E) → IsAmong h held → h.handed ≤ length log)
      → handed_in eq (seats_at (log ++ fs) held ++ after) g y ≡ handed_in eq (seats_at log held ++ after) g y
  handed_longer_at log fs [] after g y within = refl
  handed_longer_at log fs (h ∷ held) after g y within =
      ap (λ l. (same_handler eq g h.name && is_member eq l y) || handed_in eq (seats_at (log ++ fs) held ++ after) g y) (take-append-le h.handed log fs (within h (inl refl)))
      ∙ ap (λ b. (same_handler eq g h.name && is_member eq (take h.handed log) y) || b) (handed_longer_at log fs held after g y (λ k z. within k (inr z)))

  pub was_handed_longer : (before : List (HandlerAtLog E)) (log fs : List E) (held : List (Held E)) (after : List (HandlerAtLog E)) (g : Handler E) (y : E) → ((h : Held E) → IsAmong h held → h.handed ≤ length log)
      → handed_in eq (before ++ (seats_at (log ++ fs) held ++ after)) g y ≡ handed_in eq (before ++ (seats_at log held ++ after)) g y
  was_handed_longer [] log fs held after g y within = handed_longer_at log fs held after g y within
  was_handed_longer (s ∷ before) log fs held after g y within = ap (λ b. part g y s || b) (was_handed_longer before log fs held after g y within)

  post_longer_at : (log other : List E) (held : List (Held E)) (after : List (HandlerAtLog E)) (g : Handler E) → post_in eq (seats_at other held ++ after) g ≡ post_in eq (seats_at log held ++ after) g
  post_longer_at log other [] after g = refl
  post_longer_at log other (h ∷ held) after g =
      post_same (record { log = other; held = h }) (record { log = log; held = h }) (seats_at other held ++ after) g refl refl
      ∙ post_head (record { log = log; held = h }) (seats_at other held ++ after) (seats_at log held ++ after) g (post_longer_at log other held after g)

  pub post_longer : (before : List (HandlerAtLog E)) (log other : List E) (held : List (Held E)) (after : List (HandlerAtLog E)) (g : Handler E)
      → post_in eq (before ++ (seats_at other held ++ after)) g ≡ post_in eq (before ++ (seats_at log held ++ after)) g
  post_longer [] log other held after g = post_longer_at log other held after g
  post_longer (s ∷ before) log other held after g = post_head s (before ++ (seats_at other held ++ after)) (before ++ (seats_at log held ++ after)) g (post_longer before log other held after g)

  -- a handler that was handed nothing
  pub handed_added : (before after : List (HandlerAtLog E)) (s : HandlerAtLog E) (g : Handler E) (y : E) → s.held.handed ≡ 0 → handed_in eq (before ++ s ∷ after) g y ≡ handed_in eq (before ++ after) g y
  handed_added [] after s g y none =
      ap (λ n. (same_handler eq g s.held.name && is_member eq (take n s.log) y) || handed_in eq after g y) none
      ∙ ap (λ b. b || handed_in eq after g y) (and-false (same_handler eq g s.held.name))
  handed_added (r ∷ before) after s g y none = ap (λ b. part g y r || b) (handed_added before after s g y none)

-- the names as the seats change
pub names_longer_at : {E : Type 0} (log other : List E) (held : List (Held E)) (after : List (HandlerAtLog E)) → names_at (seats_at other held ++ after) ≡ names_at (seats_at log held ++ after)
names_longer_at log other [] after = refl
names_longer_at log other (h ∷ held) after = ap (λ l. h.name ∷ l) (names_longer_at log other held after)

pub names_longer : {E : Type 0} (before : List (HandlerAtLog E)) (log other : List E) (held : List (Held E)) (after : List (HandlerAtLog E)) → names_at (before ++ (seats_at other held ++ after)) ≡ names_at (before ++ (seats_at log held ++ after))
names_longer before log other held after =
    map-append (λ s. s.held.name) before (seats_at other held ++ after) ∙ ap (λ l. names_at before ++ l) (names_longer_at log other held after) ∙ sym (map-append (λ s. s.held.name) before (seats_at log held ++ after))

pub names_more : {E : Type 0} (before after : List (HandlerAtLog E)) (s r : HandlerAtLog E) → s.held.name ≡ r.held.name → names_at (before ++ s ∷ after) ≡ names_at (before ++ r ∷ after)
names_more [] after s r e = ap (λ n. n ∷ names_at after) e
names_more (q ∷ before) after s r e = ap (λ l. q.held.name ∷ l) (names_more before after s r e)

among_more : {E : Type 0} (h : Handler E) (before after : List (HandlerAtLog E)) (s : HandlerAtLog E) → IsAmong h (names_at (before ++ s ∷ after)) → (h ≡ s.held.name) ⊎ IsAmong h (names_at (before ++ after))
among_more h before after s z = subst (λ l. (h ≡ s.held.name) ⊎ IsAmong h l) (sym (map-append (λ r. r.held.name) before after))
    (among_mid h s.held.name (names_at before) (names_at after) (subst (λ l. IsAmong h l) (map-append (λ r. r.held.name) before (s ∷ after)) z))

pub once_added : {E : Type 0} (before after : List (HandlerAtLog E)) (s : HandlerAtLog E) → NoRepeats (names_at (before ++ after)) → (IsAmong s.held.name (names_at (before ++ after)) → ⊥) → NoRepeats (names_at (before ++ s ∷ after))
once_added [] after s once new = (new, once)
once_added (r ∷ before) after s once new = (
  λ z. elim (among_more r.held.name before after s z) [ inl e ↦ new (inl (sym e)) | inr y ↦ once.0 y ],
  once_added before after s once.1 (λ z. new (inr z)),
)

-- no two handlers have one name
pub one_seat : {E : Type 0} (ss : List (HandlerAtLog E)) (s r : HandlerAtLog E) → NoRepeats (names_at ss) → IsAmong s ss → IsAmong r ss → s.held.name ≡ r.held.name → s ≡ r
one_seat [] s r once a b e = absurd a
one_seat {E} (q ∷ ss) s r once (inl a) (inl b) e = a ∙ sym b
one_seat {E} (q ∷ ss) s r once (inl a) (inr b) e =
    absurd (once.0 (subst (λ (n : Handler E). IsAmong n (names_at ss)) (sym e ∙ ap (λ (k : HandlerAtLog E). k.held.name) a) (among_map (λ (k : HandlerAtLog E). k.held.name) r ss b)))
one_seat {E} (q ∷ ss) s r once (inr a) (inl b) e =
    absurd (once.0 (subst (λ (n : Handler E). IsAmong n (names_at ss)) (e ∙ ap (λ (k : HandlerAtLog E). k.held.name) b) (among_map (λ (k : HandlerAtLog E). k.held.name) s ss a)))
one_seat (q ∷ ss) s r once (inr a) (inr b) e = one_seat ss s r once.1 a b e

module _ {E : Type 0} (eq : E → E → Bool) (is : (a b : E) → (eq a b ≡ true) ↔ (a ≡ b)) where
  pub post_added : (before after : List (HandlerAtLog E)) (s : HandlerAtLog E) (g : Handler E) → (IsAmong s.held.name (names_at before) → ⊥)
      → post_in eq (before ++ s ∷ after) g ≡ (if same_handler eq g s.held.name then Some (post_at s) else post_in eq (before ++ after) g)
  post_added [] after s g new = post_cons eq s after g
  post_added (r ∷ before) after s g new =
      post_cons eq r (before ++ s ∷ after) g
      ∙ ap (λ (o : Option Post). if same_handler eq g r.held.name then Some (post_at r) else o) (post_added before after s g (λ z. new (inr z)))
      ∙ swap_ifs (same_handler eq g r.held.name) (same_handler eq g s.held.name) _ _ _ (λ a b. new (inl (sym (same_handler-true eq is g s.held.name b) ∙ same_handler-true eq is g r.held.name a)))
      ∙ ap (λ (o : Option Post). if same_handler eq g s.held.name then Some (post_at s) else o) (sym (post_cons eq r (before ++ after) g))

  -- a handler's post, and what it was handed
  pub post_there : (ss : List (HandlerAtLog E)) (s : HandlerAtLog E) → NoRepeats (names_at ss) → IsAmong s ss → post_in eq ss s.held.name ≡ Some (post_at s)
  post_there [] s once h = absurd h
  post_there (r ∷ ss) s once (inl e) =
      post_cons eq r ss s.held.name
      ∙ ap (λ b. if b then Some (post_at r) else post_in eq ss s.held.name) (subst (λ (q : HandlerAtLog E). same_handler eq s.held.name q.held.name ≡ true) e (same_handler-refl eq is s.held.name))
      ∙ ap (λ (q : HandlerAtLog E). Some (post_at q)) (sym e)
  post_there (r ∷ ss) s once (inr h) =
      post_cons eq r ss s.held.name
      ∙ ap (λ b. if b then Some (post_at r) else post_in eq ss s.held.name) (same_handler-other eq is s.held.name r.held.name (λ e. once.0 (subst (λ (n : Handler E). IsAmong n (names_at ss)) e (among_map (λ (k : HandlerAtLog E). k.held.name) s ss h))))
      ∙ post_there ss s once.1 h

  pub post_found : (ss : List (HandlerAtLog E)) (g : Handler E) (post : Post) → post_in eq ss g ≡ Some post → (s : HandlerAtLog E) × IsAmong s ss × (s.held.name ≡ g) × (post_at s ≡ post)
  post_found [] g post e = absurd (cc e)
  post_found (r ∷ ss) g post e = elim (cases_Bool (same_handler eq g r.held.name)) [
    | inl b ↦ (r, inl refl, sym (same_handler-true eq is g r.held.name b), some_is (sym (ap (λ q. if q then Some (post_at r) else post_in eq ss g) b) ∙ sym (post_cons eq r ss g) ∙ e))
    | inr b ↦ let f = post_found ss g post (sym (ap (λ q. if q then Some (post_at r) else post_in eq ss g) b) ∙ sym (post_cons eq r ss g) ∙ e) in (f.0, inr f.1, f.2, f.3)
  ]

  none_handed : (ss : List (HandlerAtLog E)) (g : Handler E) (y : E) → (IsAmong g (names_at ss) → ⊥) → handed_in eq ss g y ≡ false
  none_handed [] g y none = refl
  none_handed (r ∷ ss) g y none =
      ap (λ b. (b && is_member eq (first_of r) y) || handed_in eq ss g y) (same_handler-other eq is g r.held.name (λ e. none (inl e)))
      ∙ none_handed ss g y (λ z. none (inr z))

  pub handed_event_there : (ss : List (HandlerAtLog E)) (s : HandlerAtLog E) (y : E) → NoRepeats (names_at ss) → IsAmong s ss → handed_in eq ss s.held.name y ≡ is_member eq (first_of s) y
  handed_event_there [] s y once h = absurd h
  handed_event_there (r ∷ ss) s y once (inl e) =
      ap (λ b. (b && is_member eq (first_of r) y) || handed_in eq ss s.held.name y) (subst (λ (q : HandlerAtLog E). same_handler eq s.held.name q.held.name ≡ true) e (same_handler-refl eq is s.held.name))
      ∙ ap (λ b. is_member eq (first_of r) y || b) (none_handed ss s.held.name y (λ z. once.0 (subst (λ (q : HandlerAtLog E). IsAmong q.held.name (names_at ss)) e z)))
      ∙ or-false (is_member eq (first_of r) y)
      ∙ ap (λ (q : HandlerAtLog E). is_member eq (first_of q) y) (sym e)
  handed_event_there (r ∷ ss) s y once (inr h) =
      ap (λ b. (b && is_member eq (first_of r) y) || handed_in eq ss s.held.name y) (same_handler-other eq is s.held.name r.held.name (λ e. once.0 (subst (λ (n : Handler E). IsAmong n (names_at ss)) e (among_map (λ (k : HandlerAtLog E). k.held.name) s ss h))))
      ∙ handed_event_there ss s y once.1 h

  -- the names are just those of the handlers that have a post
  pub name_known : (ss : List (HandlerAtLog E)) (g : Handler E) → IsAmong g (names_at ss) → (post : Post) × (post_in eq ss g ≡ Some post)
  name_known [] g h = absurd h
  name_known (r ∷ ss) g h = elim (cases_Bool (same_handler eq g r.held.name)) [
    | inl b ↦ (post_at r, post_cons eq r ss g ∙ ap (λ q. if q then Some (post_at r) else post_in eq ss g) b)
    | inr b ↦ let f = name_known ss g (later b h) in (f.0, post_cons eq r ss g ∙ ap (λ q. if q then Some (post_at r) else post_in eq ss g) b ∙ f.1)
  ]
    where
      later : same_handler eq g r.held.name ≡ false → IsAmong g (names_at (r ∷ ss)) → IsAmong g (names_at ss)
      later b (inl e) = absurd (both_ways _ b (subst (λ (n : Handler E). same_handler eq g n ≡ true) e (same_handler-refl eq is g)))
      later b (inr z) = z
