-- Tables whose variables, handlers or counts change.
use Rattle.std.proofs.Common.{◌≡◌, inl, inr, ℕ, suc, zero, ◌+◌, ◌<◌, ◌≤◌, List, [], ◌∷◌, ◌++◌, length, length-append, length-set, All, slice_set, slice_get, Some, refl, sym, ap, ◌∙◌, subst, arith}
use Rattle.std.proofs.lemmas.List.{length-map}
use Rattle.std.proofs.lemmas.Option.{slice_get_within}
use Rattle.lvish_calculus.specs.Machine.{Machine}
use Rattle.lvish_calculus.specs.Calculus.{Task}
use Rattle.lvish_names.specs.Names.{Name}
use Rattle.lvish_calculus.specs.Handing.{IsAmong, NoRepeats}
use Rattle.lvish_calculus.proofs.Sound.{some_is}
use Rattle.lvish_variable.specs.declared.entry.Entry.{Entry}
use Rattle.lvish_variable.specs.Variable.{VariableView as Variable, logged}
use Rattle.lvish_handlers.specs.declared.held.Held.{Held}
use Rattle.lvish_handlers.specs.Handlers.{HandlersView as Handlers, IsWithin}
use Rattle.lvish_picture.specs.Picture.{Table, seats, seats_at, IsTable}
use Rattle.lvish_picture.specs.Steps.{AreHeld}
use Rattle.lvish_picture.proofs.Seats.{place, among_all, all_among, among_mid}
use Rattle.lvish_picture.proofs.Handed.{names_at, names_longer}
use Rattle.lvish_picture.proofs.Slots.{written, earlier, read, get_there}

pub logged_len : {E : Type 0} (log : List (Entry E)) → length (logged log) ≡ length log
logged_len log = length-map log (λ e. e.event)

head_is : {E : Type 0} (h k : Handlers E) (hss kss : List (Handlers E)) → AreHeld (k ∷ kss) (h ∷ hss) → h.held ≡ k.held
head_is h k hss kss e = cc

tail_is : {E : Type 0} (h k : Handlers E) (hss kss : List (Handlers E)) → AreHeld (k ∷ kss) (h ∷ hss) → AreHeld kss hss
tail_is h k hss kss e = cc

module _ {S E : Type 0} where
  -- the same handlers
  pub seats_held : (xs : List (Variable S E)) (hss kss : List (Handlers E)) → AreHeld kss hss → seats xs hss ≡ seats xs kss
  seats_held [] hss kss e = refl
  seats_held (x ∷ xs) [] [] e = refl
  seats_held (x ∷ xs) [] (k ∷ kss) e = absurd (cc e)
  seats_held (x ∷ xs) (h ∷ hss) [] e = absurd (cc e)
  seats_held (x ∷ xs) (h ∷ hss) (k ∷ kss) e =
      ap (λ l. seats_at (logged x.log) l ++ seats xs hss) (head_is h k hss kss e) ∙ ap (λ l. seats_at (logged x.log) k.held ++ l) (seats_held xs hss kss (tail_is h k hss kss e))

pub held_there : {E : Type 0} (hss kss : List (Handlers E)) (v : ℕ) (hs : Handlers E) → AreHeld kss hss → slice_get hss v ≡ Some hs → (ks : Handlers E) × (slice_get kss v ≡ Some ks) × (hs.held ≡ ks.held)
held_there [] kss v hs e a = absurd (cc a)
held_there (h ∷ hss) [] v hs e a = absurd (cc e)
held_there {E} (h ∷ hss) (k ∷ kss) zero hs e a = (k, refl, ap (λ (z : Handlers E). z.held) (sym (some_is a)) ∙ head_is h k hss kss e)
held_there (h ∷ hss) (k ∷ kss) (suc v) hs e a = held_there hss kss v hs (tail_is h k hss kss e) a

held_len : {E : Type 0} (hss kss : List (Handlers E)) → AreHeld kss hss → length hss ≡ length kss
held_len hss kss e = sym (length-map hss (λ h. h.held)) ∙ ap length e ∙ length-map kss (λ h. h.held)

module _ {S E R A L : Type 0} (M : Machine S E R A L) where
  pub table_held : (c : Table S E L) (hss : List (Handlers E)) (ts : List (Name E × Task L)) → IsTable M c → AreHeld c.handlers hss → IsTable M (record { variables = c.variables; handlers = hss; tasks = ts })
  table_held c hss ts k e = record {
    beside = held_len hss c.handlers e ∙ k.beside;
    within = λ v x hs a b. let f = held_there hss c.handlers v hs e b in subst (λ l. All (λ (h : Held E). h.handed ≤ length x.log) l) (sym f.2) (k.within v x f.0 a f.1);
    once = subst (λ l. NoRepeats (names_at l)) (sym (seats_held c.variables hss c.handlers e)) k.once;
    own = λ v hs b. let f = held_there hss c.handlers v hs e b in subst (λ l. All (λ (h : Held E). M.pool_variable h.pool ≡ Some v) l) (sym f.2) (k.own v f.0 f.1);
  }

  -- the handlers beside a variable
  pub handlers_there : (c : Table S E L) (v : ℕ) (x : Variable S E) → IsTable M c → slice_get c.variables v ≡ Some x → (hs : Handlers E) × (slice_get c.handlers v ≡ Some hs)
  handlers_there c v x k a = get_there c.handlers v (subst (λ n. v < n) (sym k.beside) (slice_get_within c.variables v x a))

  pub table_variable : (c : Table S E L) (v : ℕ) (x y : Variable S E) (fs : List E) (ts : List (Name E × Task L)) → IsTable M c → slice_get c.variables v ≡ Some x → logged y.log ≡ logged x.log ++ fs
      → IsTable M (record { variables = slice_set c.variables v y; handlers = c.handlers; tasks = ts })
  table_variable c v x y fs ts k a longer =
      let hs = handlers_there c v x k a in
      let p = place c.variables c.handlers v x hs.0 a hs.1 in
      let lx : length (logged x.log) ≡ length x.log = logged_len x.log in
      let ly : length (logged y.log) ≡ length y.log = logged_len y.log in
      let lxy : length (logged y.log) ≡ length (logged x.log) + length fs = ap length longer ∙ length-append (logged x.log) fs in
      let up : length x.log ≤ length y.log = omega arith in
      record {
        beside = k.beside ∙ sym (length-set c.variables v y);
        within = λ w z ks b g. elim (read c.variables v y w z (slice_get_within c.variables v x a) b) [
          | written wv zy ↦ subst (λ (q : Variable S E). IsWithin ks q.log) (sym zy)
              (λ i d lt. let le = k.within v x ks a (subst (λ u. slice_get c.handlers u ≡ Some ks) wv g) i d lt in omega (arith, le, up))
          | earlier ne is ↦ k.within w z ks is g
        ];
        once = subst NoRepeats (ap (λ l. names_at l) p.there ∙ sym (names_longer p.before (logged x.log) (logged y.log) hs.0.held p.after) ∙ sym (ap (λ l. names_at l) (p.variable y))) k.once;
        own = k.own;
      }

  pub table_handlers : (c : Table S E L) (v : ℕ) (x : Variable S E) (hs ks : Handlers E) (ts : List (Name E × Task L)) → IsTable M c → slice_get c.variables v ≡ Some x → slice_get c.handlers v ≡ Some hs
      → (h : Held E) (before after : List (Held E)) → ks.held ≡ before ++ h ∷ after → ((q : Held E) → IsAmong q (before ++ after) → IsAmong q hs.held) → (h.handed ≤ length x.log) × (M.pool_variable h.pool ≡ Some v)
      → NoRepeats (names_at (seats c.variables (slice_set c.handlers v ks))) → IsTable M (record { variables = c.variables; handlers = slice_set c.handlers v ks; tasks = ts })
  table_handlers c v x hs ks ts k a b h before after is old fits once = record {
    beside = length-set c.handlers v ks ∙ k.beside;
    within = λ w z js g f. elim (read c.handlers v ks w js (slice_get_within c.handlers v hs b) f) [
      | written wv jk ↦
          let zx : x ≡ z = some_is (sym a ∙ ap (λ u. slice_get c.variables u) (sym wv) ∙ g) in
          subst (λ (q : Handlers E). IsWithin q z.log) (sym jk) (subst (λ (q : Variable S E). IsWithin ks q.log) zx (among_all (λ (h : Held E). h.handed ≤ length x.log) ks.held (λ h i. (each h i).0)))
      | earlier ne is ↦ k.within w z js g is
    ];
    once = once;
    own = λ w js f. elim (read c.handlers v ks w js (slice_get_within c.handlers v hs b) f) [
      | written wv jk ↦ subst (λ (q : Handlers E). All (λ (h : Held E). M.pool_variable h.pool ≡ Some w) q.held) (sym jk)
          (subst (λ u. All (λ (h : Held E). M.pool_variable h.pool ≡ Some u) ks.held) (sym wv) (among_all (λ (h : Held E). M.pool_variable h.pool ≡ Some v) ks.held (λ h i. (each h i).1)))
      | earlier ne is ↦ k.own w js is
    ];
  }
    where
      each : (q : Held E) → IsAmong q ks.held → (q.handed ≤ length x.log) × (M.pool_variable q.pool ≡ Some v)
      each q z = elim (among_mid q h before after (subst (λ l. IsAmong q l) is z)) [
        | inl same ↦ subst (λ (y : Held E). (y.handed ≤ length x.log) × (M.pool_variable y.pool ≡ Some v)) (sym same) fits
        | inr other ↦ (all_among (λ (y : Held E). y.handed ≤ length x.log) q hs.held (k.within v x hs a b) (old q other), all_among (λ (y : Held E). M.pool_variable y.pool ≡ Some v) q hs.held (k.own v hs b) (old q other))
      ]
