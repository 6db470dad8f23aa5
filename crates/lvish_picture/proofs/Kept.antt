-- What any step keeps: the order of logs, core runs, the table; and a table at the start.
use Rattle.std.proofs.Common.{◌≡◌, ◌≢◌, ◌⊎◌, ◌↔◌, inl, inr, ℕ, ◌<◌, true, false, List, [], ◌∷◌, ◌++◌, length, take, get_or, refl, sym, ap, ◌∙◌, subst, arith, AllPairs, Contains, ◌+◌, length-append, slice_set, slice_get, Option, Some, suc, zero, ◌≤◌, replicate, All, slice_index, None, option_map, option_and_then, unwrap_or}
use Rattle.std.proofs.lemmas.List.Elements.{Contains-get_or, Contains-append_left, Contains-append_right, Contains-append_cases}
use Rattle.std.proofs.lemmas.List.{append-nil, get_or_default, get_or-replicate}
use Rattle.std.proofs.lemmas.Option.{slice_get_within}
use Rattle.std.proofs.Math.ListN.{length-replicate}
use mathlib.Core.Path.{fun_ext}
use Rattle.lvish_calculus.specs.Machine.{Machine, IsLawful, IsBelow}
use Rattle.lvish_calculus.specs.declared.label.Label.{Label}
use Rattle.lvish_calculus.specs.declared.label.Label.TheVariants.{Act}
use Rattle.lvish_calculus.specs.Calculus.{State, start, Task, Running, Error, Change, Changes, Fails, IsReady, IsEnabled, IsRun, after, changed, step, effect, request_effect, task_effect, Post}
use Rattle.lvish_names.specs.Names.{Name, Handler, handler_of}
use Rattle.lvish_calculus.specs.Laws.{Reaches}
use Rattle.lvish_calculus.specs.Handing.{HandsOldestFirst, NoRepeats}
use Rattle.lvish_calculus.specs.declared.request.ErrorKind.{ErrorKind}
use Rattle.lvish_calculus.specs.declared.request.Request.{Request}
use Rattle.lvish_calculus.proofs.CoreRuns.{below_later, IsNext, no_later_one, no_later_less, no_later_new, core_act, core_none}
use Rattle.lvish_calculus.proofs.Moves.{ready_at}
use Rattle.lvish_calculus.proofs.SameThere.{run_join}
use Rattle.lvish_variable.proofs.Kept.{append_pairs}
use Rattle.lvish_variable.specs.Variable.{VariableView as Variable, logged}
use Rattle.lvish_handlers.specs.Handlers.{HandlersView as Handlers}
use Rattle.lvish_handlers.specs.declared.held.Held.{Held}
use Rattle.lvish_picture.specs.Logs.{IsBefore, IsInOrder}
use Rattle.lvish_picture.specs.Picture.{Table, seats, table_picture, post_in, handed_in, IsTable, IsPictured, seats_at}
use Rattle.lvish_picture.specs.Steps.{IsAsking, AreHeld}
use Rattle.lvish_picture.specs.Laws.{IsTableStep, OneStepMore}
use Rattle.lvish_picture.specs.Counts.{pool_of, BegunIsPictured}
use Rattle.lvish_picture.proofs.Slots.{cases_3, in_take, has_or_not, written, earlier, read}
use Rattle.lvish_picture.proofs.Tables.{seats_held, table_held}
use Rattle.lvish_picture.proofs.Handed.{names_at}

module _ {S E R A L : Type 0} (M : Machine S E R A L) (ok : IsLawful M) where
  pub in_order_start : (v : ℕ) → IsInOrder M [] (start M) v []
  in_order_start v = record { all = λ e. (λ z. absurd (omega (arith, z.1)), λ z. absurd (ok.events_bottom e z)); order = λ i j d lt ins. absurd (omega arith) }

  -- events that came with the last step
  pub record Fresh (c d : State S E L) (v : ℕ) (fs : List E) : Type 0 where
    pub are : (e : E) → Contains fs e ↔ (IsBelow M e (d.content v) × (IsBelow M e (c.content v) → ⊥))
    pub ascending : AllPairs (λ x y. (x ≢ y) × (M.event_le x y ≡ true)) fs

  module _ (xs : List (Label E)) (l : Label E) (c d : State S E L) (rc : Reaches M xs c) (rd : Reaches M (xs ++ l ∷ []) d) where
    keeps_below : (v : ℕ) (e : E) → IsBelow M e (c.content v) → IsBelow M e (d.content v)
    keeps_below v e = below_later M ok (xs ++ l ∷ []) xs (l ∷ []) c d rd refl rc v e

    before_more : (v : ℕ) (e x : E) → IsBelow M e (d.content v) → IsBefore M xs v e x → IsBefore M (xs ++ l ∷ []) v e x
    before_more v e x below h = record { other = h.other; no_later = no_later_one M ok xs l c d rc rd v e x h.no_later below; lesser = λ z. h.lesser (no_later_less M ok xs l c d rc rd v x e z) }

    pub grows : (v : ℕ) (es fs : List E) → IsInOrder M xs c v es → Fresh c d v fs → (below_split : (e : E) → IsBelow M e (d.content v) → IsBelow M e (c.content v) ⊎ (IsBelow M e (c.content v) → ⊥)) → IsInOrder M (xs ++ l ∷ []) d v (es ++ fs)
    grows v es fs old new split = record {
      all = λ e. (
        λ z. elim (Contains-append_cases es fs e z) [ inl a ↦ keeps_below v e ((old.all e).0 a) | inr b ↦ ((new.are e).0 b).0 ],
        λ z. elim (split e z) [ inl a ↦ Contains-append_left es fs e ((old.all e).1 a) | inr b ↦ Contains-append_right es fs e ((new.are e).1 (z, b)) ],
      );
      order = append_pairs (IsBefore M (xs ++ l ∷ []) v) es fs
          (λ i j k lt inside. before_more v _ _ (keeps_below v _ ((old.all _).0 (Contains-get_or es i k (omega arith)))) (old.order i j k lt inside))
          (λ i j k lt inside. record {
            other = (new.ascending i j k lt inside).0;
            no_later = no_later_one M ok xs l c d rc rd v _ _ (no_later_new M ok xs l c d rc rd v _ _ (((new.are _).0 (Contains-get_or fs j k inside)).1)) (((new.are _).0 (Contains-get_or fs i k (omega arith))).0);
            lesser = λ z. (new.ascending i j k lt inside).1;
          })
          (λ e x a b.
          let below : IsBelow M e (c.content v) = (old.all e).0 a in
          let none : IsBelow M x (c.content v) → ⊥ = ((new.are x).0 b).1 in
          record {
            other = λ z. none (subst (λ k. IsBelow M k (c.content v)) z below);
            no_later = no_later_one M ok xs l c d rc rd v e x (no_later_new M ok xs l c d rc rd v e x none) (keeps_below v e below);
            lesser = λ z. absurd (none (no_later_less M ok xs l c d rc rd v x e z xs [] c (sym (append-nil xs)) rc below));
          });
    }

  -- the entry after the first n, where these are the handed ones
  pub next_entry : ((e : E) → M.event_le e e ≡ true) → (xs : List (Label E)) (c : State S E L) (h : Handler E) (v : ℕ) (es : List E) (n : ℕ) (e : E) → IsInOrder M xs c v es
      → n < length es → get_or es n e ≡ e → ((x : E) → c.handed h x ≡ false → Contains (take n es) x → ⊥) → IsNext M ok xs c h v e
  next_entry le_refl xs c h v es n e old lt is handed = record {
    first = λ x below un.
        let k = (old.all x).1 below in
        elim (cases_3 (k.0) n) [
          | inl y ↦ absurd (handed x un (in_take es n (k.0) x y k.1 k.2))
          | inr (inl y) ↦
              let same : e ≡ x = sym is ∙ get_or_default es n e x lt ∙ ap (λ i. get_or es i x) (sym y) ∙ k.2 in
              (λ q r c1 w r1 b. subst (λ z. IsBelow M z (c1.content v)) (sym same) b, λ _. subst (λ z. M.event_le e z ≡ true) same (le_refl e))
          | inr (inr y) ↦
              let o : IsBefore M xs v e x = subst (λ z. IsBefore M xs v e z) (get_or_default es (k.0) e x k.1 ∙ k.2) (subst (λ z. IsBefore M xs v z (get_or es (k.0) e)) is (old.order n (k.0) e y k.1)) in
              (o.no_later, o.lesser)
        ];
  }

pub same_state : {S E L : Type 0} (c d : State S E L) → c.content ≡ d.content → c.frozen ≡ d.frozen → c.tasks ≡ d.tasks → c.handlers ≡ d.handlers → c.handed ≡ d.handed → c ≡ d
same_state c d a b t h k = λ i. record { content = a i; frozen = b i; tasks = t i; handlers = h i; handed = k i }

module _ {S E R A L : Type 0} (M : Machine S E R A L) (ok : IsLawful M) where
  -- a log that grows by what is fresh
  pub record Grown (c d : Table S E L) (v : ℕ) (log : List E) : Type 0 where
    pub from : Variable S E
    pub was : slice_get c.variables v ≡ Some from
    pub more : List E
    pub is : log ≡ logged from.log ++ more
    pub fresh : Fresh M ok (table_picture M c) (table_picture M d) v more

  -- nothing is fresh
  pub none_fresh : (c d : State S E L) (v : ℕ) → d.content v ≡ c.content v → Fresh M ok c d v []
  none_fresh c d v same = record {
    are = λ y. (λ z. absurd (omega (arith, z.1)), λ z. absurd (z.1 (subst (λ q. IsBelow M y q) same z.0)));
    ascending = λ i j k lt ins. absurd (omega arith);
  }

  pub unchanged : (c d : Table S E L) (v : ℕ) (x : Variable S E) → (table_picture M d).content v ≡ (table_picture M c).content v → slice_get c.variables v ≡ Some x → Grown c d v (logged x.log)
  unchanged c d v x same was = record { from = x; was = was; more = []; is = sym (append-nil (logged x.log)); fresh = none_fresh (table_picture M c) (table_picture M d) v same }

  -- one variable changes
  pub one_grown : (c d : Table S E L) (v : ℕ) (x y : Variable S E) (fs : List E) → slice_get c.variables v ≡ Some x → d.variables ≡ slice_set c.variables v y → logged y.log ≡ logged x.log ++ fs
      → Fresh M ok (table_picture M c) (table_picture M d) v fs → ((w : ℕ) → (w ≡ v → ⊥) → (table_picture M d).content w ≡ (table_picture M c).content w)
      → (w : ℕ) (z : Variable S E) → slice_get d.variables w ≡ Some z → Grown c d w (logged z.log)
  one_grown c d v x y fs was vars longer fresh others w z is = elim (read c.variables v y w z (slice_get_within c.variables v x was) (ap (λ l. slice_get l w) (sym vars) ∙ is)) [
    | written wv zy ↦ record {
      from = x;
      was = ap (λ u. slice_get c.variables u) wv ∙ was;
      more = fs;
      is = ap (λ (q : Variable S E). logged q.log) zy ∙ longer;
      fresh = subst (λ u. Fresh M ok (table_picture M c) (table_picture M d) u fs) (sym wv) fresh;
    }
    | earlier ne old ↦ unchanged c d w z (others w ne) old
  ]

  module _ (c d : Table S E L) (xs : List (Label E)) (l : Label E) (k : IsPictured M c xs) (en : IsEnabled M (table_picture M c) l) (st : step M (table_picture M c) l ≡ Running (table_picture M d)) where
    reaches : Reaches M (xs ++ l ∷ []) (table_picture M d)
    reaches = run_join M xs (l ∷ []) (Running (start M)) (Running (table_picture M c)) (Running (table_picture M d)) k.reached (en, st)

    pub kept_by : HandsOldestFirst M (xs ++ l ∷ []) → ((v : ℕ) (x : Variable S E) → slice_get d.variables v ≡ Some x → Grown c d v (logged x.log)) → IsTable M d → IsTableStep M c xs l d
    kept_by core grown table = record {
      enabled = en;
      stepped = st;
      kept = record {
        reached = reaches;
        core = core;
        logs = λ v x is.
            let g = grown v x is in
            subst (λ q. IsInOrder M (xs ++ l ∷ []) (table_picture M d) v q) (sym g.is)
            (grows M ok xs l (table_picture M c) (table_picture M d) k.reached reaches v (logged g.from.log) g.more (k.logs v g.from g.was) g.fresh
            (λ e z. has_or_not M.event_same ok.event_same_is (M.events ((table_picture M c).content v)) e));
        table = table;
      };
    }

  -- a task's step
  module _ (c : Table S E L) (xs : List (Label E)) (t : Name E) (l : L) (f a p : ℕ) (r : Request S R L) (k : IsPictured M c xs) (asks : IsAsking M c t l f a p r) (ready : IsReady M (table_picture M c) r) where
    pub act_enabled : IsEnabled M (table_picture M c) (Act t)
    act_enabled = ready_at M ok (table_picture M c) t l f a p r asks.live asks.asked ready

    pub act_outcome : effect M (table_picture M c) (Act t) ≡ request_effect M (table_picture M c) t (M.at l) f a p r
    act_outcome = ap (λ q. task_effect M (table_picture M c) t q) asks.live ∙ ap (λ q. request_effect M (table_picture M c) t (M.at l) f a p q) asks.asked

    pub act_kept : (d : Table S E L) (ch : Change S E L) → request_effect M (table_picture M c) t (M.at l) f a p r ≡ Changes ch → changed M ch (table_picture M c) ≡ table_picture M d
        → ((v : ℕ) (x : Variable S E) → slice_get d.variables v ≡ Some x → Grown c d v (logged x.log)) → IsTable M d → IsTableStep M c xs (Act t) d
    act_kept d ch does is grown table =
        kept_by c d xs (Act t) k act_enabled (ap (λ o. after M (table_picture M c) o) (act_outcome ∙ does) ∙ ap Running is) (core_act M ok xs t k.core) grown table

    pub act_errs : (kind : ErrorKind) (v : Option ℕ) → request_effect M (table_picture M c) t (M.at l) f a p r ≡ Fails kind v t
        → IsEnabled M (table_picture M c) (Act t) × (step M (table_picture M c) (Act t) ≡ Error kind v t)
        × IsRun M (Running (start M)) (xs ++ Act t ∷ []) (Error kind v t) × HandsOldestFirst M (xs ++ Act t ∷ [])
    act_errs kind v does =
        let st : step M (table_picture M c) (Act t) ≡ Error kind v t = ap (λ o. after M (table_picture M c) o) (act_outcome ∙ does) in
        (act_enabled, st, run_join M xs (Act t ∷ []) (Running (start M)) (Running (table_picture M c)) (Error kind v t) k.reached (act_enabled, st), core_act M ok xs t k.core)

  -- other counts of running tasks
  pub reheld : (c : Table S E L) (xs : List (Label E)) (l : Label E) (vs : List (Variable S E)) (hss kss : List (Handlers E)) (ts : List (Name E × Task L)) → AreHeld hss kss
      → IsTableStep M c xs l (record { variables = vs; handlers = hss; tasks = ts }) → IsTableStep M c xs l (record { variables = vs; handlers = kss; tasks = ts })
  reheld c xs l vs hss kss ts same s =
      let d : Table S E L = record { variables = vs; handlers = hss; tasks = ts } in
      let e : Table S E L = record { variables = vs; handlers = kss; tasks = ts } in
      let q : seats vs hss ≡ seats vs kss = sym (seats_held vs kss hss same) in
      let is : table_picture M d ≡ table_picture M e = λ i. record { content = (table_picture M d).content; frozen = (table_picture M d).frozen; tasks = (table_picture M d).tasks; handlers = post_in M.event_same (q i); handed = handed_in M.event_same (q i) } in
      let k : IsPictured M d (xs ++ l ∷ []) = s.kept in
      record {
        enabled = s.enabled;
        stepped = s.stepped ∙ ap Running is;
        kept = record {
          reached = subst (λ z. Reaches M (xs ++ l ∷ []) z) is k.reached;
          core = k.core;
          logs = λ v x at. subst (λ z. IsInOrder M (xs ++ l ∷ []) z v (logged x.log)) is (k.logs v x at);
          table = table_held M d kss ts k.table same;
        };
      }

  pub one_step_more : OneStepMore M
  one_step_more n c d l k s = record {
    run = k.run ++ l ∷ [];
    count = let len : length (k.run ++ l ∷ []) ≡ length k.run + 1 = length-append k.run (l ∷ []) in let is : length k.run ≡ n = k.count in omega arith;
    pictured = s.kept;
  }

no_seats : {S E : Type 0} (xs : List (Variable S E)) (hss : List (Handlers E)) → ((v : ℕ) (hs : Handlers E) → slice_get hss v ≡ Some hs → hs.held ≡ []) → seats xs hss ≡ []
no_seats [] hss none = refl
no_seats (x ∷ xs) [] none = refl
no_seats (x ∷ xs) (hs ∷ hss) none = ap (λ l. seats_at (logged x.log) l ++ seats xs hss) (none 0 hs refl) ∙ no_seats xs hss (λ v ks e. none (suc v) ks e)

all_default : {X Y : Type 0} (f : X → Y) (d : Y) (xs : List X) → ((v : ℕ) (x : X) → slice_get xs v ≡ Some x → f x ≡ d) → (v : ℕ) → unwrap_or (option_map f (slice_get xs v)) d ≡ d
all_default f d [] h v = refl
all_default f d (x ∷ xs) h zero = h 0 x refl
all_default f d (x ∷ xs) h (suc v) = all_default f d xs (λ w y e. h (suc w) y e) v

none_in : {X : Type 0} (P : X → Type 0) (xs : List X) → xs ≡ [] → All P xs
none_in P xs e = subst (λ l. All P l) (sym e) (λ k d lt. absurd (omega arith))

module _ {S E R A L : Type 0} (M : Machine S E R A L) (ok : IsLawful M) where
  no_pool : (t : Name E) (p : ℕ) → pool_of (start M) t ≡ Some p → ⊥
  no_pool t p = by (handler_of t)
    where
      by : (o : Option (Handler E)) → option_and_then (λ h. option_map (λ (post : Post). post.pool) ((start M).handlers h)) o ≡ Some p → ⊥
      by None e = cc
      by (Some h) e = cc

  pub begun_is_pictured : BegunIsPictured M
  begun_is_pictured pools c b =
      let held : (v : ℕ) (hs : Handlers E) → slice_get c.handlers v ≡ Some hs → hs.held ≡ [] = (λ v hs e. ap (λ (q : Handlers E). q.held) (b.handlers v hs e)) in
      let empty : seats c.variables c.handlers ≡ [] = no_seats c.variables c.handlers held in
      let is : table_picture M c ≡ start M = same_state (table_picture M c) (start M)
      (fun_ext (all_default (λ (x : Variable S E). x.state) M.bottom c.variables (λ v x e. ap (λ (q : Variable S E). q.state) (b.variables v x e))))
      (fun_ext (all_default (λ (x : Variable S E). x.frozen) false c.variables (λ v x e. ap (λ (q : Variable S E). q.frozen) (b.variables v x e))))
      (fun_ext b.tasks)
      (fun_ext (λ h. ap (λ l. post_in M.event_same l h) empty))
      (fun_ext (λ h. fun_ext (λ e. ap (λ l. handed_in M.event_same l h e) empty))) in (
        is,
        record {
          reached = ap Running (sym is);
          core = core_none M ok;
          logs = λ v x e. subst (λ (q : State S E L). IsInOrder M [] q v (logged x.log)) (sym is)
              (subst (λ l. IsInOrder M [] (start M) v l) (sym (ap (λ (q : Variable S E). logged q.log) (b.variables v x e))) (in_order_start M ok v));
          table = record {
            beside = b.beside;
            within = λ v x hs e f. none_in (λ (h : Held E). h.handed ≤ length x.log) hs.held (held v hs f);
            once = subst (λ l. NoRepeats (names_at l)) (sym empty) tt;
            own = λ v hs f. none_in (λ (h : Held E). M.pool_variable h.pool ≡ Some v) hs.held (held v hs f);
          };
        },
        λ v hs p e of.
            let lt : p < pools = b.known p v of in
            let running : hs.running ≡ replicate pools 0 = ap (λ (q : Handlers E). q.running) (b.handlers v hs e) in
            let len : length hs.running ≡ pools = ap length running ∙ length-replicate pools 0 in
            let value : slice_index hs.running p ≡ 0 = ap (λ l. slice_index l p) running ∙ get_or-replicate pools p 0 0 lt in (
              omega arith,
              record {
                names = [];
                once = tt;
                just = λ t. (λ z. absurd z, λ z. no_pool t p (subst (λ (q : State S E L). pool_of q t ≡ Some p) is z.1));
                count = sym value;
              },
            ),
      )
