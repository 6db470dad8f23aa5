-- Layered code is stratified, so one end shows all its runs.
use Rattle.std.proofs.Common.{◌≡◌, ℕ, zero, suc, ◌<◌, ℤ, Bool, true, false, List, [], ◌∷◌, Option, Some, None, if◌then◌else◌, length, refl, sym, subst, arith, Contains}
use Rattle.std.specs.Prelude.{nat_eq, unwrap_or, ◌==◌}
use Rattle.std.specs.List.{slice_get}
use Rattle.std.proofs.lemmas.Bool.{cond_both}
use Rattle.lvish_names.specs.Names.{Name, main, same_name}
use Rattle.lvish_calculus.specs.declared.label.Label.{Label}
use Rattle.lvish_calculus.specs.declared.request.Request.TheVariants as ask
use Rattle.lvish_calculus.specs.Machine.{Machine, IsLawful}
use Rattle.lvish_calculus.specs.Calculus.{Absent, Live, State, start}
use Rattle.lvish_calculus.specs.Laws.{Reaches}
use Rattle.lvish_calculus.proofs.SameThere.{Base, over}
use Rattle.lvish_calculus.proofs.Names.{same_name-true, nat_eq-true, nat_eq-refl}
use Rattle.lvish_calculus.proofs.Sound.{IsSound}
use Rattle.lvish_calculus.proofs.Keeps.{sound_start}
use Rattle.lvish_calculus.proofs.Runs.{walked, way_keeps, reached}
use Rattle.lvish_code.specs.Flat as flat
use Rattle.lvish_task.specs.Vocabulary.{Any, AnyRead, Event, Request, Instruction, Routine, Ask, Put, Handle, Freeze}
use Rattle.lvish_task.specs.declared.script_code.ScriptCode.{ScriptCode}
use Rattle.lvish_task.specs.declared.stack.Stack.{Stack}
use Rattle.lvish_task.specs.Run.{functions, started, callee_in, routine, begun, nowhere, asked, instructions_in}
use Rattle.lvish_alike.specs.Layered.{FreeRuns, PoolRuns, FreezesAt, RoutineWrites, IsLayered}
use Rattle.lvish_alike.specs.Strata.{Writes, IsOver, IsStratified}
use Rattle.lvish_alike.proofs.Tasks.{RequestIn}
use Rattle.lvish_alike.proofs.Main.{bottom, MainStack, RequestMain, main_begins}
use Rattle.lvish_alike.proofs.Layers.{live_parts, free_on, pool_on, main_asks, Holds, Who, is_main, is_free, is_pooled, who, free_asks, pool_asks, freezer}
use Rattle.lvish_alike.proofs.LayersKept.{holds_after}

-- ---- the pools of a freeze

-- those that the first freeze of the variable names
abbrev pub first_pools : ℕ → List Instruction → List ℕ
first_pools v [] = []
first_pools v (Ask (Freeze x w ps each) ∷ is) = if nat_eq w v then ps else first_pools v is
first_pools v (i ∷ is) = first_pools v is

-- there is such a freeze where there is one
abbrev HasFirst : ℕ → List ℕ → List Instruction → Type 0
HasFirst v ps is = (place : ℕ) × (x : ℕ) × (each : Option ℕ) × (slice_get is place ≡ Some (Ask (Freeze x v ps each)))

first_stands : (v : ℕ) (is : List Instruction) (place x : ℕ) (ps : List ℕ) (each : Option ℕ) → slice_get is place ≡ Some (Ask (Freeze x v ps each)) → HasFirst v (first_pools v is) is
first_stands v [] place x ps each e = absurd (cc e)
first_stands v (Ask (Freeze y w qs d) ∷ is) zero x ps each e =
    let same : w ≡ v = cc e in
    subst (λ b. HasFirst v (if b then qs else first_pools v is) (Ask (Freeze y w qs d) ∷ is)) (sym (subst (λ u. nat_eq w u ≡ true) same (nat_eq-refl w))) (zero, y, d, (λ i. Some (Ask (Freeze y (same i) qs d))))
first_stands v (Ask (Freeze y w qs d) ∷ is) (suc place) x ps each e = by (nat_eq w v) refl (first_stands v is place x ps each e)
  where
    by : (b : Bool) → nat_eq w v ≡ b → HasFirst v (first_pools v is) is → HasFirst v (if b then qs else first_pools v is) (Ask (Freeze y w qs d) ∷ is)
    by true t z = let same = nat_eq-true w v t in (zero, y, d, (λ i. Some (Ask (Freeze y (same i) qs d))))
    by false t z = (suc z.0, z.1, z.2, z.3)
first_stands v (i ∷ is) zero x ps each e = absurd (cc e)
first_stands v (i ∷ is) (suc place) x ps each e = let z = first_stands v is place x ps each e in (suc z.0, z.1, z.2, z.3)

module _ (c : flat.Code) (ly : IsLayered c) where
  abbrev pub waited : ℕ → List ℕ
  waited v = first_pools v (instructions_in (slice_get c.routines c.main))

  waited_is : (i v : ℕ) (ps : List ℕ) → FreezesAt c i v ps → waited v ≡ ps
  waited_is i v ps f = let z = first_stands v (instructions_in (slice_get c.routines c.main)) i f.0 ps f.1 f.2 in ly.same z.0 i v (waited v) ps (z.1, z.2, z.3) f

  begins_first : (k : ℕ) (xs : List ℤ) → (started c k xs).top.place ≡ 0
  begins_first k xs = by (routine c k)
    where
      by : (o : Option Routine) → (unwrap_or (callee_in c k xs o) (nowhere c)).place ≡ 0
      by None = refl
      by (Some r) = cond_both (length xs == r.parameters) (Some (begun k xs r)) None (λ o. (unwrap_or o (nowhere c)).place ≡ 0) (λ e. refl) (λ e. refl)

module _ (sc : ScriptCode) (ly : IsLayered sc.flat) (B : Base Any Event AnyRead ℤ) (ok : IsLawful (over B (functions sc))) where
  abbrev c : flat.Code
  c = sc.flat

  abbrev M : Machine Any Event AnyRead ℤ Stack
  M = over B (functions sc)

  abbrev place_of : Stack → ℕ
  place_of l = bottom c ly l.top l.below

  -- at the start there is main alone
  first_live : (t : Name Event) (l : Stack) (f a p : ℕ) (b : Bool) → same_name M.event_same t main ≡ b → (if b then Live M.start 0 0 0 else Absent) ≡ Live l f a p → (t ≡ main) × (M.start ≡ l)
  first_live t l f a p true e is = (same_name-true M.event_same ok.event_same_is t main e, live_parts _ _ _ _ _ _ _ _ is)
  first_live t l f a p false e is = absurd (cc is)

  first_task : (t : Name Event) (l : Stack) (f a p : ℕ) → (start M).tasks t ≡ Live l f a p → (t ≡ main) × (M.start ≡ l)
  first_task t l f a p is = first_live t l f a p _ refl is

  first_place : place_of M.start ≡ 0
  first_place = begins_first c ly c.main []

  holds_first : Holds sc ly B ok (start M)
  holds_first = record {
    of_main = λ l f a p is. subst (λ (k : Stack). MainStack c ly k.top k.below) (first_task main l f a p is).1 (main_begins c ly);
    passed = λ l f a p is i v ps g lt. let here = subst (λ k. i < place_of k) (sym (first_task main l f a p is).1) lt in let zero_place = first_place in absurd (omega (arith, here, zero_place));
    free = λ t l f a p ne none is. absurd (ne (first_task t l f a p is).0);
    pooled = λ t h post l f a p of there is. absurd (cc there);
    handlers = λ h post is. absurd (cc is);
    frozen = λ v z. absurd (cc z);
  }

  holds : (xs : List (Label Event)) (s : State Any Event Stack) → Reaches M xs s → Holds sc ly B ok s
  holds xs s run = way_keeps M ok (Holds sc ly B ok) (λ d l ch m en z h. holds_after sc ly B ok d h z l ch m en) (start M) s xs (sound_start M ok) (walked M ok main xs (start M) s run).way holds_first

  module _ (xs : List (Label Event)) (s : State Any Event Stack) (run : Reaches M xs s) where
    abbrev h : Holds sc ly B ok s
    h = holds xs s run

    abbrev sound : IsSound s
    sound = reached M ok xs s run

    waits : (t : Name Event) (l : Stack) (f a p v : ℕ) (pools : List ℕ) → s.tasks t ≡ Live l f a p → (asked c l).request ≡ ask.Freeze v pools → (q : ℕ) → Contains (waited c ly v) q → Contains pools q
    waits t l f a p v pools is asks q has =
        let z = freezer sc ly B ok s h sound t l (who sc ly B ok s h sound t l f a p is) v pools asks in
        let at : FreezesAt c (place_of (asked c l).at) v pools = subst (RequestMain c ly (place_of (asked c l).at)) asks (main_asks c ly l z.1).request in
        subst (λ ps. Contains ps q) (waited_is c ly (place_of (asked c l).at) v pools at) has

    -- main writes to nothing that is frozen
    main_spares : (l : Stack) (i v : ℕ) (ps : List ℕ) → FreezesAt c i v ps → i < place_of (asked c l).at → (r : Request Any AnyRead Stack) → RequestMain c ly (place_of (asked c l).at) r → Writes M r v → ⊥
    main_spares l i v ps g lt (ask.Put w d) req wr = req i ps (subst (λ x. FreezesAt c i x ps) (sym wr) g) lt
    main_spares l i v ps g lt (ask.Add pool k) req wr = req.0 v wr i ps g lt
    main_spares l i v ps g lt r req wr = absurd wr

    free_spares : (i v : ℕ) (ps : List ℕ) → FreezesAt c i v ps → (r : Request Any AnyRead Stack) → RequestIn c (FreeRuns c) (free_on c ly) r → Writes M r v → ⊥
    free_spares i v ps g (ask.Put w d) (j, place, t, o, runs, at) wr = ly.free i v j ps g runs (place, Ask (Put w t o), at, wr)
    free_spares i v ps g (ask.Add pool k) (j, place, runs, at) wr = ly.free i v j ps g runs (place, Ask (Handle pool k), at, wr)
    free_spares i v ps g r req wr = absurd wr

    pool_writes : (pool v : ℕ) (r : Request Any AnyRead Stack) → RequestIn c (PoolRuns c pool) (pool_on c ly pool) r → Writes M r v → (j : ℕ) × PoolRuns c pool j × RoutineWrites c j v
    pool_writes pool v (ask.Put w d) (j, place, t, o, runs, at) wr = (j, runs, (place, Ask (Put w t o), at, wr))
    pool_writes pool v (ask.Add q k) (j, place, runs, at) wr = (j, runs, (place, Ask (Handle q k), at, wr))
    pool_writes pool v r req wr = absurd wr

    writers : (t : Name Event) (l : Stack) (f a p v : ℕ) → s.tasks t ≡ Live l f a p → Writes M (asked c l).request v → s.frozen v ≡ true → IsOver M (waited c ly) s t
    writers t l f a p v is wr z = by (who sc ly B ok s h sound t l f a p is)
      where
        by : Who sc ly B ok s h sound t l → IsOver M (waited c ly) s t
        by (is_main e m) =
            let b = h.frozen v z in
            let here = subst (λ u. s.tasks u ≡ Live l f a p) e is in
            let asks = main_asks c ly l m in
            absurd (main_spares l b.0 v b.1 b.2 ((asks.same b.0 (v, b.1, b.2)).0 (b.4 l f a p here)) (asked c l).request asks.request wr)
        by (is_free ne none i) = let b = h.frozen v z in absurd (free_spares b.0 v b.1 b.2 (asked c l).request (free_asks sc ly B ok s h sound l i) wr)
        by (is_pooled k post of there i) =
            let b = h.frozen v z in
            let y = pool_writes post.pool v (asked c l).request (pool_asks sc ly B ok s h sound post.pool l i) wr in
            let g = ly.pooled b.0 v y.0 post.pool b.1 b.2 y.1 y.2 in
            record {
              variable = g.1;
              frozen = b.3 g.0 g.1 g.2 g.4 g.3;
              pool = post.pool;
              listed = subst (λ ps. Contains ps post.pool) (sym (waited_is c ly g.0 g.1 g.2 g.4)) g.5;
              in_pool = record { handler = k; of = of; post = post; is = there; listed = (0, arith_zero, refl) };
            }
          where
            arith_zero : 0 < suc 0
            arith_zero = omega arith

  pub stratified : IsStratified M (waited c ly)
  stratified = record { waits = λ xs s run. waits xs s run; writers = λ xs s run. writers xs s run }
