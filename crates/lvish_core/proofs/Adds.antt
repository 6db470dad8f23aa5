-- The adding of a handler, over any machine.
use Rattle.std.proofs.Common.{◌≡◌, ◌<◌, ◌++◌, ℕ, suc, Bool, true, false, if◌then◌else◌, List, length, take, drop, Option, Some, None, slice_get, unwrap_or, option_map, Result, Ok, Err, IsErrAnd, refl, sym, ap, subst, ◌∙◌, arith}
use Rattle.std.proofs.lemmas.Option.{same_Some}
use Rattle.lvish_core.specs.Vocabulary.{Add, Done, Late, Deep, Act, Held, MOST_PROGRAM_STEPS, HandlerPlace, Other, Stepped, StepFault, Memory, Moved}
use Rattle.lvish_calculus.specs.Machine.{Machine, IsLawful}
use Rattle.lvish_calculus.specs.Calculus.{Post, Task, Live, Change, Changes, Fails, effect, add_effect}
use Rattle.lvish_names.specs.Names.{Name, Handler, is_deep, same_handler}
use Rattle.lvish_variable.specs.Variable.{VariableView as Variable}
use Rattle.lvish_handlers.specs.Handlers.{HandlersView as Handlers, IsHeld}
use Rattle.lvish_picture.specs.Picture.{Table}
use Rattle.lvish_picture.specs.Steps.{IsAddStep}
use Rattle.lvish_picture.specs.Laws.{ActKept, NewHandlerIsNew, IsHandlerSeated}
use Rattle.lvish_picture.specs.Counts.{ActCounted}
use Rattle.lvish_picture.proofs.Cursors.{seat_with}
use Rattle.lvish_picture.proofs.Slots.{get_there, contained, among}
use Rattle.lvish_core.specs.Core.{CoreView, state}
use Rattle.lvish_core.specs.Tasks.{Sets}
use Rattle.lvish_core.specs.Places.{PlacesAt, SamePlaces, place_at, post_of}
use Rattle.lvish_core.specs.Beside.{AddedAt, CanAdd}
use Rattle.lvish_core.specs.Acts.{IsActing, IsFailing, Acts}
use Rattle.lvish_core.specs.Kept.{IsKept}
use Rattle.lvish_core.specs.laws.Lists.{among_map}
use Rattle.lvish_core.proofs.Counting.{beside}
use Rattle.lvish_core.proofs.Turns.{nobody, on}
use Rattle.lvish_core.proofs.Gets.{rewritten}
use Rattle.lvish_core.proofs.Goes.{Moves, acted, outcome_is, as_asked, same_log}

map_if : {X Y : Type 0} (f : X → Y) (b : Bool) (x : X) (o : Option X) → option_map f (if b then Some x else o) ≡ (if b then Some (f x) else option_map f o)
map_if f true x o = refl
map_if f false x o = refl

-- a variable's mark
pub marked : {S E : Type 0} (xs : List (Variable S E)) (v : ℕ) (x : Variable S E) → slice_get xs v ≡ Some x → x.frozen ≡ unwrap_or (option_map (λ z. z.frozen) (slice_get xs v)) false
marked {S} {E} xs v x at = sym (ap (λ (q : Option (Variable S E)). unwrap_or (option_map (λ z. z.frozen) q) false) at)

-- the places of a core may be put otherwise, where each name has its place
pub index_other : {P S E R A L : Type 0} (M : Machine S E R A L) (variables n : ℕ) (places later : List (Handler E × HandlerPlace)) (c : CoreView P S E L) → IsKept M variables n places c → SamePlaces M.event_same places later → IsKept M variables n later c
index_other M variables n places later c k s = record {
  reached = k.reached;
  standing = k.standing;
  there = k.there;
  counted = k.counted;
  live = k.live;
  index = record {
    posts = λ h. ap (option_map post_of) (s.same h) ∙ k.index.posts h;
    own = λ h p e. k.index.own h p (sym (s.same h) ∙ e);
  };
  steps = k.steps;
  few = k.few;
  numbers = k.numbers;
}

-- as a core stands after its handlers were handed out
abbrev pub with_handlers : {P S E L : Type 0} → CoreView P S E L → List (Handlers E) → CoreView P S E L
with_handlers c hss = record { program = c.program; table = record { variables = c.table.variables; handlers = hss; tasks = c.table.tasks }; steps = c.steps; fault = c.fault; touched = c.touched; freezes = c.freezes }

pub same_handlers : {P S E L : Type 0} (c : CoreView P S E L) {slice new : List (Handlers E)} {n : ℕ} → slice ≡ c.table.handlers → n ≡ length c.table.handlers → new ≡ slice → with_handlers c (take n (new ++ drop (length new) c.table.handlers)) ≡ c
same_handlers c {slice} {new} {n} is len same = ap (with_handlers c) (sym (sym (same ∙ is) ∙ rewritten c.table.handlers new n len (ap length (same ∙ is))))

-- a core whose handlers were handed out and stayed
pub unseated : {P S E R A L : Type 0} {M : Machine S E R A L} {variables n : ℕ} {places later : List (Handler E × HandlerPlace)} {c : CoreView P S E L} → IsKept M variables n places c → SamePlaces M.event_same places later
    → {slice new : List (Handlers E)} {m : ℕ} → slice ≡ c.table.handlers → m ≡ length c.table.handlers → new ≡ slice → IsKept M variables n later (with_handlers c (take m (new ++ drop (length new) c.table.handlers)))
unseated {M = M} {variables = variables} {n = n} {places = places} {later = later} {c = c} k s is len same = subst (λ v. IsKept M variables n later v) (sym (same_handlers c is len same)) (index_other M variables n places later c k s)

-- an answer for want of memory
pub wanted : {P S E R A L : Type 0} (M : Machine S E R A L) (old new : CoreView P S E L) (t : Name E) (r : Result (Stepped × Moved E L) StepFault) → IsErrAnd r (λ e. e ≡ Memory) → new ≡ old → Acts M old t new r
wanted M old new t (Ok s) h same = absurd h
wanted M old new t (Err e) h same = (h, same)

module _ {P S E R A L : Type 0} {M : Machine S E R A L} (ok : IsLawful M) {variables n : ℕ} {places : List (Handler E × HandlerPlace)} {old : CoreView P S E L} (kept : IsKept M variables n places old)
    (known : (k v : ℕ) → M.pool_variable k ≡ Some v → v < variables) {t : Name E} {at : L} {f a p pool procedure : ℕ} (acts : IsActing M old t at f a p (Add pool procedure)) where
  pub pool_is_there : M.pool_variable pool ≡ None → ⊥
  pool_is_there none = let z = ok.add_known acts.local pool procedure acts.asking.asked in absurd (cc (sym none ∙ z.1))

  pub variable_is_there : (v : ℕ) → M.pool_variable pool ≡ Some v → v < length old.table.variables
  variable_is_there v own = let lt : v < variables = known pool v own in let there : length old.table.variables ≡ variables = kept.there in omega arith

  pub late_fails : is_deep t ≡ false → (v : ℕ) → M.pool_variable pool ≡ Some v → (state M old).frozen v ≡ true → IsFailing M old t Late (Some v)
  late_fails shallow v own frozen =
      let x = get_there old.table.variables v (variable_is_there v own) in
      record { at = at; forks = f; adds = a; puts = p; request = Add pool procedure; acting = acts; errs = (v, x.0, shallow, own, x.1, marked old.table.variables v x.0 x.1 ∙ frozen, refl) }

  abbrev name : Handler E
  name = record { adder = t; number = suc a }

  not_held : NewHandlerIsNew M → (w : ℕ) (hs : Handlers E) → slice_get old.table.handlers w ≡ Some hs → IsHeld hs.held name → ⊥
  not_held fresh w hs is held = fresh kept.standing.run old.table t acts.local f a p w hs kept.standing.pictured acts.asking.live is held

  pub can_add : NewHandlerIsNew M → (v : ℕ) → M.pool_variable pool ≡ Some v → CanAdd name (record { variable = v; pool = pool; procedure = procedure }) old.table.handlers
  can_add fresh v own =
      let b = beside kept known (record { variable = v; pool = pool; procedure = procedure }) own in
      record { beside = b.0; at = b.1; fresh = not_held fresh v b.0 b.1; there = (kept.counted v b.0 pool b.1 own).0 }

  pub no_place : NewHandlerIsNew M → place_at M.event_same places name ≡ None
  no_place fresh = by _ _ (kept.index.posts name) refl
    where
      by : (o : Option HandlerPlace) (post : Option Post) → option_map post_of o ≡ post → (state M old).handlers name ≡ post → o ≡ None
      by None post e is = refl
      by (Some p) None e is = absurd (cc e)
      by (Some p) (Some post) e is =
          let s = seat_with M ok old.table kept.standing.run kept.standing.pictured name post is in
          let seated : IsHandlerSeated old.table s.0 s.1 s.2 s.3 = s.4 in
          absurd (not_held fresh s.0 s.2 seated.beside (subst (λ (k : Handler E). IsHeld (s.2).held k) s.5 (contained _ _ (among_map (λ (k : Held E). k.name) s.3 (s.2).held (among _ _ seated.held)))))

  module _ (room : old.steps < MOST_PROGRAM_STEPS) (law : ActKept IsAddStep M) (law2 : ActCounted IsAddStep M) (shallow : is_deep t ≡ false) {v : ℕ} (own : M.pool_variable pool ≡ Some v) (x : Variable S E) (x_at : slice_get old.table.variables v ≡ Some x) (unfrozen : (state M old).frozen v ≡ false)
      {more : List (Handler E × HandlerPlace)} (put_in : PlacesAt M.event_same places name (Some (record { variable = v; pool = pool; procedure = procedure })) more) {hss : List (Handlers E)}
      (w : AddedAt (record { name = name; pool = pool; procedure = procedure; handed = 0 }) v old.table.handlers hss) {us : List (Name E × Task L)} (sets : Sets M.event_same old.table.tasks t (Live (M.resume at Done) f (suc a) p) us) where
    abbrev new : Table S E L
    new = record { variables = old.table.variables; handlers = hss; tasks = us }

    abbrev add_step : IsAddStep M old.table t new
    add_step = record {
      local = acts.local;
      forks = f;
      adds = a;
      puts = p;
      pool = pool;
      procedure = procedure;
      asking = acts.asking;
      shallow = shallow;
      variable = v;
      of = own;
      at = x;
      at_is = x_at;
      unfrozen = marked old.table.variables v x x_at ∙ unfrozen;
      old = w.from;
      was = w.was;
      new = w.to;
      added = w.added;
      variables = refl;
      handlers = w.is;
      tasks = as_asked acts (λ l. Live (M.resume l Done) f (suc a) p) sets;
    }

    abbrev post : Post
    post = record { pool = pool; procedure = procedure }

    abbrev change : Change S E L
    change = record { own = Some (t, Live (M.resume at Done) f (suc a) p); made = None; added = Some (name, post); joined = None; froze = None; handing = None }

    does : effect M (state M old) (Act t) ≡ Changes change
    does = outcome_is acts
        ∙ ap (λ b. if b then Fails Deep None t else add_effect (state M old) t (Live (M.resume at Done) f (suc a) p) name post (M.pool_variable pool)) shallow
        ∙ ap (add_effect (state M old) t (Live (M.resume at Done) f (suc a) p) name post) own
        ∙ ap (λ b. if b then Fails Late (Some v) t else Changes change) unfrozen

    owns : (k : Handler E) (q : HandlerPlace) (b : Bool) → place_at M.event_same more k ≡ (if b then Some (record { variable = v; pool = pool; procedure = procedure }) else place_at M.event_same places k) → place_at M.event_same more k ≡ Some q
        → M.pool_variable q.pool ≡ Some q.variable
    owns k q true e is = subst (λ (z : HandlerPlace). M.pool_variable z.pool ≡ Some z.variable) (same_Some _ _ (sym e ∙ is)) own
    owns k q false e is = kept.index.own k q (sym e ∙ is)

    pub adding : Moves ok kept (Act t) change new more Other
    adding = acted ok kept acts change new more Other refl room (record {
      does = does;
      turn = on t acts.local _ f a p f (suc a) p acts.asking.live (omega arith) (omega arith) (omega arith);
      begins = nobody;
      steps = λ xs k. law xs old.table new t k add_step;
      logs = same_log old.table.variables;
      long = refl;
      counted = law2 kept.standing.run old.table new t kept.standing.pictured kept.counted add_step;
      index = record {
        posts = λ k. ap (option_map post_of) (put_in.each k) ∙ map_if post_of (same_handler M.event_same k name) _ (place_at M.event_same places k)
            ∙ ap (λ q. if same_handler M.event_same k name then Some post else q) (kept.index.posts k);
        own = λ k q e. owns k q (same_handler M.event_same k name) (put_in.each k) e;
      };
      indices = sets.indices;
      last = λ x e. absurd (cc e);
    })
