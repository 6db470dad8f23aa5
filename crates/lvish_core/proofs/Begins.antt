-- A core at the start, over any machine.
use Rattle.std.proofs.Common.{◌≡◌, ◌<◌, ℕ, zero, suc, false, List, [], length, replicate, slice_get, Some, None, option_map, refl, sym, ap, subst, ◌∙◌, arith}
use Rattle.std.proofs.Math.ListN.{length-replicate}
use Rattle.std.proofs.lemmas.Option.{same_Some}
use Rattle.lvish_calculus.specs.Machine.{Machine, IsLawful}
use Rattle.lvish_calculus.specs.Calculus.{Task, Absent, Live, State, Running, IsLive}
use Rattle.lvish_names.specs.Names.{Name, Handler, main}
use Rattle.lvish_calculus.specs.Live.{HasLive}
use Rattle.lvish_calculus.proofs.Among.{Count}
use Rattle.lvish_variable.specs.Variable.{VariableView as Variable}
use Rattle.lvish_handlers.specs.Handlers.{HandlersView as Handlers}
use Rattle.lvish_picture.specs.Steps.{IsTableBegun as IsBegunTable}
use Rattle.lvish_picture.specs.Counts.{BegunIsPictured}
use Rattle.lvish_core.specs.declared.handler_place.HandlerPlace.{HandlerPlace}
use Rattle.lvish_core.specs.Core.{CoreView, IsBegun}
use Rattle.lvish_core.specs.Places.{place_at, post_of}
use Rattle.lvish_core.specs.Tasks.{Sets}
use Rattle.lvish_core.specs.Kept.{IsKept, AreFew}
use Rattle.lvish_core.proofs.Turns.{Start, child, lives_joined, few_joined}
use Rattle.lvish_core.specs.laws.Runs.{run_to}

all_are : {X : Type 0} (n : ℕ) (x : X) (v : ℕ) (y : X) → slice_get (replicate n x) v ≡ Some y → y ≡ x
all_are zero x v y e = absurd (cc e)
all_are (suc n) x zero y e = sym (same_Some _ _ e)
all_are (suc n) x (suc v) y e = all_are n x v y e

module _ {P S E R A L : Type 0} (M : Machine S E R A L) (ok : IsLawful M) (law : BegunIsPictured M) (p : P) (n m pools : ℕ) (m_is : m ≡ n)
    (xs : List (Variable S E)) (xs_is : xs ≡ replicate m (record { state = M.bottom; frozen = false; log = [] })) (hss : List (Handlers E)) (hss_is : hss ≡ replicate m (record { held = []; running = replicate pools 0 }))
    (known : (q v : ℕ) → M.pool_variable q ≡ Some v → q < pools)
    (ts : List (Name E × Task L)) (sets : Sets M.event_same [] main (Live M.start 0 0 0) ts)
    (places : List (Handler E × HandlerPlace)) (no_places : places ≡ []) (freezes : List ℕ) (no_freezes : freezes ≡ []) where
  abbrev first : CoreView P S E L
  first = record { program = p; table = record { variables = xs; handlers = hss; tasks = ts }; steps = 0; fault = None; touched = None; freezes = freezes }

  begun_table : IsBegunTable M pools first.table
  begun_table = record {
    variables = λ v x e. all_are m _ v x (ap (λ (q : List (Variable S E)). slice_get q v) (sym xs_is) ∙ e);
    beside = ap length hss_is ∙ length-replicate m _ ∙ sym (length-replicate m _) ∙ sym (ap length xs_is);
    handlers = λ v hs e. all_are m _ v hs (ap (λ (q : List (Handlers E)). slice_get q v) (sym hss_is) ∙ e);
    known = known;
    tasks = sets.each;
  }

  -- every log is empty
  no_entry : (v : ℕ) (x : Variable S E) → slice_get first.table.variables v ≡ Some x → x.log ≡ []
  no_entry v x e = ap (λ (z : Variable S E). z.log) (begun_table.variables v x e)

  pub begun : IsBegun M p first
  begun = let b = law pools first.table begun_table in record {
    program = refl;
    steps = refl;
    at_start = ap Running b.0;
    leads = run_to M first [] refl b.1 no_entry no_freezes;
    touched = refl;
  }

  none_live : Count (λ (u : Name E). IsLive {L = L} Absent) 0
  none_live = record { names = []; once = tt; just = λ u. (λ z. absurd z, λ z. elim z [ ]); count = refl }

  main_starts : Start {E = E} {L = L} (λ u. Absent) (Some (main, Live M.start 0 0 0))
  main_starts = child main M.start refl

  pub begins_kept : IsKept M n 1 places first
  begins_kept =
      let b = law pools first.table begun_table in
      record {
        reached = record { labels = []; count = refl; leads = run_to M first [] refl b.1 no_entry no_freezes };
        standing = record { run = []; few = omega arith; pictured = b.1 };
        there = ap length xs_is ∙ length-replicate m _ ∙ m_is;
        counted = b.2;
        live = subst (λ (s : State S E L). HasLive s 1) (sym b.0)
            (let h = lives_joined M.event_same ok.event_same_is (λ u. Absent) _ 0 main_starts none_live in record { names = h.names; once = h.once; just = h.just; count = h.count });
        index = record {
          posts = λ h. ap (λ (q : List (Handler E × HandlerPlace)). option_map post_of (place_at M.event_same q h)) no_places ∙ ap (λ (s : State S E L). s.handlers h) (sym b.0);
          own = λ h q e. absurd (no_place h q (ap (λ (z : List (Handler E × HandlerPlace)). place_at M.event_same z h) (sym no_places) ∙ e));
        };
        steps = omega arith;
        few = omega arith;
        numbers = subst (λ (s : State S E L). AreFew s.tasks 0) (sym b.0) (few_joined M.event_same ok.event_same_is (λ u. Absent) _ 0 main_starts (λ u l f a q e. absurd (cc e)));
      }
    where
      no_place : (h : Handler E) (q : HandlerPlace) → place_at M.event_same [] h ≡ Some q → ⊥
      no_place h q e = cc e
