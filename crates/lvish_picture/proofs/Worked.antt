-- The worked table, step by step from the start.
use Rattle.std.proofs.Common.{◌≡◌, ℕ, suc, zero, ◌<◌, Bool, true, false, List, [], ◌∷◌, ◌++◌, slice_get, Some, None, length, slice_index, nat_eq, refl, sym, ap, ◌∙◌, arith, if◌then◌else◌}
use Rattle.lvish_calculus.specs.declared.label.Label.TheVariants.{Act}
use Rattle.lvish_calculus.specs.declared.request.Request.TheVariants.{Put}
use Rattle.lvish_calculus.specs.declared.request.Reply.TheVariants.{Done}
use Rattle.lvish_calculus.specs.Machine.{IsLawful}
use Rattle.lvish_calculus.specs.Calculus.{Task, Absent, Live, with_task}
use Rattle.lvish_names.specs.Names.{Name, main, forked, handed, same_name}
use Rattle.lvish_calculus.specs.Examples.{Set, HandingAt, adding, putting_three, putting_one, freezing, copying, over_sets, handing, handing_asks, handing_goes, handing_pool, numbers, copier, set_of_one, union}
use Rattle.lvish_calculus.proofs.HandingRuns.{handing_lawful}
use Rattle.lvish_variable.specs.declared.entry.Entry.{Entry}
use Rattle.lvish_variable.specs.Variable.{VariableView as Variable, entries}
use Rattle.lvish_lattice.specs.Lattice.{fresh_of}
use Rattle.lvish_handlers.specs.declared.held.Held.{Held}
use Rattle.lvish_handlers.specs.Handlers.{HandlersView as Handlers}
use Rattle.lvish_picture.specs.Picture.{Table, table_picture, task_of, IsPictured}
use Rattle.lvish_picture.specs.Steps.{AreTasks, IsTableBegun, IsAddStep, IsPutStep, IsHandStep}
use Rattle.lvish_picture.specs.Laws.{IsOrdered}
use Rattle.lvish_picture.specs.Counts.{CountsRunning, AreCounts}
use Rattle.lvish_picture.specs.Examples.{halfway, halfway_run}
use Rattle.lvish_picture.proofs.Acts.{add_kept, put_kept}
use Rattle.lvish_picture.proofs.Kept.{begun_is_pictured}
use Rattle.lvish_picture.proofs.Counted.{add_counted, put_counted, hand_counted}
use Rattle.lvish_picture.proofs.Hands.{hand_kept}
use Rattle.lvish_picture.proofs.Ordered.{sets_ordered}

ok : IsLawful (over_sets handing)
ok = handing_lawful

ord : IsOrdered (over_sets handing)
ord = sets_ordered handing

abbrev none : Set
none = record { has_zero = false; has_one = false; has_three = false }

-- s in this state with this log, its one handler or none, and main's task
abbrev table : Set → List (Entry ℕ) → List (Held ℕ) → Task HandingAt → Table Set ℕ HandingAt
table s log held k = record {
  variables = record { state = s; frozen = false; log = log } ∷ record { state = none; frozen = false; log = [] } ∷ [];
  handlers = record { held = held; running = 0 ∷ [] } ∷ record { held = []; running = 0 ∷ [] } ∷ [];
  tasks = (main, k) ∷ [];
}

abbrev three : Entry ℕ
three = record { event = 3; task = main; number = 1 }

abbrev one : Entry ℕ
one = record { event = 1; task = main; number = 2 }

abbrev cursor : ℕ → Held ℕ
cursor n = record { name = copier; pool = 0; procedure = 0; handed = n }

abbrev begun : Table Set ℕ HandingAt
begun = table none [] [] (Live adding 0 0 0)

abbrev added : Table Set ℕ HandingAt
added = table none [] (cursor 0 ∷ []) (Live putting_three 0 1 0)

abbrev put_three : Table Set ℕ HandingAt
put_three = table (set_of_one 3) (three ∷ []) (cursor 0 ∷ []) (Live putting_one 0 1 1)

abbrev put_one : Table Set ℕ HandingAt
put_one = table (union (set_of_one 3) (set_of_one 1)) (three ∷ one ∷ []) (cursor 0 ∷ []) (Live freezing 0 1 2)

main_goes_on : (old new : Task HandingAt) → (u : Name ℕ) → task_of (over_sets handing).event_same ((main, new) ∷ []) u ≡ with_task (over_sets handing).event_same (Some (main, new)) (with_task (over_sets handing).event_same None (task_of (over_sets handing).event_same ((main, old) ∷ []))) u
main_goes_on old new u = by (same_name (over_sets handing).event_same u main)
  where
    by : (b : Bool) → (if b then new else Absent) ≡ (if b then new else (if b then old else Absent))
    by true = refl
    by false = refl

begins : IsTableBegun (over_sets handing) 1 begun
begins = record { variables = bottoms; beside = refl; handlers = empties; known = pools; tasks = λ u. refl }
  where
    bottoms : (v : ℕ) (x : Variable Set ℕ) → slice_get begun.variables v ≡ Some x → x ≡ record { state = none; frozen = false; log = [] }
    bottoms zero x e = sym cc
    bottoms (suc zero) x e = sym cc
    bottoms (suc (suc v)) x e = absurd (cc e)

    empties : (v : ℕ) (hs : Handlers ℕ) → slice_get begun.handlers v ≡ Some hs → hs ≡ record { held = []; running = 0 ∷ [] }
    empties zero x e = sym cc
    empties (suc zero) x e = sym cc
    empties (suc (suc v)) x e = absurd (cc e)

    pools : (p v : ℕ) → handing_pool p ≡ Some v → p < 1
    pools zero v e = omega arith
    pools (suc p) v e = absurd (cc e)

adds : IsAddStep (over_sets handing) begun main added
adds = record {
  local = adding;
  forks = 0;
  adds = 0;
  puts = 0;
  pool = 0;
  procedure = 0;
  asking = record { live = refl; asked = refl };
  shallow = refl;
  variable = 0;
  of = refl;
  at = record { state = none; frozen = false; log = [] };
  at_is = refl;
  unfrozen = refl;
  old = record { held = []; running = 0 ∷ [] };
  was = refl;
  new = record { held = cursor 0 ∷ []; running = 0 ∷ [] };
  added = record { before = []; after = []; was = refl; is = refl; pools = refl };
  variables = refl;
  handlers = refl;
  tasks = main_goes_on (Live adding 0 0 0) (Live putting_three 0 1 0);
}

-- main's p-th put, of n, into s
puts : (l k : HandingAt) (p n : ℕ) (s : Set) (log : List (Entry ℕ)) (e : Entry ℕ) → handing_asks l ≡ Put 0 (set_of_one n) → handing_goes l Done ≡ k
    → log ++ e ∷ [] ≡ log ++ entries main (suc p) (fresh_of (over_sets handing).join nat_eq numbers s (set_of_one n))
    → IsPutStep (over_sets handing) (table s log (cursor 0 ∷ []) (Live l 0 1 p)) main (table (union s (set_of_one n)) (log ++ e ∷ []) (cursor 0 ∷ []) (Live k 0 1 (suc p)))
puts l k p n s log e asked goes_on logged = record {
  local = l;
  forks = 0;
  adds = 1;
  puts = p;
  variable = 0;
  put = set_of_one n;
  asking = record { live = refl; asked = asked };
  old = record { state = s; frozen = false; log = log };
  was = refl;
  new = record { state = union s (set_of_one n); frozen = false; log = log ++ e ∷ [] };
  taken = record { joined = refl; mark = refl; allowed = λ e. absurd (cc e); log = logged };
  variables = refl;
  handlers = refl;
  tasks = λ u. main_goes_on (Live l 0 1 p) (Live k 0 1 (suc p)) u ∙ ap (λ (x : HandingAt). with_task nat_eq (Some (main, Live x 0 1 (suc p))) (task_of nat_eq ((main, Live l 0 1 p) ∷ [])) u) (sym goes_on);
}

puts_three : IsPutStep (over_sets handing) added main put_three
puts_three = puts putting_three putting_one 0 3 none [] three refl refl refl

puts_one : IsPutStep (over_sets handing) put_three main put_one
puts_one = puts putting_one freezing 1 1 (set_of_one 3) (three ∷ []) one refl refl refl

hands_three : IsHandStep (over_sets handing) put_one copier 3 halfway
hands_three = record {
  variable = 0;
  at = record { state = union (set_of_one 3) (set_of_one 1); frozen = false; log = three ∷ one ∷ [] };
  at_is = refl;
  old = record { held = cursor 0 ∷ []; running = 0 ∷ [] };
  was = refl;
  next = refl;
  new = record { held = cursor 1 ∷ []; running = 0 ∷ [] };
  advanced = record { before = []; handler = cursor 0; after = []; was = refl; named = refl; found = refl; entry = omega arith; is = refl; pools = refl };
  variables = refl;
  handlers = refl;
  tasks = begins_copying;
}
  where
    begins_copying : AreTasks nat_eq put_one.tasks None (Some (handed main 1 3, Live (copying 3) 0 0 0)) halfway.tasks
    begins_copying main = refl
    begins_copying (forked t i) = refl
    begins_copying (handed t j e) = refl

one_copies : AreCounts (over_sets handing) (table_picture (over_sets handing) put_one) None (Some (handed main 1 3, Live (copying 3) 0 0 0)) put_one.handlers halfway.handlers
one_copies zero ks zero at of = (record { held = cursor 0 ∷ []; running = 0 ∷ [] }, refl, ap (λ (q : Handlers ℕ). length q.running) (sym (first_is ks at)), ap (λ (q : Handlers ℕ). slice_index q.running 0) (sym (first_is ks at)))
  where
    first_is : (ks : Handlers ℕ) → slice_get halfway.handlers 0 ≡ Some ks → record { held = cursor 1 ∷ []; running = 1 ∷ [] } ≡ ks
    first_is ks e = cc
one_copies (suc v) ks zero at of = absurd (cc of)
one_copies v ks (suc p) at of = absurd (cc of)

pub halfway_pictured : IsPictured (over_sets handing) halfway halfway_run × CountsRunning (over_sets handing) halfway
halfway_pictured =
    let start = begun_is_pictured (over_sets handing) ok 1 begun begins in
    let a = (add_kept (over_sets handing) ok [] begun added main start.1 adds).kept in
    let b = (put_kept (over_sets handing) ok ord (Act main ∷ []) added put_three main a puts_three).kept in
    let c = (put_kept (over_sets handing) ok ord (Act main ∷ Act main ∷ []) put_three put_one main b puts_one).kept in
    let d = (hand_kept (over_sets handing) ok (Act main ∷ Act main ∷ Act main ∷ []) put_one halfway copier 3 c hands_three).kept in
    let na = add_counted (over_sets handing) ok [] begun added main start.1 start.2 adds in
    let nb = put_counted (over_sets handing) ok ord (Act main ∷ []) added put_three main a na puts_three in
    let nc = put_counted (over_sets handing) ok ord (Act main ∷ Act main ∷ []) put_three put_one main b nb puts_one in
    (d, hand_counted (over_sets handing) ok (Act main ∷ Act main ∷ Act main ∷ []) put_one halfway copier 3 c nc hands_three one_copies)
