use Rattle.std.proofs.Common.{◌≡◌, ℕ, ◌+◌, ◌-◌, length, arith, ap, ◌∙◌, subst, Some}
use Rattle.std.proofs.lemmas.List.{length_push}
use Rattle.std.proofs.lemmas.List.Elements.{All-pop}
use Rattle.crossbeam_deque.specs.Handles.{worker_deque}
use Rattle.lvish_deal.specs.Deals.{IsNew, IsNewRow, deques}
use Rattle.lvish_deal.proofs.Deals.{peel, seat_step, rows_apart, row_own, row_long}
use Rattle.lvish_deal.proofs.dealing.seats.Goals as goal

pub new-requires : goal.new-requires
new-requires g c =
    let deal = deques c.args.owners.items in
    let p = peel worker_deque c.pop.new.self.items c.in-Some.own deal (rw (← c.in-Some.ensures.items) c.loop-own.invariant.names) in
    let q = rows_apart deal c.loop-own.rows.items c.pop-in-Some.new.self.items c.in-Some-pop.reaches c.in-Some-pop.ensures.items c.loop-own.invariant.rows in
    let k : c.len-in-Some.result ≡ length c.pop.new.self.items = omega arith in
    let l : length c.loop-own.owners.items ≡ length c.pop.new.self.items + 1 = ap length c.in-Some.ensures.items ∙ length_push c.pop.new.self.items c.in-Some.own in
    let m : length c.loop-own.rows.items ≡ length c.pop-in-Some.new.self.items + 1 = ap length c.in-Some-pop.ensures.items ∙ length_push c.pop-in-Some.new.self.items c.in-Some-pop.reaches in
    let few = c.loop-own.invariant.few in
    let count = c.loop-own.invariant.count in
    let n : length c.pop-in-Some.new.self.items ≡ c.len-in-Some.result = omega arith in
    let row = subst (λ (i : ℕ). IsNewRow deal i c.in-Some-pop.reaches) n q.1 in
    let long = row_long c.args.owners.items c.in-Some-pop.reaches row.0 in
    let at_most = c.requires.1 in
    record {
      new = rw long (All-pop (IsNew (10 - length c.args.owners.items)) c.loop-own.owners.items c.pop.new.self.items (Some c.in-Some.own) c.in-Some.ensures.items c.loop-own.invariant.new).1;
      parts = row.2;
      few = omega arith;
      among = omega arith;
      own = λ d. row_own deal c.in-Some-pop.reaches c.len-in-Some.result c.in-Some.own d row.0 (omega arith) (rw k (p.1 (worker_deque c.in-Some.own)));
    }

pub loop-own-preserved : goal.loop-own-preserved
loop-own-preserved g c =
    let deal = deques c.args.owners.items in
    let p = peel worker_deque c.pop.new.self.items c.in-Some.own deal (rw (← c.in-Some.ensures.items) c.loop-own.invariant.names) in
    let q = rows_apart deal c.loop-own.rows.items c.pop-in-Some.new.self.items c.in-Some-pop.reaches c.in-Some-pop.ensures.items c.loop-own.invariant.rows in
    let k : c.len-in-Some.result ≡ length c.pop.new.self.items = omega arith in
    let l : length c.loop-own.owners.items ≡ length c.pop.new.self.items + 1 = ap length c.in-Some.ensures.items ∙ length_push c.pop.new.self.items c.in-Some.own in
    let m : length c.loop-own.rows.items ≡ length c.pop-in-Some.new.self.items + 1 = ap length c.in-Some-pop.ensures.items ∙ length_push c.pop-in-Some.new.self.items c.in-Some-pop.reaches in
    let few = c.loop-own.invariant.few in
    let count = c.loop-own.invariant.count in
    let n : length c.pop-in-Some.new.self.items ≡ length c.pop.new.self.items = omega arith in
    record {
      few = omega arith;
      names = p.0;
      new = (All-pop (IsNew (10 - length c.args.owners.items)) c.loop-own.owners.items c.pop.new.self.items (Some c.in-Some.own) c.in-Some.ensures.items c.loop-own.invariant.new).0;
      count = omega arith;
      rows = q.0;
      made = rw c.in_ok-insert.ensures.items (seat_step deal (length c.pop.new.self.items) (length c.loop-own.owners.items) c.len-in-Some.result c.in-Some-pop.reaches c.new.result c.loop-own.seats.items l k (subst (λ (i : ℕ). IsNewRow deal i c.in-Some-pop.reaches) n q.1) c.new.ensures c.loop-own.invariant.made);
    }
