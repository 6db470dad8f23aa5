use Rattle.std.proofs.Common.{◌≡◌, ℕ, ◌+◌, ◌-◌, length, All, arith, ap, refl, subst, ◌∙◌}
use Rattle.std.proofs.lemmas.List.{length_push}
use Rattle.lvish_deal.specs.Deals.{IsNew, IsNewRow, deques}
use Rattle.lvish_deal.proofs.Deals.{cut_none, cut_all, rows_step}
use Rattle.lvish_deal.proofs.Closes.{long_owners}
use Rattle.lvish_deal.proofs.dealing.rows.Goals as goal

pub loop-i-init : goal.loop-i-init
loop-i-init g c = record {
  names = refl;
  long = refl;
  new = cut_none c.args.owners.now.items c.requires.0;
  count = ap length c.in_ok-rows.ensures.items;
  rows = rw c.in_ok-rows.ensures.items (λ k row at. absurd (omega arith));
}

pub loop-i-preserved : goal.loop-i-preserved
loop-i-preserved g c =
    let deal = deques c.args.owners.now.items in
    let names : deques c.row.new.owners.items ≡ deal = c.in_ok-row.ensures.1 ∙ c.loop-i.invariant.names in record {
      names = names;
      long = long_owners c.row.new.owners.items c.args.owners.now.items names;
      new = c.in_ok-row.ensures.0;
      count = rw c.in_ok-push.ensures.items (length_push _ _ ∙ ap (λ n. n + 1) c.loop-i.invariant.count);
      rows = rw c.in_ok-push.ensures.items (rows_step deal c.loop-i.rows.items c.in_ok-row.field-0 c.loop-i.i c.loop-i.invariant.count c.loop-i.invariant.rows (subst (λ d. IsNewRow d c.loop-i.i c.in_ok-row.field-0) c.loop-i.invariant.names c.in_ok-row.ensures.2));
    }

pub returns : goal.returns
returns g c =
    let long = c.loop-i.invariant.long in
    let few = c.requires.1 in
    let all : c.loop-i.i ≡ length c.args.owners.now.items = omega arith in (
      subst (λ (m : ℕ). All (IsNew (10 - m)) c.loop-i.owners.items) long (cut_all c.loop-i.owners.items c.loop-i.i (omega arith) (omega arith) c.loop-i.invariant.new),
      c.loop-i.invariant.names,
      c.loop-i.invariant.count ∙ all,
      c.loop-i.invariant.rows,
    )
