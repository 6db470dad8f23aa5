use Rattle.std.proofs.Common.{Some, ap, sym, ◌∙◌}
use Rattle.std.proofs.lemmas.Option.{slice_get-get_or}
use Rattle.lvish_reaching.proofs.Growing.{pushed}
use Rattle.lvish_reaching.proofs.graph.push_at.Goals as goal

pub returns : goal.returns
returns c =
    let lists = c.args.next.now.items in
    let old = c.index_mut.result.now in
    pushed (λ v. v.items) c.args.to lists c.args.place old c.push.new.self (slice_get-get_or lists c.args.place old c.requires ∙ ap Some (sym c.index_mut.ensures.value)) c.in_ok-push.ensures.items
