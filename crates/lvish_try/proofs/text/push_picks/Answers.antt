use Rattle.std.proofs.Common.{◌++◌, sym, ap, ◌∙◌, string_bytes}
use Rattle.lvish_try.proofs.Written.{picks_written}
use Rattle.lvish_try.proofs.text.push_picks.Goals as goal

pub returns : goal.returns
returns c =
    picks_written _ _ _ c.args.picks.now (c.in_ok-push_str-2.ensures.bytes ∙ ap (λ t. string_bytes c.push_str-2.new.self ++ t) (c.as_str.ensures.value ∙ c.in_ok-picks.ensures))
    c.in_ok-push_str.ensures.bytes (sym c.is_empty.ensures ∙ c.if-is_empty.false)
