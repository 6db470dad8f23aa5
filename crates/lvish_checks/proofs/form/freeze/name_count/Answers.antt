use Rattle.std.proofs.Common.{rules, ◌∙◌}
use Rattle.std.proofs.lemmas.Iterator.{YieldsList-from_slice}
use Rattle.std.proofs.lemmas.Iterator.Consumers.{count_from_yields_List}
use Rattle.std.proofs.lemmas.Iterator.Search.{YieldsList-from_take_while}
use Rattle.lvish_syntax.specs.Words.{is_name}
use Rattle.lvish_checks.proofs.Forms.{front_length}
use Rattle.lvish_checks.proofs.form.freeze.name_count.Goals as goal

pub returns : goal.returns
returns c =
    count_from_yields_List _ _ c.count.ensures.ran
    (YieldsList-from_take_while _ (λ w. is_name w.now) (YieldsList-from_slice c.args.words.now (cc)) c.take_while.ensures.closure c.take_while.ensures.done (λ x b q k. search rules))
    ∙ front_length (λ w. w.now) is_name c.args.words.now
