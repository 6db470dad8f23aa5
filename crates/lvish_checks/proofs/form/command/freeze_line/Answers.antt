use Rattle.std.proofs.Common.{refl}
use Rattle.lvish_checks.specs.Form.{freeze_line}
use Rattle.lvish_checks.proofs.Forms.{short}
use Rattle.lvish_checks.proofs.form.command.freeze_line.Goals as goal

pub returns-in_default : goal.returns-in_default
unfolding freeze_line
returns-in_default c = short freeze_line refl (λ w. refl) (λ w. w.now) c.args.words.now c.in_default.len_below
