use Rattle.std.proofs.Common.{refl}
use Rattle.lvish_checks.specs.Form.{get_line}
use Rattle.lvish_checks.proofs.Forms.{short}
use Rattle.lvish_checks.proofs.form.command.get_line.Goals as goal

pub returns-in_default : goal.returns-in_default
unfolding get_line
returns-in_default c = short get_line refl (λ w. refl) (λ w. w.now) c.args.words.now c.in_default.len_below
