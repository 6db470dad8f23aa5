use Rattle.std.proofs.Common.{◌≡◌, true, inl, inr, sym, ◌∙◌}
use Rattle.std.proofs.lemmas.Bool.{false≢true}
use Rattle.std.proofs.lemmas.Result.{IfOk-weaker}
use Rattle.lvish_task.specs.Freezing.{code_freezes}
use Rattle.lvish_run.proofs.ends.freezes_in_time.Goals as goal

pub returns : goal.returns
returns c =
    let has : code_freezes c.args.code.now.flat ≡ true = sym c.freezes.ensures ∙ c.if-not-freezes.false in
    IfOk-weaker c.is_layered.result _ _ (λ in_time h. (λ e. inr (h.0 e), λ k. elim k [ inl none ↦ absurd (false≢true (sym none ∙ has)) | inr layered ↦ h.1 layered ])) c.is_layered.ensures
