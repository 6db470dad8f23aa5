use Rattle.std.proofs.Common.{◌≡◌, inl, inr, ℕ, length, sym, ◌∙◌, true≢false, arith}
use Rattle.std.proofs.lemmas.List.{length-map}
use Rattle.lvish_board.specs.Stand.{TaskStand}
use Rattle.lvish_board.specs.Seated.{stands_of}
use Rattle.lvish_board.proofs.Steps.{tells_none}
use Rattle.lvish_board.proofs.board.note_end.note_end.Goals.{else-len-running-via-then-len-running+else-is_drained, else-len-running-via-else-len-running}
use Rattle.lvish_board.proofs.board.note_end.note_end.Goals as goal

pub returns-else-len-running : goal.returns-else-len-running
returns-else-len-running g c =
    let many : length (stands_of c.args.parked.now) ≡ length c.args.parked.now = length-map c.args.parked.now (λ (e : ℕ × TaskStand g.row.P-Lat-Event.Denot g.row.P-Local.Denot). e.1) in
    tells_none _ (c.lawful.ensures g.B.BoardBrand.program) c.args.core.now _ c.running.result _ c.requires.running c.running.ensures (elim c.else-len-running.branch [
      | else-len-running-via-then-len-running+else-is_drained w ↦ inr (λ drained. true≢false (sym (w.is_drained.ensures.1 drained) ∙ w.if-is_drained.false))
      | else-len-running-via-else-len-running w ↦ inl (λ same. absurd (omega (arith, same, many, c.len.ensures, w.if-len-running.false)))
    ])
