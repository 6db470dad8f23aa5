-- What writes in turn do to known bytes.
use Rattle.std.proofs.Common.{◌≡◌, ℕ, ◌-◌, ◌≤◌, List, ◌++◌, Option, arith, length, take, drop, sym, ap, ◌∙◌, subst, append_assoc, length-append, take-append-drop}
use Rattle.std.proofs.lemmas.List.{take_rest}
use Rattle.std.proofs.Math.Seq.{take-append_seam}
use Rattle.std.specs.Io.KnownBytes.{Appends}
use Rattle.lvish_console.specs.Writing.{TakesFront}

-- a front of the rest goes to what was taken
pub front_moves : (all done rest : List ℕ) (n : ℕ) → all ≡ done ++ rest → all ≡ (done ++ take n rest) ++ take (length rest - n) (drop n rest)
front_moves all done rest n e =
    e ∙ ap (λ l. done ++ l) (sym (take-append-drop n rest)) ∙ sym (append_assoc done (take n rest) (drop n rest)) ∙ ap (λ l. (done ++ take n rest) ++ l) (sym (take_rest rest n))

-- the writer took a front of the text
pub takes_front : (old new : Option (List ℕ)) (text taken rest : List ℕ) → text ≡ taken ++ rest → Appends old new taken → TakesFront old new text
takes_front old new text taken rest e p =
    let fits : length taken ≤ length text = omega (arith, simp length-append at (ap length e)) in
    (length taken, fits, subst (Appends old new) (sym (ap (take (length taken)) e ∙ take-append_seam taken rest)) p)
