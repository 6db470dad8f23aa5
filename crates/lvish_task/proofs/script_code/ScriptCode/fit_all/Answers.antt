use Rattle.std.proofs.Common.{◌≡◌, Bool, true, ◌&&◌, List, [], ◌∷◌, refl, ◌∙◌, ap}
use Rattle.std.specs.Prelude.{reverse}
use Rattle.std.specs.List.{list_all}
use Rattle.std.proofs.Math.Bool.{and-true, and_comm}
use Rattle.std.proofs.lemmas.List.{reverse-append}
use Rattle.std.proofs.lemmas.List.Folds.{list_all-append}
use Rattle.lvish_task.specs.Run.{fits_frame}
use Rattle.lvish_task.proofs.script_code.ScriptCode.fit_all.Goals as goal

list_all-reverse : {X : Type 0} (p : X → Bool) (xs : List X) → list_all p (reverse xs) ≡ list_all p xs
list_all-reverse p [] = refl
list_all-reverse p (x ∷ xs) =
    ap (list_all p) (reverse-append (x ∷ []) xs) ∙ list_all-append p (reverse xs) (x ∷ []) ∙ ap (λ b. b && (p x && true)) (list_all-reverse p xs)
    ∙ ap (λ b. list_all p xs && b) (and-true (p x)) ∙ and_comm (list_all p xs) (p x)

pub returns : goal.returns
returns c =
    let p = fits_frame c.args.self.now.flat in
    c.fit_each.ensures ∙ ap (list_all p) c.as_slice.ensures ∙ list_all-reverse p c.args.frames.now
