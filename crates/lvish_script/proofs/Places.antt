-- Where a line of a script stands.
use Rattle.std.proofs.Common.{◌≡◌, suc, ◌+◌, ◌≤◌, ◌<◌, Bool, true, false, ◌||◌, List, [], ◌∷◌, ◌++◌, length, refl, sym, ap, subst, ◌∙◌, arith, append_assoc, length-append}
use Rattle.std.specs.Prelude.{nat_le}
use Rattle.std.specs.List.{list_any, list_all, flat_map}
use Rattle.std.specs.Str.{bytes_eq}
use Rattle.std.proofs.lemmas.Bool.{or_from}
use Rattle.std.proofs.lemmas.Bool.Decides.{nat_tests}
use Rattle.std.proofs.lemmas.List.Folds.{list_any-append, list_all-append}
use Rattle.std.proofs.lemmas.List.{append-nil, map-append}
use Rattle.std.proofs.lemmas.Grind.{flat_map-append}
use Rattle.lvish_script.specs.Vocabulary.{Word, Declaration, Procedure, Line, Declare, Proc, End}
use Rattle.lvish_syntax.specs.Name.{has_name, has_repeat}
use Rattle.lvish_syntax.specs.Nested.{statements}
use Rattle.lvish_syntax.specs.Sound.{is_pool_known, follow_variables}
use Rattle.lvish_script.specs.Spells.{body_lines, procedure_lines, script_lines}
use Rattle.lvish_script.proofs.Declaring.{heads}
use Rattle.lvish_checks.proofs.Cuts.{left_fails, right_fails, left_holds, right_holds}
use Rattle.lvish_checks.proofs.Seen.{bytes_eq_flip}
use Rattle.lvish_script.proofs.Soundness.{lines_to, lines_from}
use Rattle.lvish_syntax.specs.declared.limits.TheConstants.{MOST}

-- an item of two lists one after the other is one of the first or of the second
side : {X R : Type 0} (xs ys b : List X) (x : X) (a : List X) → xs ++ ys ≡ b ++ x ∷ a → ((c : List X) → xs ≡ b ++ x ∷ c → a ≡ c ++ ys → R) → ((c : List X) → ys ≡ c ++ x ∷ a → b ≡ xs ++ c → R) → R
side [] ys b x a e left right = right b e refl
side (z ∷ xs) ys [] x a e left right =
    let p : z ≡ x = cc in
    let q : xs ++ ys ≡ a = cc in
    left xs (ap (λ w. w ∷ xs) p) (sym q)
side (z ∷ xs) ys (y ∷ b) x a e left right =
    let p : z ≡ y = cc in
    let q : xs ++ ys ≡ b ++ x ∷ a = cc in
    side xs ys b x a q (λ c f g. left c (ap (λ w. w ∷ xs) p ∙ ap (λ t. y ∷ t) f) g) (λ c f g. right c f (ap (λ w. w ∷ b) (sym p) ∙ ap (λ t. z ∷ t) g))

-- what holds of the lines of a script by where they stand: the lines before, the line, and those after
pub record Held (ds : List Declaration) (ps : List Procedure) (P : List Line → Line → List Line → Type 0) : Type 0 where
  pub at_head : (c : List Declaration) (d : Declaration) (e : List Declaration) → ds ≡ c ++ d ∷ e → (a : List Line) → P (heads c) (Declare d) a
  pub at_proc : (q : List Procedure) (r : Procedure) (more : List Procedure) → ps ≡ q ++ r ∷ more → (a : List Line) → P (script_lines ds q) (Proc r.name r.parameters) a
  pub at_body : (q : List Procedure) (r : Procedure) (more : List Procedure) → ps ≡ q ++ r ∷ more → (c : List Line) (x : Line) (e : List Line) → body_lines (statements r.body) ≡ c ++ x ∷ e → P (lines_to ds q r ++ c) x (e ++ lines_from more)
  pub at_end : (q : List Procedure) (r : Procedure) (more : List Procedure) → ps ≡ q ++ r ∷ more → (a : List Line) → P (lines_to ds q r ++ body_lines (statements r.body)) End a

module _ (ds : List Declaration) (ps : List Procedure) (P : List Line → Line → List Line → Type 0) (held : Held ds ps P) where
  moved : (b b2 : List Line) (x x2 : Line) (a a2 : List Line) → b ≡ b2 → x ≡ x2 → a ≡ a2 → P b2 x2 a2 → P b x a
  moved b b2 x x2 a a2 e f g p = subst (λ t. P t x a) (sym e) (subst (λ t. P b2 t a) (sym f) (subst (λ t. P b2 x2 t) (sym g) p))

  among_heads : (pre rest : List Declaration) → ds ≡ pre ++ rest → (b : List Line) (x : Line) (c : List Line) → heads rest ≡ b ++ x ∷ c → (a : List Line) → P (heads pre ++ b) x a
  among_heads pre [] w [] x c e a = absurd cc
  among_heads pre [] w (y ∷ b) x c e a = absurd cc
  among_heads pre (d ∷ rest) w [] x c e a =
      let p : Declare d ≡ x = cc in
      moved (heads pre ++ []) (heads pre) x (Declare d) a a (append-nil (heads pre)) (sym p) refl (held.at_head pre d rest w a)
  among_heads pre (d ∷ rest) w (y ∷ b) x c e a =
      let p : Declare d ≡ y = cc in
      let q : heads rest ≡ b ++ x ∷ c = cc in
      let more = among_heads (pre ++ d ∷ []) rest (w ∙ sym (append_assoc pre (d ∷ []) rest)) b x c q a in
      let same : heads pre ++ y ∷ b ≡ heads (pre ++ d ∷ []) ++ b = ap (λ z. heads pre ++ z ∷ b) (sym p) ∙ sym (append_assoc (heads pre) (Declare d ∷ []) b) ∙ ap (λ t. t ++ b) (sym (map-append (λ d. Declare d) pre (d ∷ []))) in
      moved (heads pre ++ y ∷ b) (heads (pre ++ d ∷ []) ++ b) x x a a same refl refl more

  at_last : (q : List Procedure) (r : Procedure) (more : List Procedure) → ps ≡ q ++ r ∷ more → (b e : List Line) (x : Line) (c a : List Line) → End ∷ [] ≡ e ++ x ∷ c → b ≡ body_lines (statements r.body) ++ e → P (lines_to ds q r ++ b) x a
  at_last q r more w b [] x c a f g =
      let p : End ≡ x = cc in
      moved (lines_to ds q r ++ b) (lines_to ds q r ++ body_lines (statements r.body)) x End a a (ap (λ t. lines_to ds q r ++ t) (g ∙ append-nil (body_lines (statements r.body)))) (sym p) refl (held.at_end q r more w a)
  at_last q r more w b (z ∷ []) x c a f g = absurd cc
  at_last q r more w b (z ∷ y ∷ e) x c a f g = absurd cc

  in_procedure : (q : List Procedure) (r : Procedure) (more : List Procedure) → ps ≡ q ++ r ∷ more → (b : List Line) (x : Line) (c a : List Line) → procedure_lines r ≡ b ++ x ∷ c → a ≡ c ++ flat_map procedure_lines more → P (script_lines ds q ++ b) x a
  in_procedure q r more w [] x c a e g =
      let p : Proc r.name r.parameters ≡ x = cc in
      moved (script_lines ds q ++ []) (script_lines ds q) x (Proc r.name r.parameters) a a (append-nil (script_lines ds q)) (sym p) refl (held.at_proc q r more w a)
  in_procedure q r more w (y ∷ b) x c a e g =
      let p : Proc r.name r.parameters ≡ y = cc in
      let k : body_lines (statements r.body) ++ End ∷ [] ≡ b ++ x ∷ c = cc in
      let same : script_lines ds q ++ y ∷ b ≡ lines_to ds q r ++ b = ap (λ z. script_lines ds q ++ z ∷ b) (sym p) ∙ sym (append_assoc (script_lines ds q) (Proc r.name r.parameters ∷ []) b) in
      side (body_lines (statements r.body)) (End ∷ []) b x c k
      (λ s f h. moved (script_lines ds q ++ y ∷ b) (lines_to ds q r ++ b) x x a (s ++ lines_from more) same refl (g ∙ ap (λ t. t ++ flat_map procedure_lines more) h ∙ append_assoc s (End ∷ []) (flat_map procedure_lines more)) (held.at_body q r more w b x s f))
      (λ s f h. moved (script_lines ds q ++ y ∷ b) (lines_to ds q r ++ b) x x a a same refl refl (at_last q r more w b s x c a f h))

  among_procedures : (q rest : List Procedure) → ps ≡ q ++ rest → (b : List Line) (x : Line) (a : List Line) → flat_map procedure_lines rest ≡ b ++ x ∷ a → P (script_lines ds q ++ b) x a
  among_procedures q [] w [] x a e = absurd cc
  among_procedures q [] w (y ∷ b) x a e = absurd cc
  among_procedures q (r ∷ more) w b x a e =
      side (procedure_lines r) (flat_map procedure_lines more) b x a e
      (λ c f g. in_procedure q r more w b x c a f g)
      (λ c f g.
      let same : script_lines ds q ++ b ≡ script_lines ds (q ++ r ∷ []) ++ c = ap (λ t. script_lines ds q ++ t) g ∙ further q r c in
      moved (script_lines ds q ++ b) (script_lines ds (q ++ r ∷ []) ++ c) x x a a same refl refl (among_procedures (q ++ r ∷ []) more (w ∙ sym (append_assoc q (r ∷ []) more)) c x a f))
    where
      further : (q : List Procedure) (r : Procedure) (c : List Line) → script_lines ds q ++ (procedure_lines r ++ c) ≡ script_lines ds (q ++ r ∷ []) ++ c
      further q r c =
          sym (append_assoc (script_lines ds q) (procedure_lines r) c)
          ∙ ap (λ t. t ++ c) (append_assoc (heads ds) (flat_map procedure_lines q) (procedure_lines r) ∙ ap (λ t. heads ds ++ t) (ap (λ t. flat_map procedure_lines q ++ t) (sym (append-nil (procedure_lines r))) ∙ sym (flat_map-append procedure_lines q (r ∷ []))))

  -- each line of a script stands at one of these places
  pub placed : (b : List Line) (x : Line) (a : List Line) → script_lines ds ps ≡ b ++ x ∷ a → P b x a
  placed b x a e =
      side (heads ds) (flat_map procedure_lines ps) b x a e
      (λ c f g. among_heads [] ds refl b x c f a)
      (λ c f g. moved b (script_lines ds [] ++ c) x x a a (g ∙ ap (λ t. t ++ c) (sym (append-nil (heads ds)))) refl refl (among_procedures [] ps refl c x a f))

-- ---- names and counts at a cut

pub no_repeat_at : (xs : List Word) (y : Word) (ys : List Word) → has_repeat (xs ++ y ∷ ys) ≡ false → has_name y xs ≡ false
no_repeat_at [] y ys e = refl
no_repeat_at (x ∷ xs) y ys e =
    let apart : has_name x (xs ++ y ∷ ys) ≡ false = left_fails (has_name x (xs ++ y ∷ ys)) _ e in
    let there : (has_name x xs || (bytes_eq y x || has_name x ys)) ≡ false = sym (list_any-append (λ z. bytes_eq z x) xs (y ∷ ys)) ∙ apart in
    let no : bytes_eq y x ≡ false = left_fails (bytes_eq y x) _ (right_fails (has_name x xs) _ there) in
    or_from (bytes_eq x y) _ (bytes_eq_flip x y ∙ no) (no_repeat_at xs y ys (right_fails (has_name x (xs ++ y ∷ ys)) _ e))

pub few_at : {X : Type 0} (xs ys : List X) (y : X) → length (xs ++ y ∷ ys) ≤ MOST → nat_le MOST (length xs) ≡ false
few_at xs ys y h = let n : length (xs ++ y ∷ ys) ≡ length xs + suc (length ys) = length-append xs (y ∷ ys) in let lt : length xs < MOST = omega (arith, h, n) in grind (arith, nat_tests)

pub follow_at : (before c : List Declaration) (d : Declaration) (e : List Declaration) → follow_variables before (c ++ d ∷ e) ≡ true → is_pool_known (before ++ c) d ≡ true
follow_at before [] d e h = ap (λ t. is_pool_known t d) (append-nil before) ∙ left_holds (is_pool_known before d) _ h
follow_at before (x ∷ c) d e h = ap (λ t. is_pool_known t d) (sym (append_assoc before (x ∷ []) c)) ∙ follow_at (before ++ x ∷ []) c d e (right_holds (is_pool_known before x) _ h)

pub all_at_cut : {X : Type 0} (p : X → Bool) (b : List X) (x : X) (a : List X) → list_all p (b ++ x ∷ a) ≡ true → p x ≡ true
all_at_cut p b x a e = left_holds (p x) _ (right_holds (list_all p b) _ (sym (list_all-append p b (x ∷ a)) ∙ e))

pub any_at_cut : {X : Type 0} (p : X → Bool) (b : List X) (x : X) (a : List X) → list_any p (b ++ x ∷ a) ≡ false → p x ≡ false
any_at_cut p b x a e = left_fails (p x) _ (right_fails (list_any p b) _ (sym (list_any-append p b (x ∷ a)) ∙ e))
