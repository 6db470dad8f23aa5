-- Names that are gathered line by line.
use Rattle.std.proofs.Common.{◌≡◌, ℕ, suc, ◌+◌, ◌<◌, ◌≤◌, true, false, List, [], ◌∷◌, ◌++◌, length, map, drop, get_or, refl, sym, ap, ◌∙◌, arith, append_assoc, add-one, drop-cons}
use Rattle.std.proofs.lemmas.Bool.Decides.{nat_tests}
use Rattle.std.specs.Prelude.{nat_le, if◌then◌else◌}
use Rattle.std.specs.Borrow.{Bor}
use Rattle.lvish_syntax.specs.Words.{Word}
use Rattle.lvish_checks.specs.Text.{words_of}
use Rattle.lvish_explain.specs.declared.known.Space.{Space}
use Rattle.lvish_explain.specs.Known.{declared_by, declared_from, is_procedure_line, locals_by, locals_from}

module _ (lines : List (Bor (List ℕ))) (k : ℕ) (x : Bor (List ℕ)) (lt : k < length lines) where
  -- the lines below
  abbrev rest : List (List ℕ)
  rest = map (λ l. l.now) (drop (k + 1) lines)

  from_here : drop k lines ≡ get_or lines k x ∷ drop (k + 1) lines
  from_here = rw add-one (drop-cons lines k x lt)

  next : suc k ≡ k + 1
  next = omega arith

  pub declared_step : (s : Space) (known new : List (Word × ℕ)) → new ≡ known ++ declared_by s (k + 1) (words_of (get_or lines k x).now) → known ++ declared_from (suc k) s (map (λ l. l.now) (drop k lines)) ≡ new ++ declared_from (suc (k + 1)) s (map (λ l. l.now) (drop (k + 1) lines))
  declared_step s known new f =
      ap (λ j. known ++ declared_from j s (map (λ l. l.now) (drop k lines))) next
      ∙ ap (λ t. known ++ declared_from (k + 1) s (map (λ l. l.now) t)) from_here
      ∙ sym (append_assoc known (declared_by s (k + 1) (words_of (get_or lines k x).now)) (declared_from (suc (k + 1)) s rest))
      ∙ ap (λ t. t ++ declared_from (suc (k + 1)) s rest) (sym f)

  -- the locals after the line
  abbrev locals_next : ℕ → List (Word × ℕ) → List (Word × ℕ)
  locals_next m known =
      if is_procedure_line (words_of (get_or lines k x).now) then (if nat_le (suc m) (k + 1) then known else locals_from (suc (k + 1)) m (locals_by (k + 1) (words_of (get_or lines k x).now)) rest)
      else locals_from (suc (k + 1)) m (known ++ locals_by (k + 1) (words_of (get_or lines k x).now)) rest

  pub locals_step : (m : ℕ) (known : List (Word × ℕ)) → locals_from (suc k) m known (map (λ l. l.now) (drop k lines)) ≡ locals_next m known
  locals_step m known =
      ap (λ j. locals_from j m known (map (λ l. l.now) (drop k lines))) next
      ∙ ap (λ t. locals_from (k + 1) m known (map (λ l. l.now) t)) from_here

  -- a procedure begins on the line, below the one that is asked for: its locals aren't asked for
  pub locals_end : (m : ℕ) (known : List (Word × ℕ)) → is_procedure_line (words_of (get_or lines k x).now) ≡ true → m ≤ k → locals_from (suc k) m known (map (λ l. l.now) (drop k lines)) ≡ known
  locals_end m known p le =
      let below : nat_le (suc m) (k + 1) ≡ true = grind (arith, nat_tests) in
      locals_step m known ∙ rw (p, below) refl

  -- one begins there or above: its locals are the only ones
  pub locals_anew : (m : ℕ) (known none new : List (Word × ℕ)) → is_procedure_line (words_of (get_or lines k x).now) ≡ true → k < m → none ≡ [] → new ≡ none ++ locals_by (k + 1) (words_of (get_or lines k x).now) → locals_from (suc k) m known (map (λ l. l.now) (drop k lines)) ≡ locals_from (suc (k + 1)) m new (map (λ l. l.now) (drop (k + 1) lines))
  locals_anew m known none new p lt_m is f =
      let above : nat_le (suc m) (k + 1) ≡ false = grind (arith, nat_tests) in
      let all : new ≡ locals_by (k + 1) (words_of (get_or lines k x).now) = f ∙ ap (λ t. t ++ locals_by (k + 1) (words_of (get_or lines k x).now)) is in
      locals_step m known ∙ rw (p, above, all) refl

  -- none begins there
  pub locals_on : (m : ℕ) (known same new : List (Word × ℕ)) → is_procedure_line (words_of (get_or lines k x).now) ≡ false → same ≡ known → new ≡ same ++ locals_by (k + 1) (words_of (get_or lines k x).now) → locals_from (suc k) m known (map (λ l. l.now) (drop k lines)) ≡ locals_from (suc (k + 1)) m new (map (λ l. l.now) (drop (k + 1) lines))
  locals_on m known same new p is f =
      let all : new ≡ known ++ locals_by (k + 1) (words_of (get_or lines k x).now) = f ∙ ap (λ t. t ++ locals_by (k + 1) (words_of (get_or lines k x).now)) is in
      locals_step m known ∙ rw (p, all) refl
