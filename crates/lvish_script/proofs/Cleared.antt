-- What the checks say of all lines of a text, by each line with those above and below it.
use Rattle.std.proofs.Common.{◌≡◌, ℕ, zero, suc, ◌+◌, Bool, true, false, List, [], ◌∷◌, ◌++◌, length, take, drop, Some, None, refl, sym, ap, ◌∙◌, arith, append_assoc}
use Rattle.std.specs.Prelude.{filter, slice_get}
use Rattle.std.specs.Option.{option_map_or}
use Rattle.std.proofs.Math.Seq.{take-append_seam, drop-append_seam}
use Rattle.std.proofs.lemmas.List.{length_push}
use Rattle.lvish_checks.specs.declared.line.Line.{Line}
use Rattle.lvish_checks.specs.Checks.{on_line, declares_again, is_past_limit, binds_until_procedure, locals_after, locals_at, miscounts, names_unknown, misfits, mixes}
use Rattle.lvish_script.specs.Spells.{says_something}
use Rattle.lvish_script.proofs.Cleaned.{Fine, is_fine, are_fine, all_fine, each_fine, are_fine_cleaned, fine_at_cut, fine_by_cut, locals_in, unknown_given, unknown_is}

-- ---- a test of each line and its place

module _ (test : ℕ → Line → Bool) where
  pub at_cut : (ls b : List Line) (x : Line) (a : List Line) → ls ≡ b ++ x ∷ a → ((l : ℕ) → on_line test ls l ≡ false) → test (length b) x ≡ false
  at_cut ls b x a e passed =
      let g : slice_get ls (length b) ≡ Some x = rw e (seam b) in
      let h : option_map_or (test (length b)) (slice_get ls (length b)) false ≡ false = passed (suc (length b)) in
      rw g at h
    where
      seam : (b : List Line) → slice_get (b ++ x ∷ a) (length b) ≡ Some x
      seam [] = refl
      seam (y ∷ b) = seam b

  none_from : (ls pre rest : List Line) (k : ℕ) → ((b : List Line) (x : Line) (a : List Line) → ls ≡ b ++ x ∷ a → test (length b) x ≡ false) → ls ≡ pre ++ rest → option_map_or (test (length pre + k)) (slice_get rest k) false ≡ false
  none_from ls pre [] k h e = refl
  none_from ls pre (x ∷ rest) zero h e = ap (λ n. test n x) (here (length pre)) ∙ h pre x rest e
    where
      here : (n : ℕ) → n + 0 ≡ n
      here n = omega arith
  none_from ls pre (x ∷ rest) (suc k) h e =
      let same : length pre + suc k ≡ length (pre ++ x ∷ []) + k = omega (arith, length_push pre x) in
      ap (λ n. option_map_or (test n) (slice_get rest k) false) same ∙ none_from ls (pre ++ x ∷ []) rest k h (e ∙ sym (append_assoc pre (x ∷ []) rest))

  -- a test that fails at no cut fails on no line
  pub passes_cuts : (ls : List Line) → ((b : List Line) (x : Line) (a : List Line) → ls ≡ b ++ x ∷ a → test (length b) x ≡ false) → (l : ℕ) → on_line test ls l ≡ false
  passes_cuts ls h zero = refl
  passes_cuts ls h (suc k) = ap (λ n. option_map_or (test n) (slice_get ls k) false) (start k) ∙ none_from ls [] ls k h refl
    where
      start : (k : ℕ) → k ≡ 0 + k
      start k = omega arith

-- ---- the checks that see the same without blank lines

-- what they say of all lines
pub record Passed (ls : List Line) : Type 0 where
  pub again : (l : ℕ) → on_line (λ k x. declares_again (take k ls) x) ls l ≡ false
  pub unknown : (l : ℕ) → on_line (λ k x. names_unknown ls k x) ls l ≡ false
  pub kinds : (l : ℕ) → on_line (λ k x. misfits ls x) ls l ≡ false
  pub counts : (l : ℕ) → on_line (λ k x. miscounts ls x) ls l ≡ false
  pub apart : (l : ℕ) → on_line (λ k x. mixes ls x) ls l ≡ false
  pub few : (l : ℕ) → on_line (λ k x. is_past_limit (take k ls) x) ls l ≡ false

module _ (ls : List Line) where
  pub above : (b : List Line) (x : Line) (a : List Line) → ls ≡ b ++ x ∷ a → take (length b) ls ≡ b
  above b x a e = rw e (take-append_seam b (x ∷ a))

  -- an unknown name at the line below b, by those lines and the locals there
  unknown_here : (b : List Line) (x : Line) (a : List Line) → ls ≡ b ++ x ∷ a → names_unknown ls (length b) x ≡ unknown_given ls b (locals_in b (x ∷ a)) x
  unknown_here b x a e =
      let rest : drop (length b) ls ≡ x ∷ a = rw e (drop-append_seam b (x ∷ a)) in
      unknown_is ls (length b) x
      ∙ ap (λ t. unknown_given ls t (locals_at ls (length b)) x) (above b x a e)
      ∙ ap (λ t. unknown_given ls b (option_map_or (λ xs. xs ++ binds_until_procedure t) (locals_after None (take (length b) ls)) []) x) rest
      ∙ ap (λ t. unknown_given ls b (option_map_or (λ xs. xs ++ binds_until_procedure (x ∷ a)) (locals_after None t) []) x) (above b x a e)

  fine_here : Passed ls → (b : List Line) (x : Line) (a : List Line) → ls ≡ b ++ x ∷ a → is_fine ls b x a ≡ true
  fine_here p b x a e = all_fine ls b x a (record {
    again = ap (λ t. declares_again t x) (sym (above b x a e)) ∙ at_cut _ ls b x a e p.again;
    unknown = sym (unknown_here b x a e) ∙ at_cut _ ls b x a e p.unknown;
    kinds = at_cut _ ls b x a e p.kinds;
    counts = at_cut _ ls b x a e p.counts;
    apart = at_cut _ ls b x a e p.apart;
    few = ap (λ t. is_past_limit t x) (sym (above b x a e)) ∙ at_cut _ ls b x a e p.few;
  })

  passed_by : ((b : List Line) (x : Line) (a : List Line) → ls ≡ b ++ x ∷ a → Fine ls b x a) → Passed ls
  passed_by h = record {
    again = passes_cuts _ ls (λ b x a e. ap (λ t. declares_again t x) (above b x a e) ∙ (h b x a e).again);
    unknown = passes_cuts _ ls (λ b x a e. unknown_here b x a e ∙ (h b x a e).unknown);
    kinds = passes_cuts _ ls (λ b x a e. (h b x a e).kinds);
    counts = passes_cuts _ ls (λ b x a e. (h b x a e).counts);
    apart = passes_cuts _ ls (λ b x a e. (h b x a e).apart);
    few = passes_cuts _ ls (λ b x a e. ap (λ t. is_past_limit t x) (above b x a e) ∙ (h b x a e).few);
  }

module _ (said ls : List Line) (clean : filter says_something said ≡ ls) where
  same : are_fine said [] said ≡ are_fine ls [] ls
  same = are_fine_cleaned said [] said ∙ ap (λ t. are_fine t [] t) clean

  -- they pass the lines that say something just where they pass all lines
  pub fine_without_blanks : Passed said → (b : List Line) (x : Line) (a : List Line) → ls ≡ b ++ x ∷ a → Fine ls b x a
  fine_without_blanks p b x a e =
      let all : are_fine ls [] ls ≡ true = sym same ∙ fine_by_cut said [] said (fine_here said p) in
      each_fine ls b x a (fine_at_cut ls [] b x a (ap (are_fine ls []) (sym e) ∙ all))

  pub passed_with_blanks : ((b : List Line) (x : Line) (a : List Line) → ls ≡ b ++ x ∷ a → Fine ls b x a) → Passed said
  passed_with_blanks h =
      let all : are_fine said [] said ≡ true = same ∙ fine_by_cut ls [] ls (λ b x a e. all_fine ls b x a (h b x a e)) in
      passed_by said (λ b x a e. each_fine said b x a (fine_at_cut said [] b x a (ap (are_fine said []) (sym e) ∙ all)))
