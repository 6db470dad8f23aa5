-- What the texts of names and labels tell.
use Rattle.std.proofs.Common.{◌≡◌, inl, inr, ℕ, ℤ, List, [], ◌∷◌, ◌++◌, codes, sym, ap, subst, ◌∙◌, arith, append_assoc}
use Rattle.std.specs.Fmt.{decimal, signed_decimal}
use Rattle.std.proofs.lemmas.Fmt.{decimal_injective, signed_decimal_injective}
use Rattle.lvish_names.specs.Names.{Name, main, forked, handed}
use Rattle.lvish_names.specs.declared.name_part.NamePart.{NamePart}
use Rattle.lvish_names.specs.declared.name_part.NamePart.TheVariants.{Fork as ForkPart, Hand as HandPart}
use Rattle.lvish_names.specs.NameText.{part_text, name_text}
use Rattle.lvish_report.specs.Told.{FitsPart, FitsName}
use Rattle.lvish_report.proofs.Cuts.{IsFree, IsNoDigit, free_append, free_decimal, free_signed, cut_first, cut_last, not_cut, first_is_digit, rest_is}

-- three texts, with a character between each two
three_texts : (a b c : List ℕ) (x y : ℕ) → (((a ++ x ∷ []) ++ b) ++ y ∷ []) ++ c ≡ a ++ x ∷ (b ++ y ∷ c)
three_texts a b c x y = append_assoc ((a ++ x ∷ []) ++ b) (y ∷ []) c ∙ append_assoc (a ++ x ∷ []) b (y ∷ c) ∙ append_assoc a (x ∷ []) (b ++ y ∷ c)

module _ {E : Type 0} (key number : E → ℤ) where
  -- what comes behind the h of a handed event's text
  abbrev event_text : ℕ → E → List ℕ
  event_text j e = decimal j ++ 58 ∷ (signed_decimal (key e) ++ 58 ∷ signed_decimal (number e))

  hand_is : (j : ℕ) (e : E) → part_text key number (HandPart j e) ≡ 104 ∷ event_text j e
  hand_is j e = ap (λ z. 104 ∷ z) (three_texts (decimal j) (signed_decimal (key e)) (signed_decimal (number e)) 58 58)

  -- a name's last part stands behind a slash
  pub last_part : (t : Name E) (p : NamePart E) → name_text key number (p ∷ t) ≡ name_text key number t ++ 47 ∷ part_text key number p
  last_part t (ForkPart i) = append_assoc (name_text key number t) (47 ∷ []) (part_text key number (ForkPart i))
  last_part t (HandPart j e) = append_assoc (name_text key number t) (47 ∷ []) (part_text key number (HandPart j e))

  free_part : (ch : ℕ) → IsNoDigit ch → (45 ≡ ch → ⊥) → (58 ≡ ch → ⊥) → (104 ≡ ch → ⊥) → (p : NamePart E) → FitsPart key number p → IsFree ch (part_text key number p)
  free_part ch apart sign colon h (ForkPart i) f = free_decimal ch i apart f
  free_part ch apart sign colon h (HandPart j e) f =
      let behind : IsFree ch (signed_decimal (key e) ++ 58 ∷ signed_decimal (number e)) = free_append ch (signed_decimal (key e)) (58 ∷ signed_decimal (number e)) (free_signed ch (key e) apart sign f.1) (colon, free_signed ch (number e) apart sign f.2) in
      subst (IsFree ch) (sym (hand_is j e)) (h, free_append ch (decimal j) (58 ∷ (signed_decimal (key e) ++ 58 ∷ signed_decimal (number e))) (free_decimal ch j apart f.0) (colon, behind))

  no_slash : (p : NamePart E) → FitsPart key number p → IsFree 47 (part_text key number p)
  no_slash = free_part 47 (inl (omega arith)) (λ e. absurd (omega (arith, e))) (λ e. absurd (omega (arith, e))) (λ e. absurd (omega (arith, e)))

  no_slash_in_main : IsFree 47 (codes "main")
  no_slash_in_main = (λ e. absurd (omega (arith, e)), (λ e. absurd (omega (arith, e)), (λ e. absurd (omega (arith, e)), (λ e. absurd (omega (arith, e)), tt))))

  no_line_in_part : (p : NamePart E) → FitsPart key number p → IsFree 10 (part_text key number p)
  no_line_in_part = free_part 10 (inl (omega arith)) (λ e. absurd (omega (arith, e))) (λ e. absurd (omega (arith, e))) (λ e. absurd (omega (arith, e)))

  -- a name's text has no line's end
  pub no_line : (t : Name E) → FitsName key number t → IsFree 10 (name_text key number t)
  no_line main f = (λ e. absurd (omega (arith, e)), (λ e. absurd (omega (arith, e)), (λ e. absurd (omega (arith, e)), (λ e. absurd (omega (arith, e)), tt))))
  no_line (p ∷ t) f = subst (IsFree 10) (sym (last_part t p)) (free_append 10 (name_text key number t) (47 ∷ part_text key number p) (no_line t f.1) (λ e. absurd (omega (arith, e)), no_line_in_part p f.0))

  -- main's text is no other name's
  pub main_alone : (u : Name E) (p : NamePart E) → name_text key number (main {E = E}) ≡ name_text key number (p ∷ u) → ⊥
  main_alone u p e = not_cut 47 (codes "main") (name_text key number u) (part_text key number p) no_slash_in_main (e ∙ last_part u p)

  -- the text of a fork tells its parent's text and its number
  pub forks_told : (t u : Name E) (i k : ℕ) → FitsPart key number (ForkPart i) → FitsPart key number (ForkPart k) → name_text key number (forked t i) ≡ name_text key number (forked u k)
      → (name_text key number t ≡ name_text key number u) × (i ≡ k)
  forks_told t u i k f g e =
      let s = cut_last 47 (name_text key number t) (name_text key number u) (decimal i) (decimal k) (no_slash (ForkPart i) f) (no_slash (ForkPart k) g) (sym (last_part t (ForkPart i)) ∙ e ∙ last_part u (ForkPart k)) in
      (s.0, decimal_injective i k f g s.1)

  -- a fork's text is not that of a task that handles an event
  pub fork_is_no_hand : (t u : Name E) (i k : ℕ) (x : E) → FitsPart key number (ForkPart i) → FitsPart key number (HandPart k x) → name_text key number (forked t i) ≡ name_text key number (handed u k x) → ⊥
  fork_is_no_hand t u i k x f g e =
      let s = cut_last 47 (name_text key number t) (name_text key number u) (decimal i) (part_text key number (HandPart k x)) (no_slash (ForkPart i) f) (no_slash (HandPart k x) g) (sym (last_part t (ForkPart i)) ∙ e ∙ last_part u (HandPart k x)) in
      first_is_digit 104 i (event_text k x) (inr (omega arith)) f (s.1 ∙ hand_is k x)

  -- the text of a task that handles an event tells the adder's text, the handler's number, and the event's key and number
  pub record IsHandTold (t u : Name E) (j k : ℕ) (e x : E) : Type 0 where
    pub adders : name_text key number t ≡ name_text key number u
    pub handlers : j ≡ k
    pub keys : key e ≡ key x
    pub numbers : number e ≡ number x

  pub hands_told : (t u : Name E) (j k : ℕ) (e x : E) → FitsPart key number (HandPart j e) → FitsPart key number (HandPart k x) → name_text key number (handed t j e) ≡ name_text key number (handed u k x)
      → IsHandTold t u j k e x
  hands_told t u j k e x f g q =
      let s = cut_last 47 (name_text key number t) (name_text key number u) (part_text key number (HandPart j e)) (part_text key number (HandPart k x)) (no_slash (HandPart j e) f) (no_slash (HandPart k x) g) (sym (last_part t (HandPart j e)) ∙ q ∙ last_part u (HandPart k x)) in
      let colon : IsNoDigit 58 = inr (omega arith) in
      let n = cut_first 58 (decimal j) (decimal k) (signed_decimal (key e) ++ 58 ∷ signed_decimal (number e)) (signed_decimal (key x) ++ 58 ∷ signed_decimal (number x))
      (free_decimal 58 j colon f.0) (free_decimal 58 k colon g.0) (rest_is 104 104 (event_text j e) (event_text k x) (sym (hand_is j e) ∙ s.1 ∙ hand_is k x)) in
      let m = cut_first 58 (signed_decimal (key e)) (signed_decimal (key x)) (signed_decimal (number e)) (signed_decimal (number x))
      (free_signed 58 (key e) colon (λ z. absurd (omega (arith, z))) f.1) (free_signed 58 (key x) colon (λ z. absurd (omega (arith, z))) g.1) n.1 in
      record {
        adders = s.0;
        handlers = decimal_injective j k f.0 g.0 n.0;
        keys = signed_decimal_injective (key e) (key x) f.1 g.1 m.0;
        numbers = signed_decimal_injective (number e) (number x) f.2 g.2 m.1;
      }
