-- What a call on the amounts of a tally means for the tally.
use Rattle.std.specs.Prelude.{◌≡◌, ℕ, ℤ, ◌+◌, ◌<◌, ◌≤◌, Bool, true, false, List, [], ◌∷◌, Option, Some, None, option_and_then, is_some, unwrap_or, Result, IfOk, refl}
use Rattle.std.proofs.Common.{sym, ◌∙◌, ap, arith, true≢false}
use Rattle.std.proofs.lemmas.List.Sums.{sum_by-cons}
use Rattle.std.proofs.lemmas.Result.{IfOk-weaker}
use Rattle.lvish_lattice.specs.Lattice.{events_beyond, fresh_of}
use Rattle.lvish_lattice.specs.Listed.{unless_some}
use Rattle.lvish_compound.specs.Vocabulary.{MaxCounter, HIGHEST_TOTAL}
use Rattle.lvish_compound.specs.Amounts.{total_of, gains, gain}
use Rattle.lvish_compound.specs.laws.AmountLaws.{gain_within}
use Rattle.lvish_compound.specs.MapOf as map_of
use Rattle.lvish_compound.specs.Tally.{Tally, Amounts, entries_of, tally_of, joined, events_of}
use Rattle.lvish_compound.specs.laws.TallyLaws.{same_tally, total_of_join, made_there, joined_amounts, joined_tally}

-- a walk over the entries that are put
pub gained_more : (es fs ks ms : List (ℤ × MaxCounter)) (f : ℤ × MaxCounter) (g : ℕ) → g + gain es ks ≡ gain es fs → ks ≡ f ∷ ms → (g + gains es f) + gain es ms ≡ gain es fs
gained_more es fs ks ms f g h e = omega (arith, h, ap (gain es) e, sum_by-cons (gains es) f ms)

pub gained_within : (es fs ks ms : List (ℤ × MaxCounter)) (f : ℤ × MaxCounter) (g : ℕ) → g + gain es ks ≡ gain es fs → ks ≡ f ∷ ms → g + gains es f ≤ total_of fs
gained_within es fs ks ms f g h e = omega (arith, gained_more es fs ks ms f g h e, gain_within es fs)

pub gained_all : (es fs ks : List (ℤ × MaxCounter)) (g : ℕ) → g + gain es ks ≡ gain es fs → ks ≡ [] → g ≡ gain es fs
gained_all es fs ks g h e = omega (arith, h, ap (gain es) e)

-- what the total of a join would be
abbrev pub sum : Tally → Tally → ℕ
sum s t = s.total + gain (entries_of s) (entries_of t)

pub sum_of_join : (s t : Tally) (c : Amounts) → map_of.joined s.amounts t.amounts ≡ Some c → sum s t ≡ total_of c.entries
sum_of_join s t c h = omega (arith, total_of_join s.amounts t.amounts c h, s.counted)

pub past_is_top : (s t : Tally) → HIGHEST_TOTAL < sum s t → joined s t ≡ None
past_is_top s t l = unless_some (joined s t) (λ u e. omega (arith, l, sum_of_join s t u.amounts (joined_amounts s t u e), u.counted, u.bounded))

pub merged_total : (s t : Tally) (m : Amounts) (b : Bool) → b ≡ is_some (map_of.joined s.amounts t.amounts) → m ≡ unwrap_or (map_of.joined s.amounts t.amounts) s.amounts → (b ≡ true → sum s t ≡ total_of m.entries) × (b ≡ false → s.total ≡ total_of m.entries)
merged_total s t m b is e = by_join (map_of.joined s.amounts t.amounts) refl is e
  where
    by_join : (o : Option Amounts) → map_of.joined s.amounts t.amounts ≡ o → b ≡ is_some o → m ≡ unwrap_or o s.amounts → (b ≡ true → sum s t ≡ total_of m.entries) × (b ≡ false → s.total ≡ total_of m.entries)
    by_join None h is e = (λ y. absurd (true≢false (sym y ∙ is)), λ n. s.counted ∙ ap (λ (v : Amounts). total_of v.entries) (sym e))
    by_join (Some c) h is e = (λ y. sum_of_join s t c h ∙ ap (λ (v : Amounts). total_of v.entries) (sym e), λ n. absurd (true≢false (sym is ∙ n)))

merged_one : (s t n : Tally) (b : Bool) → b ≡ is_some (map_of.joined s.amounts t.amounts) → n.amounts ≡ unwrap_or (map_of.joined s.amounts t.amounts) s.amounts → (b ≡ is_some (joined s t)) × (n ≡ unwrap_or (joined s t) s)
merged_one s t n b is e = by_join (map_of.joined s.amounts t.amounts) refl is e
  where
    by_join : (o : Option Amounts) → map_of.joined s.amounts t.amounts ≡ o → b ≡ is_some o → n.amounts ≡ unwrap_or o s.amounts → (b ≡ is_some (joined s t)) × (n ≡ unwrap_or (joined s t) s)
    by_join None h is e = let top : joined s t ≡ None = ap (option_and_then tally_of) h in (is ∙ ap is_some (sym top), same_tally n s e ∙ ap (λ o. unwrap_or o s) (sym top))
    by_join (Some c) h is e = let there = joined_tally s t n (h ∙ ap Some (sym e)) in (is ∙ ap is_some (sym there), ap (λ o. unwrap_or o s) (sym there))

-- amounts that are merged are those of the join
pub merged : {Refused : Type 0} (s t n : Tally) (q : Result Bool Refused) → IfOk q (λ b. (b ≡ is_some (map_of.joined s.amounts t.amounts)) × (n.amounts ≡ unwrap_or (map_of.joined s.amounts t.amounts) s.amounts)) → IfOk q (λ b. (b ≡ is_some (joined s t)) × (n ≡ unwrap_or (joined s t) s))
merged s t n q h = IfOk-weaker q _ _ (λ b w. merged_one s t n b w.0 w.1) h

-- what a put within the bound brings
pub tally_fresh : (eq : ℤ × ℤ → ℤ × ℤ → Bool) (s t : Tally) → sum s t ≤ HIGHEST_TOTAL → fresh_of map_of.joined eq map_of.map_events_of s.amounts t.amounts ≡ fresh_of joined eq events_of s t
tally_fresh eq s t l = by_join (map_of.joined s.amounts t.amounts) refl
  where
    by_join : (o : Option Amounts) → map_of.joined s.amounts t.amounts ≡ o → events_beyond eq map_of.map_events_of s.amounts o ≡ events_beyond eq events_of s (option_and_then tally_of o)
    by_join None e = refl
    by_join (Some c) e =
        let m : (u : Tally) × (tally_of c ≡ Some u) × (u.amounts ≡ c) = made_there c (omega (arith, l, sum_of_join s t c e)) in
        ap (λ (v : Amounts). events_beyond eq map_of.map_events_of s.amounts (Some v)) (sym m.2) ∙ ap (events_beyond eq events_of s) (sym m.1)

pub past_fresh : (eq : ℤ × ℤ → ℤ × ℤ → Bool) (s t : Tally) → HIGHEST_TOTAL < sum s t → [] ≡ fresh_of joined eq events_of s t
past_fresh eq s t l = ap (events_beyond eq events_of s) (sym (past_is_top s t l))
