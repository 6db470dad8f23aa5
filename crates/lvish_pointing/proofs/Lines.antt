-- Lines that are read one after the other.
use Rattle.std.proofs.Common.{◌≡◌, ℕ, ◌+◌, ◌<◌, ◌≤◌, Bool, true, false, List, [], ◌∷◌, ◌++◌, Some, None, take, length, slice_get, refl, sym, ◌∙◌, ap, subst, arith, append-nil, nat_lt, option_map, Bor, slice_index_or}
use Rattle.std.specs.List.{flat_map}
use Rattle.std.proofs.lemmas.Bool.{ltb-true, ltb-false}
use Rattle.std.proofs.lemmas.Option.{slice_get_within, get_or_from_slice_get, slice_get-get_or, slice_get-map}
use Rattle.std.proofs.lemmas.List.{take_more}
use Rattle.std.proofs.lemmas.List.Concat.{flat_map-append}
use Rattle.lvish_checks.specs.Text.{words_of}
use Rattle.lvish_facts.specs.Names.{Word, names_in}
use Rattle.lvish_pointing.specs.declared.fact.Fact.{Fact}
use Rattle.lvish_pointing.specs.Facts.{facts_on, missing_on}

-- the facts of these lines
abbrev pub facts_in : List (List ℕ) → List (Fact Word)
facts_in lines = flat_map (λ line. facts_on (words_of line)) lines

-- nothing is missing on the lines before this place
abbrev pub NoneMissing : List (List ℕ) → ℕ → Type 0
NoneMissing lines place = (k : ℕ) (line : List ℕ) → k < place → slice_get lines k ≡ Some line → missing_on (words_of line) ≡ None

pub one_more : (lines : List (List ℕ)) (k : ℕ) (line : List ℕ) → slice_get lines k ≡ Some line
    → facts_in (take (k + 1) lines) ≡ facts_in (take k lines) ++ facts_on (words_of line)
one_more lines k line there =
    ap facts_in (take_more lines k line (slice_get_within lines k line there) ∙ ap (λ l. take k lines ++ l ∷ []) (get_or_from_slice_get lines k line line there))
    ∙ flat_map-append (λ l. facts_on (words_of l)) (take k lines) (line ∷ []) ∙ ap (λ fs. facts_in (take k lines) ++ fs) (append-nil (facts_on (words_of line)))

pub none_more : (lines : List (List ℕ)) (place : ℕ) (line : List ℕ) → NoneMissing lines place
    → slice_get lines place ≡ Some line → missing_on (words_of line) ≡ None → NoneMissing lines (place + 1)
none_more lines place line none there fine k other lt found = by (nat_lt k place) refl
  where
    by : (b : Bool) → nat_lt k place ≡ b → missing_on (words_of other) ≡ None
    by true e = none k other (ltb-true k place e) found
    by false e =
        let same : k ≡ place = omega (arith, ltb-false k place e, lt) in
        let both : ◌≡◌ {A = _} (Some line) (Some other) = sym there ∙ sym (ap (slice_get lines) same) ∙ found in
        let equal : line ≡ other = cc in
        subst (λ l. missing_on (words_of l) ≡ None) equal fine

-- nothing is missing on any line of the text
pub all_fine : (lines all : List (List ℕ)) (place : ℕ) → lines ≡ all → length lines ≤ place → NoneMissing lines place
    → (k : ℕ) (line : List ℕ) → slice_get all k ≡ Some line → missing_on (words_of line) ≡ None
all_fine lines all place same le none k line there =
    let at : slice_get lines k ≡ Some line = ap (λ ls. slice_get ls k) same ∙ there in
    none k line (omega (arith, slice_get_within lines k line at, le)) at

-- the value that is referred to at a place
pub named_at : (refs : List (Bor (List ℕ))) (k : ℕ) (ref : Bor (List ℕ)) → k < length refs
    → slice_index_or refs k ref ≡ ref → slice_get (names_in refs) k ≡ Some ref.now
named_at refs k ref lt is = slice_get-map (λ r. r.now) refs k ∙ ap (option_map (λ r. r.now)) (slice_get-get_or refs k ref lt ∙ ap Some is)

pub value_at : (refs : List (Bor (List ℕ))) (k : ℕ) (d : Bor (List ℕ)) → k < length refs → slice_get (names_in refs) k ≡ Some (slice_index_or refs k d).now
value_at refs k d lt = slice_get-map (λ r. r.now) refs k ∙ ap (option_map (λ r. r.now)) (slice_get-get_or refs k d lt)

pub nothing : {X : Type 0} (xs : List X) → length xs ≡ 0 → xs ≡ []
nothing [] h = refl
nothing (x ∷ xs) h = absurd (omega (arith, h))
