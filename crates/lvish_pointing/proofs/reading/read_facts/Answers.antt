use Rattle.std.proofs.Common.{rules, ◌≡◌, ◌++◌, ◌<◌, ◌≤◌, length, Some, None, slice_get, map, take_all, sym, ◌∙◌, ap, arith}
use Rattle.std.proofs.lemmas.Bool.{eqb-true}
use Rattle.std.proofs.lemmas.List.{length-map}
use Rattle.lvish_checks.specs.Text.{lines_of, words_of}
use Rattle.lvish_facts.specs.Names.{names_in}
use Rattle.lvish_pointing.specs.Facts.{facts_of, facts_on, missing_on}
use Rattle.lvish_pointing.specs.Numbers.{spelled}
use Rattle.lvish_pointing.proofs.Lines.{facts_in, one_more, none_more, all_fine, named_at, nothing}
use Rattle.lvish_pointing.proofs.reading.read_facts.Goals as goal

pub loop-place-preserved : goal.loop-place-preserved
loop-place-preserved c =
    let refs = c.in_ok-lines.lines.items in
    let place = c.loop-place.place in
    let ref = c.index.result.now in
    let lt : place < length refs = omega (arith, c.loop-place-test.true, c.len-place-end.ensures, c.in_ok-lines.lines.ok.0) in
    let there : slice_get (names_in refs) place ≡ Some ref.now = named_at refs place ref lt (sym c.index.ensures) in
    let words : names_in c.as_slice.result.now ≡ words_of ref.now = ap names_in c.as_slice.ensures.value ∙ c.in_ok-put_words.ensures.words in
    let none : c.in_ok-expected.field-0 ≡ None = search rules in
    let missing : missing_on (words_of ref.now) ≡ None = ap missing_on (sym words) ∙ sym c.in_ok-expected.ensures.missing ∙ none in
    record {
      facts = c.in_ok-expected.ensures.facts ∙ (λ i. c.loop-place.invariant.facts i ++ facts_on (words i)) ∙ sym (one_more (names_in refs) place ref.now there);
      fine = none_more (names_in refs) place ref.now c.loop-place.invariant.fine there missing;
    }

pub returns-then-is_empty-clause-refused : goal.returns-then-is_empty-clause-refused
returns-then-is_empty-clause-refused c =
    let refs = c.in_ok-lines.lines.items in
    let le : length (names_in refs) ≤ c.loop-place.place = omega (arith, length-map refs (λ r. r.now), c.loop-place-test.false, c.len-place-end.ensures, c.in_ok-lines.lines.ok.0) in
    let none : c.loop-place.facts.len ≡ 0 = eqb-true _ _ (sym c.is_empty.ensures ∙ c.if-is_empty.true) in
    let no = nothing c.loop-place.facts.items (omega (arith, none, c.loop-place.facts.ok.0)) in
    let whole : map spelled c.loop-place.facts.items ≡ facts_of c.args.text.now = c.loop-place.invariant.facts ∙ ap facts_in (take_all c.loop-place.place (names_in refs) le ∙ c.in_ok-lines.ensures) in
    record {
      accepted = all_fine (names_in refs) (lines_of c.args.text.now) c.loop-place.place c.in_ok-lines.ensures le c.loop-place.invariant.fine;
      none = sym whole ∙ ap (map spelled) no;
    }

pub returns-clause-accepted : goal.returns-clause-accepted
returns-clause-accepted c =
    let refs = c.in_ok-lines.lines.items in
    let le : length (names_in refs) ≤ c.loop-place.place = omega (arith, length-map refs (λ r. r.now), c.loop-place-test.false, c.len-place-end.ensures, c.in_ok-lines.lines.ok.0) in
    all_fine (names_in refs) (lines_of c.args.text.now) c.loop-place.place c.in_ok-lines.ensures le c.loop-place.invariant.fine
