use Rattle.std.proofs.Common.{◌≡◌, ◌+◌, ◌<◌, ◌≤◌, Some, Bool, take, length, slice_get, sym, ◌∙◌, ap, subst, arith}
use Rattle.std.specs.Borrow.{Bor}
use Rattle.std.proofs.lemmas.Bool.{eqb-true, eq-eqb, false_from_ne_true}
use Rattle.std.proofs.lemmas.List.{length-map}
use Rattle.lvish_facts.specs.Names.{Word, names_in}
use Rattle.lvish_checks.specs.Text.{words_of}
use Rattle.lvish_reaching.proofs.Lines.{edges_in, IsBare, line_there, graph_more, bare_more, edge_more, none_more, is_first, is_accepted, is_bare, whole_graph}
use Rattle.lvish_reaching.proofs.reading.read_graph.Goals.{then-len-gt1, else-len-gt1}
use Rattle.lvish_reaching.proofs.reading.read_graph.Goals as goal

pub loop-place-preserved : goal.loop-place-preserved
loop-place-preserved c =
    let items = c.in_ok-lines.lines.items in
    let lines = names_in items in
    let k = c.loop-place.place in
    let line = c.index.result.now.now in
    let lt : k < length items = omega (arith, c.loop-place-test.true, c.len-place-end.ensures, c.in_ok-lines.lines.ok.0) in
    let there : slice_get lines k ≡ Some line = line_there items k c.index.result.now lt ∙ ap (λ (ref : Bor Word). Some ref.now) (sym c.index.ensures) in
    let words = names_in c.as_slice.result.now in
    let are : words ≡ words_of line = ap names_in c.as_slice.ensures.value ∙ c.in_ok-put_words.ensures.words in
    let counted = length-map c.as_slice.result.now (λ (ref : Bor Word). ref.now) in
    let listed = ap length c.as_slice.ensures.value in
    let held = c.put_words.new.words.ok.0 in
    let count : c.len.result ≡ length words = omega (arith, counted, listed, held, c.len.ensures) in
    let again : c.len-in-loop-place.result ≡ length words = omega (arith, counted, listed, held, c.len-in-loop-place.ensures) in
    let rest = edges_in (take (k + 1) lines) in
    record {
      graph = graph_more lines k line there words are c.loop-place.graph c.add_line.new.self c.args.root.now c.loop-place.invariant.graph c.in_ok-add_line.ensures;
      paired = none_more lines k line there c.loop-place.invariant.paired (false_from_ne_true _ (λ e. c.if-len-eq1.false (count ∙ ap length are ∙ eqb-true _ _ e)));
      bare = elim c.if-len-gt1.branch [
        | then-len-gt1 w ↦ subst (λ (b : Bool). IsBare b rest) (sym w.is_empty-is) (edge_more lines k line there words are (omega (arith, w.if-len-gt1.true, again)))
        | else-len-gt1 w ↦
            subst (λ (b : Bool). IsBare b rest) (sym w.is_empty-is) (bare_more lines k line there words are c.loop-place.is_empty (omega (arith, w.if-len-gt1.false, c.if-len-eq1.false, again, count)) c.loop-place.invariant.bare)
      ];
    }

pub returns-then-len-eq1-clause-refused : goal.returns-then-len-eq1-clause-refused
returns-then-len-eq1-clause-refused c =
    let items = c.in_ok-lines.lines.items in
    let lines = names_in items in
    let k = c.loop-place.place in
    let line = c.index.result.now.now in
    let lt : k < length items = omega (arith, c.loop-place-test.true, c.len-place-end.ensures, c.in_ok-lines.lines.ok.0) in
    let there : slice_get lines k ≡ Some line = line_there items k c.index.result.now lt ∙ ap (λ (ref : Bor Word). Some ref.now) (sym c.index.ensures) in
    let words = c.put_words.new.words.items in
    let counted = length-map words (λ (ref : Bor Word). ref.now) in
    let one : length (words_of line) ≡ 1 = omega (arith, ap length c.in_ok-put_words.ensures.words, counted, c.put_words.new.words.ok.0, c.len.ensures, c.if-len-eq1.true) in
    is_first c.args.text.now lines c.in_ok-lines.ensures k line there (eq-eqb _ _ one) c.loop-place.invariant.paired

pub returns-then-is_empty-clause-refused : goal.returns-then-is_empty-clause-refused
returns-then-is_empty-clause-refused c =
    let lines = names_in c.in_ok-lines.lines.items in
    let k = c.loop-place.place in
    let all : length lines ≤ k = omega (arith, c.loop-place-test.false, c.len-place-end.ensures, c.in_ok-lines.lines.ok.0, length-map c.in_ok-lines.lines.items (λ (ref : Bor Word). ref.now)) in
    is_bare c.args.text.now lines c.in_ok-lines.ensures k all c.loop-place.invariant.paired (subst (λ (b : Bool). IsBare b (edges_in (take k lines))) c.if-is_empty.true c.loop-place.invariant.bare)

pub returns-clause-accepted : goal.returns-clause-accepted
returns-clause-accepted c =
    let lines = names_in c.in_ok-lines.lines.items in
    let k = c.loop-place.place in
    let all : length lines ≤ k = omega (arith, c.loop-place-test.false, c.len-place-end.ensures, c.in_ok-lines.lines.ok.0, length-map c.in_ok-lines.lines.items (λ (ref : Bor Word). ref.now)) in
    is_accepted c.args.text.now lines c.in_ok-lines.ensures k all c.loop-place.invariant.paired (subst (λ (b : Bool). IsBare b (edges_in (take k lines))) c.if-is_empty.false c.loop-place.invariant.bare)

pub returns-clause-graph : goal.returns-clause-graph
returns-clause-graph c =
    let lines = names_in c.in_ok-lines.lines.items in
    let k = c.loop-place.place in
    let all : length lines ≤ k = omega (arith, c.loop-place-test.false, c.len-place-end.ensures, c.in_ok-lines.lines.ok.0, length-map c.in_ok-lines.lines.items (λ (ref : Bor Word). ref.now)) in
    whole_graph c.args.text.now lines c.in_ok-lines.ensures k all c.loop-place.graph c.args.root.now c.loop-place.invariant.graph
