-- Lines that are read one after the other.
use Rattle.std.proofs.Common.{◌≡◌, ℕ, ◌+◌, ◌<◌, ◌≤◌, Bool, true, false, List, [], ◌∷◌, ◌++◌, Some, take, take_all, length, slice_get, get_or, option_map, nat_lt, refl, sym, ◌∙◌, ap, subst, arith, append-nil}
use Rattle.std.specs.Borrow.{Bor}
use Rattle.std.specs.List.{flat_map}
use Rattle.std.proofs.lemmas.Bool.{ltb-true, ltb-false}
use Rattle.std.proofs.lemmas.List.{take_more}
use Rattle.std.proofs.lemmas.List.Concat.{flat_map-append}
use Rattle.std.proofs.lemmas.Option.{slice_get_within, get_or_from_slice_get, slice_get-get_or, slice_get-map}
use Rattle.lvish_checks.specs.Text.{lines_of, words_of}
use Rattle.lvish_facts.specs.Names.{Word, names_in}
use Rattle.lvish_reaching.specs.Edges.{Edge, edges_on, edges_of, is_alone, IsNoneAlone, IsAccepted, IsEmpty, IsFirstAlone}
use Rattle.lvish_reaching.specs.Graphs.{GraphView, IsGraphOf, HasEdges}

-- the edges of these lines
abbrev pub edges_in : List Word → List Edge
edges_in lines = flat_map (λ line. edges_on (words_of line)) lines

-- whether there are no edges
abbrev pub IsBare : Bool → List Edge → Type 0
IsBare true edges = edges ≡ []
IsBare false edges = edges ≡ [] → ⊥

pub line_there : (items : List (Bor Word)) (k : ℕ) (other : Bor Word) → k < length items → slice_get (names_in items) k ≡ Some (get_or items k other).now
line_there items k other lt = slice_get-map (λ ref. ref.now) items k ∙ ap (option_map (λ (ref : Bor Word). ref.now)) (slice_get-get_or items k other lt)

-- a line of no words has no edges
still_bare : (bare : Bool) (edges : List Edge) (words : List Word) → length words ≡ 0 → IsBare bare edges → IsBare bare (edges ++ edges_on words)
still_bare bare edges [] h is = subst (IsBare bare) (sym (append-nil edges)) is
still_bare bare edges (word ∷ words) h is = absurd (omega (arith, h))

-- a line of two words has an edge
not_bare : (edges : List Edge) (words : List Word) → 1 < length words → edges ++ edges_on words ≡ [] → ⊥
not_bare edges [] h = absurd (omega (arith, h))
not_bare edges (from ∷ []) h = absurd (omega (arith, h))
not_bare [] (from ∷ to ∷ words) h = λ e. cc
not_bare (edge ∷ edges) (from ∷ to ∷ words) h = λ e. cc

module _ (lines : List Word) (k : ℕ) (line : Word) (there : slice_get lines k ≡ Some line) where
  one_more : edges_in (take (k + 1) lines) ≡ edges_in (take k lines) ++ edges_on (words_of line)
  one_more =
      ap edges_in (take_more lines k line (slice_get_within lines k line there) ∙ ap (λ l. take k lines ++ l ∷ []) (get_or_from_slice_get lines k line line there))
      ∙ flat_map-append (λ l. edges_on (words_of l)) (take k lines) (line ∷ [])
      ∙ ap (λ es. edges_in (take k lines) ++ es) (append-nil (edges_on (words_of line)))

  module _ (words : List Word) (are : words ≡ words_of line) where
    -- the graph of the lines and of one more
    pub graph_more : (old new : GraphView) (root : Word) → IsGraphOf old root (edges_in (take k lines))
        → HasEdges old new (edges_on words) → IsGraphOf new root (edges_in (take (k + 1) lines))
    graph_more old new root is more =
        subst (IsGraphOf new root) (ap (λ ws. edges_in (take k lines) ++ edges_on ws) are ∙ sym one_more) (more.added root (edges_in (take k lines)) is)

    pub bare_more : (bare : Bool) → length words ≡ 0 → IsBare bare (edges_in (take k lines)) → IsBare bare (edges_in (take (k + 1) lines))
    bare_more bare h is = subst (IsBare bare) (sym one_more) (still_bare bare (edges_in (take k lines)) (words_of line) (ap length (sym are) ∙ h) is)

    pub edge_more : 1 < length words → IsBare false (edges_in (take (k + 1) lines))
    edge_more h = subst (IsBare false) (sym one_more) (not_bare (edges_in (take k lines)) (words_of line) (subst (λ (ws : List Word). 1 < length ws) are h))

  pub none_more : IsNoneAlone lines k → is_alone line ≡ false → IsNoneAlone lines (k + 1)
  none_more none fine j other lt found = by (nat_lt j k) refl
    where
      by : (b : Bool) → nat_lt j k ≡ b → is_alone other ≡ false
      by true e = none j other (ltb-true j k e) found
      by false e =
          let same : j ≡ k = omega (arith, ltb-false j k e, lt) in
          let both : ◌≡◌ {A = _} (Some line) (Some other) = sym there ∙ sym (ap (slice_get lines) same) ∙ found in
          let equal : line ≡ other = cc in
          subst (λ l. is_alone l ≡ false) equal fine

-- ---- a text whose lines are these

module _ (text : List ℕ) (lines : List Word) (are : lines ≡ lines_of text) (k : ℕ) where
  pub is_first : (line : Word) → slice_get lines k ≡ Some line → is_alone line ≡ true → IsNoneAlone lines k → IsFirstAlone text (k + 1)
  is_first line there alone none = record {
    place = k;
    line = line;
    counted = refl;
    there = subst (λ (ls : List Word). slice_get ls k ≡ Some line) are there;
    alone = alone;
    first = subst (λ (ls : List Word). IsNoneAlone ls k) are none;
  }

  module _ (all : length lines ≤ k) where
    read : edges_in (take k lines) ≡ edges_of text
    read = ap edges_in (take_all k lines all ∙ are)

    paired : IsNoneAlone lines k → IsNoneAlone (lines_of text) (length (lines_of text))
    paired none = subst (λ (ls : List Word). IsNoneAlone ls (length ls)) are (λ j line lt found. none j line (omega (arith, lt, all)) found)

    pub is_accepted : IsNoneAlone lines k → IsBare false (edges_in (take k lines)) → IsAccepted text
    is_accepted none bare = record { paired = paired none; some = λ e. bare (read ∙ e) }

    pub is_bare : IsNoneAlone lines k → IsBare true (edges_in (take k lines)) → IsEmpty text
    is_bare none bare = record { paired = paired none; none = sym read ∙ bare }

    pub whole_graph : (g : GraphView) (root : Word) → IsGraphOf g root (edges_in (take k lines)) → IsGraphOf g root (edges_of text)
    whole_graph g root is = subst (IsGraphOf g root) read is
