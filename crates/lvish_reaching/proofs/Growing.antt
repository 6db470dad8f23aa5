-- Graphs that grow: by a node, and by an edge.
use Rattle.std.proofs.Common.{◌≡◌, ◌⊎◌, inl, inr, ℕ, ◌+◌, ◌<◌, zero, suc, List, [], ◌∷◌, ◌++◌, Some, Contains, map, take, length, get_or, slice_get, refl, sym, ◌∙◌, ap, subst, arith, append_assoc, append-nil}
use Rattle.std.proofs.lemmas.List.Elements.{Contains-append_left, Contains-append_right, Contains-append_cases}
use Rattle.std.specs.Borrow.{Bor}
use Rattle.std.specs.Global.{Vec}
use Rattle.std.specs.List.{slice_set}
use Rattle.std.proofs.lemmas.List.{map-append, take_more}
use Rattle.lvish_facts.specs.declared.node.Node.{Node}
use Rattle.lvish_facts.specs.Names.{Word, IsNamed, IsEachOnce, IsNumbered, names_in}
use Rattle.lvish_reaching.specs.Edges.{Edge, edges_on}
use Rattle.lvish_reaching.specs.Graphs.{GraphView, root_node, lists_in, list_at, IsGraphOf, Stands, IsPushed, HasEdges}
use Rattle.lvish_reaching.specs.Walk.{of_one}

-- ---- lists that are looked up

-- an empty list at the end changes no look-up, since what isn't there counts as empty
at_or_empty : (xs : List (List Node)) (k : ℕ) → list_at (xs ++ [] ∷ []) k ≡ list_at xs k
at_or_empty [] zero = refl
at_or_empty [] (suc k) = refl
at_or_empty (x ∷ xs) zero = refl
at_or_empty (x ∷ xs) (suc k) = at_or_empty xs k

-- so an empty vector at the end changes none
pub one_empty_more : (xs : List (Vec Node)) (v : Vec Node) → v.items ≡ [] → (k : ℕ) → list_at (lists_in (xs ++ v ∷ [])) k ≡ list_at (lists_in xs) k
one_empty_more xs v e k = ap (λ l. list_at l k) (map-append (λ w. w.items) xs (v ∷ []) ∙ ap (λ ns. lists_in xs ++ ns ∷ []) e) ∙ at_or_empty (lists_in xs) k

module _ {X : Type 0} (f : X → List Node) (to : Node) where
  abbrev at : List X → ℕ → List Node
  at xs k = list_at (map f xs) k

  pushed_kept : (xs : List X) (place : ℕ) (old w : X) → slice_get xs place ≡ Some old → f w ≡ f old ++ to ∷ []
      → (k : ℕ) (n : Node) → Contains (at xs k) n → Contains (at (slice_set xs place w) k) n
  pushed_kept [] place old w h e k n c = let z : ⊥ = cc in absurd z
  pushed_kept (x ∷ xs) zero old w h e zero n c =
      let s : x ≡ old = cc in
      subst (λ (ns : List Node). Contains ns n) (sym e) (Contains-append_left (f old) (to ∷ []) n (subst (λ y. Contains (f y) n) s c))
  pushed_kept (x ∷ xs) zero old w h e (suc k) n c = c
  pushed_kept (x ∷ xs) (suc place) old w h e zero n c = c
  pushed_kept (x ∷ xs) (suc place) old w h e (suc k) n c = pushed_kept xs place old w h e k n c

  pushed_there : (xs : List X) (place : ℕ) (old w : X) → slice_get xs place ≡ Some old → f w ≡ f old ++ to ∷ [] → Contains (at (slice_set xs place w) place) to
  pushed_there [] place old w h e = let z : ⊥ = cc in absurd z
  pushed_there (x ∷ xs) zero old w h e = subst (λ (ns : List Node). Contains ns to) (sym e) (Contains-append_right (f old) (to ∷ []) to (0, omega arith, refl))
  pushed_there (x ∷ xs) (suc place) old w h e = pushed_there xs place old w h e

  pushed_only : (xs : List X) (place : ℕ) (old w : X) → slice_get xs place ≡ Some old → f w ≡ f old ++ to ∷ []
      → (k : ℕ) (n : Node) → Contains (at (slice_set xs place w) k) n → Contains (at xs k) n
      ⊎ ((k ≡ place) × (to ≡ n))
  pushed_only [] place old w h e k n c = let z : ⊥ = cc in absurd z
  pushed_only (x ∷ xs) zero old w h e zero n c =
      let s : x ≡ old = cc in
      elim (Contains-append_cases (f old) (to ∷ []) n (subst (λ (ns : List Node). Contains ns n) e c)) [
        | inl d ↦ inl (subst (λ y. Contains (f y) n) (sym s) d)
        | inr d ↦ inr (refl, of_one to n d)
      ]
  pushed_only (x ∷ xs) zero old w h e (suc k) n c = inl c
  pushed_only (x ∷ xs) (suc place) old w h e zero n c = inl c
  pushed_only (x ∷ xs) (suc place) old w h e (suc k) n c = elim (pushed_only xs place old w h e k n c) [
    | inl d ↦ inl d
    | inr d ↦ inr (ap suc d.0, d.1)
  ]

  pub pushed : (xs : List X) (place : ℕ) (old w : X) → slice_get xs place ≡ Some old → f w ≡ f old ++ to ∷ []
      → IsPushed (map f xs) (map f (slice_set xs place w)) place to
  pushed xs place old w h e = record { kept = pushed_kept xs place old w h e; there = pushed_there xs place old w h e; only = pushed_only xs place old w h e }

-- lists with the same look-ups are pushed alike
pushed_alike : (old mid new : List (List Node)) (place : ℕ) (to : Node) → ((k : ℕ) → list_at mid k ≡ list_at old k)
    → IsPushed mid new place to → IsPushed old new place to
pushed_alike old mid new place to same put = record {
  kept = λ k n c. put.kept k n (subst (λ (ns : List Node). Contains ns n) (sym (same k)) c);
  there = put.there;
  only = λ k n c. elim (put.only k n c) [
    | inl d ↦ inl (subst (λ (ns : List Node). Contains ns n) (same k) d)
    | inr d ↦ inr d
  ];
}

-- ---- graphs

-- more names change no edges
pub names_grown : (old new : GraphView) (name : Word) (n : Node) → IsNumbered old.names new.names name n → new.next ≡ old.next → HasEdges old new []
names_grown old new name n is next = record {
  kept = is.kept;
  added = λ root edges was. subst (λ (es : List Edge). IsGraphOf new root es) (sym (append-nil edges)) (record {
    root_first = is.kept root_node root was.root_first;
    once = is.once;
    sound = λ from to c.
        let s = was.sound from to (subst (λ (lists : List (List Node)). Contains (list_at lists from.number) to) next c) in
        record { edge = s.edge; listed = s.listed; from_named = is.kept from s.edge.0 s.from_named; to_named = is.kept to s.edge.1 s.to_named };
    complete = λ e h.
        let s = was.complete e h in
        record {
          from = s.from;
          to = s.to;
          from_named = is.kept s.from e.0 s.from_named;
          to_named = is.kept s.to e.1 s.to_named;
          there = subst (λ (lists : List (List Node)). Contains (list_at lists s.from.number) s.to) (sym next) s.there;
        };
  });
}

-- a graph of the same names, where a successor was put
pushed_edge : (old new : GraphView) (from to : Node) (v w : Word) → new.names ≡ old.names
    → IsPushed old.next new.next from.number to → IsNamed old.names from v → IsNamed old.names to w
    → HasEdges old new ((v, w) ∷ [])
pushed_edge old new from to v w names put from_named to_named = record { kept = kept; added = added }
  where
    kept : (m : Node) (u : Word) → IsNamed old.names m u → IsNamed new.names m u
    kept m u h = subst (λ (ns : List Word). slice_get ns m.number ≡ Some u) (sym names) h

    same_node : (m : Node) → m.number ≡ from.number → from ≡ m
    same_node m h = λ i. record { number = sym h i }

    added : (root : Word) (edges : List Edge) → IsGraphOf old root edges → IsGraphOf new root (edges ++ (v, w) ∷ [])
    added root edges is = record {
      root_first = kept root_node root is.root_first;
      once = subst IsEachOnce (sym names) is.once;
      sound = λ a b c. elim (put.only a.number b c) [
        | inl d ↦
            let s = is.sound a b d in
            record { edge = s.edge; listed = Contains-append_left edges ((v, w) ∷ []) s.edge s.listed; from_named = kept a s.edge.0 s.from_named; to_named = kept b s.edge.1 s.to_named }
        | inr d ↦ record {
          edge = (v, w);
          listed = Contains-append_right edges ((v, w) ∷ []) (v, w) (0, omega arith, refl);
          from_named = kept a v (subst (λ m. IsNamed old.names m v) (same_node a d.0) from_named);
          to_named = kept b w (subst (λ m. IsNamed old.names m w) d.1 to_named);
        }
      ];
      complete = λ e h. elim (Contains-append_cases edges ((v, w) ∷ []) e h) [
        | inl d ↦
            let s = is.complete e d in
            record { from = s.from; to = s.to; from_named = kept s.from e.0 s.from_named; to_named = kept s.to e.1 s.to_named; there = put.kept s.from.number s.to s.there }
        | inr d ↦ subst (Stands new) (of_one (v, w) e d) (record { from = from; to = to; from_named = kept from v from_named; to_named = kept to w to_named; there = put.there })
      ];
    }

more_edges : (a b c : GraphView) (xs ys : List Edge) → HasEdges a b xs → HasEdges b c ys → HasEdges a c (xs ++ ys)
more_edges a b c xs ys h k = record {
  kept = λ m w named. k.kept m w (h.kept m w named);
  added = λ root edges is. subst (λ (es : List Edge). IsGraphOf c root es) (append_assoc edges xs ys) (k.added root (edges ++ xs) (h.added root edges is));
}

-- the name of the node that the edge leads to is there or comes last, and the node is a successor more
pub edge_added : (old new : GraphView) (mid : List (List Node)) (from to : Node) (v w : Word)
    → IsNumbered old.names new.names w to → ((k : ℕ) → list_at mid k ≡ list_at old.next k)
    → IsPushed mid new.next from.number to
    → IsNamed old.names from v → HasEdges old new ((v, w) ∷ [])
edge_added old new mid from to v w is same put named =
    let named_all : GraphView = record { names = new.names; next = old.next } in
    let more = pushed_edge named_all new from to v w refl (pushed_alike old.next mid new.next from.number to same put) (is.kept from v named) is.named in
    more_edges old named_all new [] ((v, w) ∷ []) (names_grown old named_all w to is refl) more

-- the edges of a line, one word more
pub line_more : (a b c : GraphView) (first : Word) (others : List Word) (to : Word)
    → HasEdges a b (edges_on (first ∷ others)) → HasEdges b c ((first, to) ∷ [])
    → HasEdges a c (edges_on (first ∷ others ++ to ∷ []))
line_more a b c first others to h k =
    subst (HasEdges a c) (sym (map-append (λ w. (first, w)) others (to ∷ []))) (more_edges a b c (edges_on (first ∷ others)) ((first, to) ∷ []) h k)

-- the edges of a line whose first name is there or comes last
pub line_added : (old mid new : GraphView) (from : Node) (first : Word) (others : List Word) → IsNumbered old.names mid.names first from → mid.next ≡ old.next
    → ((name : Word) → IsNamed mid.names from name → HasEdges mid new (edges_on (name ∷ others))) → HasEdges old new (edges_on (first ∷ others))
line_added old mid new from first others is next more = more_edges old mid new [] (edges_on (first ∷ others)) (names_grown old mid first from is next) (more first is.named)

-- names that are referred to, one more
pub names_more : (refs : List (Bor Word)) (k : ℕ) (ref : Bor Word) → k < length refs
    → names_in (take (k + 1) refs) ≡ names_in (take k refs) ++ (get_or refs k ref).now ∷ []
names_more refs k ref lt = ap names_in (take_more refs k ref lt) ∙ map-append (λ r. r.now) (take k refs) (get_or refs k ref ∷ [])

pub no_edges : (a : GraphView) → HasEdges a a []
no_edges a = record { kept = λ m w named. named; added = λ root edges is. subst (λ (es : List Edge). IsGraphOf a root es) (sym (append-nil edges)) is }

-- the graph of the root alone
pub of_root_alone : (g : GraphView) (root : Word) → g.names ≡ root ∷ [] → g.next ≡ [] → IsGraphOf g root []
of_root_alone g root names next = subst (λ (h : GraphView). IsGraphOf h root []) (sym e) (record {
  root_first = refl;
  once = λ i j name a b. first i name a ∙ sym (first j name b);
  sound = λ from to c. absurd (omega (arith, c.1));
  complete = λ e h. absurd (omega (arith, h.1));
})
  where
    e : g ≡ record { names = root ∷ []; next = [] }
    e = λ i. record { names = names i; next = next i }

    first : (k : ℕ) (name : Word) → slice_get (root ∷ []) k ≡ Some name → k ≡ 0
    first zero name h = refl
    first (suc k) name h = let z : ⊥ = cc in absurd z
