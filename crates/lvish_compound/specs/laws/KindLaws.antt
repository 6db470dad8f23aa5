-- The order of the kinds and the test of events, by laws of all enums without fields.
use Rattle.std.proofs.Common.{◌≡◌, ℕ, Bool, true, List, [], ◌∷◌, refl, ◌&&◌, ◌∙◌, suc, inl, inr, arith, sym}
use Rattle.std.proofs.lemmas.Bool.Decides.{nat_tests}
use Rattle.std.specs.Cmp.Derive.{points}
use Rattle.std.specs.Ordering.{nat_cmp, int_eq}
use Rattle.lvish_compound.specs.Vocabulary.{Less, Equal, Greater, Kind, Event}
use denote.Enum.Bare.{same_true, true_same}
use denote.Enum.Compared.{by}
use denote.Enum.Declared.{Choice, rowss, intoss, tag_of}
use denote.Enum.Enum.{tag}
use denote.Struct.Field.{Field}
use Rattle.lvish_lattice.specs.Lattice.{IsIdentity}
use Rattle.lvish_compound.specs.contracts.kind.Kind.{the_type, enum}
use Rattle.lvish_compound.specs.declared.kind.Kind.TheVariants.{Cell, Set, Max, Map, Tally}
use Rattle.lvish_compound.specs.Kinds.{rank, same_kind, kind_cmp}
use Rattle.std.proofs.lemmas.Bool.{and_parts}
use Rattle.lvish_lattice.specs.Plain.{int_identical}

pub kinds_identical : IsIdentity same_kind
kinds_identical k l e = same_true the_type tt k l e

pub kind_itself : (k : Kind) → same_kind k k ≡ true
kind_itself k = true_same the_type k k refl

-- the place of a variant among all
abbrev place : (Fss : List (List Field)) → Choice Fss → ℕ
place Fss c = tag (rowss Fss) (intoss Fss c)

one_more : (m n : ℕ) → nat_cmp m n ≡ nat_cmp (suc m) (suc n)
one_more m n = grind (arith, nat_tests)

first_less : (n : ℕ) → Less ≡ nat_cmp 0 (suc n)
first_less n = grind (arith, nat_tests)

later_greater : (n : ℕ) → Greater ≡ nat_cmp (suc n) 0
later_greater n = grind (arith, nat_tests)

-- variants without fields are ordered by their places
by_place : (Fss : List (List Field)) (c d : Choice Fss) → by Less Greater Fss (points Equal Fss) c d ≡ nat_cmp (place Fss c) (place Fss d)
by_place [] c d = absurd c
by_place (Fs ∷ Fss) (inl x) (inl y) = refl
by_place (Fs ∷ Fss) (inl x) (inr y) = first_less (place Fss y)
by_place (Fs ∷ Fss) (inr x) (inl y) = later_greater (place Fss x)
by_place (Fs ∷ Fss) (inr x) (inr y) = by_place Fss x y ∙ one_more (place Fss x) (place Fss y)

rank_is_place : (k : Kind) → tag_of the_type k ≡ rank k
rank_is_place Cell = refl
rank_is_place Set = refl
rank_is_place Max = refl
rank_is_place Map = refl
rank_is_place Tally = refl

pub kinds_rank : (k l : Kind) → kind_cmp k l ≡ nat_cmp (rank k) (rank l)
kinds_rank k l = by_place enum.parts (enum.as_values k) (enum.as_values l) ∙ (λ i. nat_cmp (rank_is_place k i) (rank_is_place l i))

pub events_identical : (eq : Event → Event → Bool) → ((d e : Event) → eq d e ≡ (int_eq d.key e.key && (same_kind d.kind e.kind && int_eq d.number e.number))) → IsIdentity eq
events_identical eq is d e h =
    let t = and_parts (int_eq d.key e.key) (same_kind d.kind e.kind && int_eq d.number e.number) (sym (is d e) ∙ h) in
    let u = and_parts (same_kind d.kind e.kind) (int_eq d.number e.number) t.1 in
    let k : d.key ≡ e.key = int_identical d.key e.key t.0 in
    let l : d.kind ≡ e.kind = kinds_identical d.kind e.kind u.0 in
    let n : d.number ≡ e.number = int_identical d.number e.number u.1 in
    λ i. record { key = k i; kind = l i; number = n i }
