-- What a name feeds to a hasher: one number where all its parts are forks, else its parts, the last one first.
use Rattle.std.specs.Prelude.{◌≡◌, Bool, [], ◌++◌, if◌then◌else◌, IsTrue, refl}
use Rattle.std.proofs.Common.{ap}
use Rattle.std.proofs.lemmas.Bool.{false≢true, and_parts, eqb-true}
use Rattle.std.specs.Hash.{HashWrites, u32, u64}
use Rattle.lvish_names.specs.declared.name_part.NamePart.{NamePart}
use Rattle.lvish_names.specs.declared.name_part.NamePart.TheVariants.{Fork, Hand}
use Rattle.lvish_names.specs.Names.{Name, Handler, main, forked, handed, same_name, same_handler}
use Rattle.lvish_names.specs.NameOrder.{part_eq}
use Rattle.lvish_names.specs.Summaries.{with_part, summary_of}
use Rattle.lvish_names.specs.declared.summary.Summary.{Summary}

module _ {E : Type 0} (feeds : E → HashWrites) where
  abbrev pub part_input : NamePart E → HashWrites
  part_input (Fork i) = u64 i
  part_input (Hand j e) = u64 j ++ feeds e

  abbrev pub parts_input : Name E → HashWrites
  parts_input main = []
  parts_input (forked t i) = part_input (Fork i) ++ parts_input t
  parts_input (handed t j e) = part_input (Hand j e) ++ parts_input t

  -- the parts of a name with an event, the number of another
  abbrev pub summed_input : Summary → Name E → HashWrites
  summed_input s t = if s.has_event then parts_input t else u32 s.code

  abbrev pub name_input : Name E → HashWrites
  name_input t = summed_input (summary_of t) t

  abbrev pub handler_input : Handler E → HashWrites
  handler_input h = u64 h.number ++ name_input h.adder

  -- ---- equal names feed alike

  module _ {eq : E → E → Bool} (alike : (x y : E) → IsTrue (eq x y) → feeds x ≡ feeds y) where
    pub parts_alike : (x y : NamePart E) → IsTrue (part_eq eq x y) → part_input x ≡ part_input y
    parts_alike (Fork i) (Fork k) e = ap u64 (eqb-true i k e)
    parts_alike (Hand i e) (Hand k f) h =
        let p = and_parts _ _ h in
        λ j. u64 (eqb-true i k p.0 j) ++ alike e f p.1 j
    parts_alike x y e = absurd (false≢true e)

    paths_alike : (t u : Name E) → IsTrue (same_name eq t u) → parts_input t ≡ parts_input u
    paths_alike main main e = refl
    paths_alike (forked t i) (forked u k) e =
        let p = and_parts _ _ e in
        λ j. u64 (eqb-true i k p.0 j) ++ paths_alike t u p.1 j
    paths_alike (handed t i x) (handed u k f) e =
        let p = and_parts _ _ e in
        let q = and_parts _ _ p.1 in
        λ j. (u64 (eqb-true i k p.0 j) ++ alike x f q.0 j) ++ paths_alike t u q.1 j
    paths_alike t u e = absurd (false≢true e)

    -- a summary doesn't tell events apart
    summaries_alike : (t u : Name E) → IsTrue (same_name eq t u) → summary_of t ≡ summary_of u
    summaries_alike main main e = refl
    summaries_alike (forked t i) (forked u k) e =
        let p = and_parts _ _ e in
        λ j. with_part {E = E} (summaries_alike t u p.1 j) (Fork (eqb-true i k p.0 j))
    summaries_alike (handed t i x) (handed u k f) e =
        let p = and_parts _ _ e in
        let q = and_parts _ _ p.1 in
        λ j. with_part {E = E} (summaries_alike t u q.1 j) (Hand (eqb-true i k p.0 j) x)
    summaries_alike t u e = absurd (false≢true e)

    pub names_alike : (t u : Name E) → IsTrue (same_name eq t u) → name_input t ≡ name_input u
    names_alike t u e = λ j. if (summaries_alike t u e j).has_event then paths_alike t u e j else u32 (summaries_alike t u e j).code

    pub handlers_alike : (h k : Handler E) → IsTrue (same_handler eq h k) → handler_input h ≡ handler_input k
    handlers_alike h k e =
        let p = and_parts _ _ e in
        λ j. u64 (eqb-true h.number k.number p.0 j) ++ names_alike h.adder k.adder p.1 j
