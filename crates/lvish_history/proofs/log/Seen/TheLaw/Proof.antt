-- A `&` to a `Seen` holds what was seen of the log, which can be had twice. Assumes `Logic`.
use base.Logic.{snd∗}
use base.Before.{before}
use types.Logic.{sem}
use denote.RattleType.{RattleType}
use denote.Param.Laws.{Laws}
use denote.Param.Shared.{copy_shared}
use denote.Struct.Laws.{field_copy}
use denote.Struct.Lending.{of_Lends}
use Rattle.std.specs.contracts.marker.PhantomData as marker
use Rattle.lvish_history.specs.Logs.{seen_owns}
use Rattle.lvish_history.specs.contracts.log.Seen as C
use Rattle.lvish_history.proofs.Logs.{seen_twice, lends_fact}
use Rattle.lvish_history.proofs.log.Seen.TheLaw.Statement.{statement}

-- it is made of a borrow, copied, and used at a shorter lifetime
pub shares : (V : RattleType) (L : Laws V) → statement V L
shares V L =
    of_Lends (C.struct V) (C.the_codes V.Denot V.coded (marker.the_row V).coded) (C.the_heap V) (C.the_lent V)
    (λ d p. record { contraction = λ M 𝓤 𝓛 κ. seen_twice 𝓛 V.coded.code d.book d.values; mono = λ M 𝓤 𝓛 κ' κ. snd∗ 𝓤 (sem 𝓛 (before κ' κ)) (sem 𝓛 (seen_owns V.coded.code d.book d.values)) })
    (copy_shared (marker.the_field V) (field_copy (marker.the_type V) tt), tt)
    (λ M 𝓤 𝓛 d p. lends_fact 𝓛 (seen_owns V.coded.code d.book d.values) (seen_owns V.coded.code d.book d.values) (seen_twice 𝓛 V.coded.code d.book d.values) (C.the_row V).lives)
