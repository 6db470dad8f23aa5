-- What a lattice with events and a threshold read are.
use Rattle.std.specs.Prelude.{◌≡◌, ◌⊎◌, ◌↔◌, List, [], ◌∷◌, Bool, true, false, not, Option, Some, None, filter, option_and_then, is_some, unwrap_or}
use Rattle.std.specs.Set.{is_member, IsUnion}
use Rattle.std.specs.List.Sorted.{IsStrictlySortedBy}
use Rattle.std.specs.declared.cmp.Ordering.{Ordering}
use Rattle.lvish_lattice.specs.declared.brought.Brought.{Brought}
use Rattle.lvish_lattice.specs.declared.brought.Brought.TheVariants.{Nothing, One, Top, Listed}

-- a test of equality that holds of identical values alone
abbrev pub IsIdentity : {S : Type 0} → (S → S → Bool) → Type 0
IsIdentity {S} eq = (x y : S) → eq x y ≡ true → x ≡ y

-- A partial join: None is the greatest element, which is no state.
pub record IsJoin {S : Type 0} (least : S) (join : S → S → Option S) : Type 0 where
  pub unit : (a : S) → join least a ≡ Some a
  pub idempotent : (a : S) → join a a ≡ Some a
  pub commutative : (a b : S) → join a b ≡ join b a
  pub associative : (a b c : S) → option_and_then (λ x. join x c) (join a b) ≡ option_and_then (λ x. join a x) (join b c)

-- a is at or below b
abbrev pub IsAtOrBelow : {S : Type 0} → (S → S → Option S) → S → S → Type 0
IsAtOrBelow join a b = join a b ≡ Some b

-- Each state has a list of events, ascending and without repeats, and is determined by them.
pub record HasEvents {S E : Type 0} (least : S) (join : S → S → Option S) (eq : E → E → Bool) (cmp : E → E → Ordering) (events : S → List E) : Type 0 where
  pub none : events least ≡ []
  pub ascending : (a : S) → IsStrictlySortedBy cmp (events a)
  pub union : (a b c : S) → join a b ≡ Some c → IsUnion eq (events a) (events b) (events c)
  pub determine : (a b : S) → events a ≡ events b → a ≡ b

-- the events of new that old does not have, none where there is no new state
abbrev pub events_beyond : {S E : Type 0} → (E → E → Bool) → (S → List E) → S → Option S → List E
events_beyond eq events old (Some new) = filter (λ e. not (is_member eq (events old) e)) (events new)
events_beyond eq events old None = []

-- the events of the join that old does not have, none where the join is top
abbrev pub fresh_of : {S E : Type 0} → (S → S → Option S) → (E → E → Bool) → (S → List E) → S → S → List E
fresh_of join eq events old put = events_beyond eq events old (join old put)

-- a state was joined in place, if the join is a state
abbrev pub IsMerged : {S : Type 0} → Option S → S → S → Bool → Type 0
IsMerged joined old new done = (done ≡ is_some joined) × (new ≡ unwrap_or joined old)

-- what a put brought, by its join and its fresh events: it was joined and brought none, or one; or the join is top; or nothing was done
abbrev pub IsOutcome : {S E : Type 0} → Option S → List E → S → S → Brought E → Type 0
IsOutcome joined fresh old new Nothing = IsMerged joined old new true × (fresh ≡ [])
IsOutcome joined fresh old new (One event) = IsMerged joined old new true × (fresh ≡ event ∷ [])
IsOutcome joined fresh old new Top = IsMerged joined old new false
IsOutcome joined fresh old new Listed = new ≡ old

-- the same of events under other names
abbrev pub renamed : {E F : Type 0} → (E → F) → Brought E → Brought F
renamed f Nothing = Nothing
renamed f (One event) = One (f event)
renamed f Top = Top
renamed f Listed = Listed

-- A read is a set of groups, each a set of states with one answer, which names the group: member m a says that m is in the group of answer a.
-- It is checked where any two members of different groups join to top.
abbrev pub IsChecked : {S A : Type 0} → (S → S → Option S) → (S → A → Type 0) → Type 0
IsChecked {S} {A} join member = (m n : S) (a b : A) → member m a → member n b → (a ≡ b) ⊎ (join m n ≡ None)

-- a is the answer of a group with a member at or below the state
abbrev pub Answers : {S A : Type 0} → (S → S → Option S) → (S → A → Type 0) → S → A → Type 0
Answers {S} join member state a = (m : S) × member m a × IsAtOrBelow join m state

-- in each state there is an answer exactly where a group with a member at or below the state has it
abbrev pub IsAnswered : {S A : Type 0} → (S → S → Option S) → (S → A → Type 0) → (S → Option A) → Type 0
IsAnswered {S} {A} join member answer_of = (s : S) (a : A) → (answer_of s ≡ Some a) ↔ Answers join member s a

-- an event of this spot is among those of the new state and not among those of the old one
pub record BringsAt {S E W : Type 0} (eq : E → E → Bool) (events : S → List E) (spot_of : E → W) (old new : S) (w : W) : Type 0 where
  pub event : E
  pub there : is_member eq (events new) event ≡ true
  pub missing : is_member eq (events old) event ≡ false
  pub at : spot_of event ≡ w

-- where a read that waits at a spot has no answer in one state and has one in another, the second state has an event of the spot which the first does not have
abbrev pub IsWatched : {S E R A W : Type 0} → (E → E → Bool) → (S → List E) → (E → W) → (R → Option W) → (R → S → Option A) → Type 0
IsWatched {S} {E} {R} {A} {W} eq events spot_of watched answer_of = (r : R) (w : W) → watched r ≡ Some w → (old new : S) (a : A) → answer_of r old ≡ None → answer_of r new ≡ Some a → BringsAt eq events spot_of old new w
