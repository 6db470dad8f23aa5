-- The ghost side of a log, the machine values of its tokens, how a walk ends, and which tokens cross threads. Assumes `Logic`.
use Rattle.std.proofs.Common.{◌≡◌, ℕ, List, [], ◌∷◌, ◌++◌, map, refl, sym, ap, ◌∙◌}
use mathlib.Core.List.{IsPrefix}
use seplogic.Ra.Ura.{Ura}
use mir.Val.{Val, vstruct, vcons, vnil}
use base.Fraction.{full_share}
use base.Stored.{Gv, Coded}
use base.Logic.{SProp, ent, sep, wand, ex, guard, emp, via, apply∗}
use base.Fml.{Lft, Fml, ftrue, fbor}
use base.Growing.{Least, latest, at_least, prefix_refl}
use base.Shift.{Keyless}
use types.Logic.{Logic, sem, lfts}
use types.Owned.{basic}
use types.Growing.{latest_new, latest_grows, latest_shows, at_least_dup, at_least_join}
use types.Kit.{‵, raw, ◌⊛◌, some, given, later, ◌$◌, ◌∵◌, !, qed, move, drop, split, join, pick, learn, check, suffices, use0, use1, use2, updating, await, now, done}
use denote.RattleType.{RattleType}
use denote.Signature.{type_at}
use denote.Steps.{nothing}
use denote.Shadow.{makes_shadow}
use denote.Sharing.{said}
use denote.Struct.Struct.{Struct}
use denote.Struct.Lending.{Lends}
use denote.Triple.Clauses.{Ended, Clauses, Lasts, at_exit}
use denote.Triple.Entry.{Res, alive}
use denote.Triple.Walked.{Stays, Fit, has_of, walk_of, ends_at}
use Rattle.std.specs.contracts.marker.PhantomData as marker
use Rattle.lvish_history.specs.Logs.{logs, log_owns, seen_owns}

-- what a `Log` and a `Seen` are to the machine
abbrev pub token : Val
token = vstruct (vcons (vstruct vnil) vnil)

module _ (V : RattleType) where
  -- the fields of a token
  abbrev pub Token : RattleType
  Token = Struct record { name = []; args = []; types = []; fields = marker.the_row V ∷ [] }

  -- a token's fields own nothing
  pub token_made : {M : Type 1} {𝓤 : Ura M} (𝓛 : Logic 𝓤) → ent 𝓤 (emp 𝓤) (sem 𝓛 (Token.own_val (record {}, tt) (token ∷ [])))
  token_made 𝓛 = makes_shadow 𝓛 (Token.own_val (record {}, tt) (token ∷ [])) (λ vss. (tt, ((λ uss. (tt, tt)), tt))) ((vstruct vnil ∷ [], tt), (refl, ((tt, (refl, tt)), tt)))

-- a walk has the tokens of its lifetimes, what is left of the parameters and the result, and its `ensures` holds
pub ends : {M : Type 1} {𝓤 : Ura M} (𝓛 : Logic 𝓤) (T : Ended) (hs : Stays T.signature.params T.kept) (c : Clauses 𝓤 T) (y : (walk_of 𝓛 T hs c).Ghost) (v : Val) (r : Res T.signature y.0.0) (ws : Lasts T y.0.0 y.0.3)
    → Fit T hs y.0.0 y.0.3 ws → ent 𝓤 (emp 𝓤) ((c y.0.0 y.0.3).ensures y.1 r (at_exit T y.0.0 y.0.3 ws))
    → ent 𝓤 (sep 𝓤 (alive 𝓛 T.signature y.0.0 y.0.1) (sep 𝓤 (sem 𝓛 (has_of y.0.0 T.signature.params T.kept hs y.0.3 ws y.0.4)) (sem 𝓛 ((type_at T.signature.result y.0.0).own_val r (v ∷ []))))) ((walk_of 𝓛 T hs c).post y v)
ends {𝓤 = 𝓤} 𝓛 T hs c y v r ws fit told =
    qed 𝓛 (raw (alive 𝓛 T.signature y.0.0 y.0.1) ∷ ‵ (has_of y.0.0 T.signature.params T.kept hs y.0.3 ws y.0.4) ∷ ‵ ((type_at T.signature.result y.0.0).own_val r (v ∷ [])) ∷ []) ∵
    suffices ! _ (ends_at 𝓛 T hs c y v r ws fit) $
    use0 𝓛 (raw ((c y.0.0 y.0.3).ensures y.1 r (at_exit T y.0.0 y.0.3 ws))) told $
    move ! (2 ∷ 3 ∷ []) $ join ! $ move ! (2 ∷ 0 ∷ 1 ∷ []) $ join ! $ done !

-- where readers have of P what may be had again and again, a `&` is made of a borrow of P
pub lends_fact : {M : Type 1} {𝓤 : Ura M} (𝓛 : Logic 𝓤) (P Q : Fml) → ent 𝓤 (sem 𝓛 P) (sep 𝓤 (sem 𝓛 P) (sem 𝓛 Q)) → (l : Lft) → Lends 𝓛 P (said Q) l
lends_fact {𝓤 = 𝓤} 𝓛 P Q tells l κ ts inc sp =
    let Back = 𝓛.H.⇛ (sep 𝓤 (𝓛.A.bor κ P) (lfts 𝓛 ts)) in
    qed 𝓛 (‵ (fbor κ P) ∷ raw (lfts 𝓛 ts) ∷ []) ∵ updating ! $
    use2 𝓛 (later (‵ P ⊛ raw (wand 𝓤 (sem 𝓛 P) Back))) (𝓛.more.bor_acc_by κ ts P sp) $ await ! tt $ split ! $
    use1 𝓛 (‵ P ⊛ ‵ Q) tells $ split ! $ move ! (0 ∷ 2 ∷ []) $
    use2 𝓛 (later (‵ (fbor κ P) ⊛ raw (lfts 𝓛 ts))) (apply∗ 𝓤 (sem 𝓛 P) Back) $ await ! tt $ split ! $ drop ! $ move ! (1 ∷ 0 ∷ []) $ now ! $ done !

-- both lists are beginnings of one
abbrev pub Above : {V : Type 0} → List V → List V → Type 0
Above {V} xs ys = (all : List V) × IsPrefix xs all × IsPrefix ys all

-- the first of a list, or another where there is none
abbrev head : Gv → List Gv → Gv
head other [] = other
head other (g ∷ gs) = g

-- the list without its first
abbrev tail : List Gv → List Gv
tail [] = []
tail (g ∷ gs) = gs

-- so they are where their codes are
pub above : {V : Type 0} (cv : Coded V) (xs ys : List V) (l : List Gv) → IsPrefix (map cv.code xs) l → IsPrefix (map cv.code ys) l → Above xs ys
above {V} cv [] ys l p q = (ys, (ys, refl), prefix_refl ys)
above {V} cv (x ∷ xs) [] l p q = (x ∷ xs, prefix_refl (x ∷ xs), (x ∷ xs, refl))
above {V} cv (x ∷ xs) (y ∷ ys) l p q =
    let same : x ≡ y = cv.inj x y (ap (head (cv.code x)) (p.1 ∙ sym q.1)) in
    let rest = above cv xs ys (tail l) (p.0, ap tail p.1) (q.0, ap tail q.1) in
    (x ∷ rest.0, (rest.1.0, ap (λ (zs : List V). x ∷ zs) rest.1.1), (rest.2.0, λ i. sym same i ∷ rest.2.1 i))

module _ {V : Type 0} (code : V → Gv) where
  -- a log is of no thread
  pub log_keyless : (name : ℕ) (values : List V) → Keyless (log_owns code name values)
  unfolding latest
  log_keyless name values = tt

  -- nor is what was seen of it
  pub seen_keyless : (name : ℕ) (values : List V) → Keyless (seen_owns code name values)
  unfolding at_least
  seen_keyless name values = tt

module _ {M : Type 1} {𝓤 : Ura M} (𝓛 : Logic 𝓤) where
  -- an assertion, and how assertions are written
  abbrev Pr : Type 2
  Pr = SProp 𝓤

  abbrev ◌⊢◌ : Pr → Pr → Type 1
  P ⊢ Q = ent 𝓤 P Q

  abbrev ◌∗◌ : Pr → Pr → Pr
  P ∗ Q = sep 𝓤 P Q

  abbrev ⟦◌⟧ : Fml → Pr
  ⟦ P ⟧ = sem 𝓛 P

  infix 26 ◌⊢◌
  infixr 35 ◌∗◌
  module _ {V : Type 0} (code : V → Gv) where
    -- a log begins with no value, under a name of its own
    pub begins : emp 𝓤 ⊢ 𝓛.H.⇛ (ex 𝓤 (λ (name : ℕ). ⟦ log_owns code name [] ⟧))
    begins = via 𝓤 _ (latest_new logs 𝓛 []) (basic 𝓛 _)

    -- what there is of a log was reached
    pub shown : (name : ℕ) (values : List V) → ⟦ log_owns code name values ⟧ ⊢ ⟦ log_owns code name values ⟧ ∗ ⟦ seen_owns code name values ⟧
    shown name values = latest_shows logs 𝓛 full_share name (map code values) (map code values) (logs.same (map code values))

    -- what was seen may be had twice
    pub seen_twice : (name : ℕ) (values : List V) → ⟦ seen_owns code name values ⟧ ⊢ ⟦ seen_owns code name values ⟧ ∗ ⟦ seen_owns code name values ⟧
    seen_twice name values = at_least_dup logs 𝓛 name (map code values)

    -- the codes of two lists, one behind the other
    joined_codes : (xs ys : List V) → map code xs ++ map code ys ≡ map code (xs ++ ys)
    joined_codes [] ys = refl
    joined_codes (x ∷ xs) ys = ap (λ (gs : List Gv). code x ∷ gs) (joined_codes xs ys)

    -- whoever owns a log adds to it
    pub grows : (name : ℕ) (values more : List V) → ⟦ log_owns code name values ⟧ ⊢ 𝓛.H.⇛ ⟦ log_owns code name (values ++ more) ⟧
    grows name values more = via 𝓤 _ (latest_grows logs 𝓛 name (map code values) (map code (values ++ more)) (map code more, joined_codes values more)) (basic 𝓛 _)

  module _ {V : Type 0} (cv : Coded V) where
    -- what was seen of one log are beginnings of one list
    pub met : (name : ℕ) (xs ys : List V) → ⟦ seen_owns cv.code name xs ⟧ ∗ ⟦ seen_owns cv.code name ys ⟧ ⊢ guard 𝓤 (Above xs ys) ⟦ ftrue ⟧
    met name xs ys =
        let xs' = map cv.code xs in
        let ys' = map cv.code ys in
        qed 𝓛 (‵ (seen_owns cv.code name xs) ∷ ‵ (seen_owns cv.code name ys) ∷ []) ∵
        use2 𝓛 (some (λ (l : List Gv). given (Least IsPrefix xs' ys' l) (‵ (at_least logs name l)))) (at_least_join logs 𝓛 name xs' ys') $
        pick ! (λ l. learn ! (λ least. drop ! $ check ! (above cv xs ys l least.0 least.1) $ nothing ! $ done !))
