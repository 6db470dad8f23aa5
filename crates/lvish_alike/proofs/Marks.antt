-- Marks of routines, and what one comes to from a routine.
use Rattle.std.proofs.Common.{◌≡◌, ◌⊎◌, ◌↔◌, inl, inr, ℕ, ◌+◌, ◌<◌, ◌≤◌, Bool, true, false, not, nat_eq, List, [], ◌∷◌, Option, Some, None, if◌then◌else◌, length, get_or, set, replicate, refl, sym, ap, subst, ◌∙◌, arith}
use Rattle.std.specs.Prelude.{is_some, IfSome, IfNone}
use Rattle.std.specs.List.{slice_get, filter_map, cons_option, count_by}
use Rattle.std.proofs.Math.Nat.{eq-or-lt_of_le}
use Rattle.std.proofs.lemmas.Bool.{both_ways, cases_eq, cases_lt, not-true, not-false}
use Rattle.std.proofs.lemmas.Bool.Decides.{Decides-eqb}
use Rattle.std.proofs.lemmas.Option.{slice_get_within, slice_get-get_or, get_or_from_slice_get, slice_get_past}
use Rattle.std.proofs.lemmas.List.{length-set, length-replicate, get_or-set_same, get_or-set_other, get_or-replicate, get_or_past, get_or_default}
use Rattle.std.proofs.lemmas.List.Sums.{sum_by-set, count_by-le-length}
use Rattle.lvish_calculus.specs.Handing.{IsAmong}
use Rattle.lvish_code.specs.declared.instruction.Instruction.{Instruction}
use Rattle.lvish_code.specs.declared.routine.Routine.{Routine}
use Rattle.lvish_task.specs.Run.{instructions_in}
use Rattle.lvish_code.specs.Flat as flat
use Rattle.lvish_alike.specs.Reaching.{Leads, at_once, further, Outline, CanRun, FreezesOne, MainFreezes, HasOneOrder}
use Rattle.lvish_alike.specs.declared.link.Link.{Link}
use Rattle.lvish_alike.specs.declared.link.Link.TheVariants as link
use Rattle.lvish_alike.specs.declared.sought.Sought.TheVariants as sought
use Rattle.lvish_alike.specs.Sought.{instruction_names, instruction_starts, instruction_freezes, given_by, wanted, is_option, IsFound, IsNowhere, linked, AreReached, AreLed, FreezeOne, OthersFreezeNone, code_outline}

-- ---- lists

pub marked_at : (marks : List Bool) (k n : ℕ) → length marks ≡ n → k < n → get_or marks k false ≡ true → slice_get marks k ≡ Some true
marked_at marks k n e lt t = slice_get-get_or marks k false (subst (λ m. k < m) (sym e) lt) ∙ ap Some t

pub marked_is : (marks : List Bool) (k : ℕ) → slice_get marks k ≡ Some true → get_or marks k false ≡ true
marked_is marks k e = get_or_from_slice_get marks k true false e

pub marked_within : (marks : List Bool) (k n : ℕ) → length marks ≡ n → slice_get marks k ≡ Some true → k < n
marked_within marks k n e h = subst (λ m. k < m) e (slice_get_within marks k true h)

pub below_or_at : (j i : ℕ) → j < i + 1 → (j ≡ i) ⊎ (j < i)
below_or_at j i lt = eq-or-lt_of_le (omega (arith, lt))

pub given_read : (f : Instruction → Option ℕ) (routines : List Routine) (k : ℕ) (d : Routine) (is : List Instruction) → k < length routines → is ≡ (get_or routines k d).instructions → given_by f routines k ≡ filter_map f is
given_read f routines k d is lt e = ap (λ o. filter_map f (instructions_in o)) (slice_get-get_or routines k d lt) ∙ ap (filter_map f) (sym e)

-- there are no instructions past the last routine
given_past : (f : Instruction → Option ℕ) (routines : List Routine) (k : ℕ) → length routines ≤ k → given_by f routines k ≡ []
given_past f routines k le = ap (λ o. filter_map f (instructions_in o)) (slice_get_past routines k le)

pub given_within : (f : Instruction → Option ℕ) (routines : List Routine) (k v : ℕ) → IsAmong v (given_by f routines k) → k < length routines
given_within f routines k v a = elim (cases_lt k (length routines)) [ inl lt ↦ lt | inr le ↦ absurd (subst (λ l. IsAmong v l) (given_past f routines k le) a) ]

-- ---- what is wanted

among_behind : (v : ℕ) (o : Option ℕ) (ks : List ℕ) → IsAmong v ks → IsAmong v (cons_option o ks)
among_behind v None ks a = a
among_behind v (Some k) ks a = inr a

wanted_is : (p : ℕ → Bool) (o : Option ℕ) (v : ℕ) → wanted p o ≡ Some v → (o ≡ Some v) × (p v ≡ true)
wanted_is p None v e = absurd (cc e)
wanted_is p (Some k) v e = by (p k) refl e
  where
    by : (b : Bool) → p k ≡ b → (if b then Some k else None) ≡ Some v → (Some k ≡ Some v) × (p v ≡ true)
    by true t e = let same : k ≡ v = cc in (e, ap p (sym same) ∙ t)
    by false t e = absurd (cc e)

wanted_of : (p : ℕ → Bool) (v : ℕ) → p v ≡ true → wanted p (Some v) ≡ Some v
wanted_of p v t = ap (λ b. if b then Some v else None) t

module _ (p : ℕ → Bool) (h : Instruction → Option ℕ) (v : ℕ) where
  -- what is among the wanted numbers is among all, and is wanted
  pub wanted_among : (is : List Instruction) → IsAmong v (filter_map (λ i. wanted p (h i)) is) → IsAmong v (filter_map h is) × (p v ≡ true)
  wanted_among [] a = absurd a
  wanted_among (i ∷ is) a = by (wanted_among is) (wanted p (h i)) refl a
    where
      more : IsAmong v (filter_map h is) × (p v ≡ true) → IsAmong v (filter_map h (i ∷ is)) × (p v ≡ true)
      more z = (among_behind v (h i) (filter_map h is) z.0, z.1)

      by : (IsAmong v (filter_map (λ i. wanted p (h i)) is) → IsAmong v (filter_map h is) × (p v ≡ true)) → (o : Option ℕ) → wanted p (h i) ≡ o → IsAmong v (cons_option o (filter_map (λ i. wanted p (h i)) is)) → IsAmong v (filter_map h (i ∷ is)) × (p v ≡ true)
      by rest None e a = more (rest a)
      by rest (Some k) e (inl same) =
          let z = wanted_is p (h i) v (e ∙ ap Some (sym same)) in
          (subst (λ o. IsAmong v (cons_option o (filter_map h is))) (sym z.0) (inl refl), z.1)
      by rest (Some k) e (inr a) = more (rest a)

  -- and what is among all, and is wanted, is among the wanted
  pub among_wanted : (is : List Instruction) → p v ≡ true → IsAmong v (filter_map h is) → IsAmong v (filter_map (λ i. wanted p (h i)) is)
  among_wanted [] t a = absurd a
  among_wanted (i ∷ is) t a = by (among_wanted is t) (h i) refl a
    where
      by : (IsAmong v (filter_map h is) → IsAmong v (filter_map (λ i. wanted p (h i)) is)) → (o : Option ℕ) → h i ≡ o → IsAmong v (cons_option o (filter_map h is)) → IsAmong v (filter_map (λ i. wanted p (h i)) (i ∷ is))
      by rest None e a = among_behind v (wanted p (h i)) _ (rest a)
      by rest (Some k) e (inl same) =
          let here : wanted p (h i) ≡ Some v = ap (wanted p) (e ∙ ap Some (sym same)) ∙ wanted_of p v t in
          subst (λ o. IsAmong v (cons_option o (filter_map (λ i. wanted p (h i)) is))) (sym here) (inl refl)
      by rest (Some k) e (inr a) = among_behind v (wanted p (h i)) _ (rest a)

-- ---- marking

-- so many marks aren't set
abbrev pub open_marks : List Bool → ℕ
open_marks marks = count_by not marks

-- after so many rounds: all that is marked is led to from a first mark, the first marks are set, and each round has set a mark
pub record IsMarking (f : Instruction → Option ℕ) (routines : List Routine) (begun : List Bool) (round : ℕ) (marks : List Bool) : Type 0 where
  pub count : length marks ≡ length routines
  pub sound : (k : ℕ) → slice_get marks k ≡ Some true → (j : ℕ) × (slice_get begun j ≡ Some true) × Leads (given_by f routines) j k
  pub still : (j : ℕ) → slice_get begun j ≡ Some true → slice_get marks j ≡ Some true
  pub left : round + open_marks marks ≤ length routines

-- a mark that is set: the one that was set last, or one that was set before
pub marked_after : (marks : List Bool) (place k : ℕ) → slice_get (set marks place true) k ≡ Some true → (k ≡ place) ⊎ (slice_get marks k ≡ Some true)
marked_after marks place k e = elim (cases_eq k place) [
  | inl same ↦ inl same
  | inr ne ↦
      let lt : k < length marks = subst (λ n. k < n) (length-set marks place true) (slice_get_within (set marks place true) k true e) in
      inr (marked_at marks k (length marks) refl lt (sym (get_or-set_other marks place k true false ne) ∙ marked_is (set marks place true) k e))
]

-- a mark stays set
pub marked_still : (marks : List Bool) (place k : ℕ) → slice_get marks k ≡ Some true → slice_get (set marks place true) k ≡ Some true
marked_still marks place k e =
    let lt = slice_get_within marks k true e in
    marked_at (set marks place true) k (length marks) (length-set marks place true) lt (elim (cases_eq k place) [
      | inl same ↦ subst (λ j. get_or (set marks j true) k false ≡ true) same (get_or-set_same marks k true false lt)
      | inr ne ↦ get_or-set_other marks place k true false ne ∙ marked_is marks k e
    ])

pub marked_new : (marks : List Bool) (place n : ℕ) → length marks ≡ n → place < n → slice_get (set marks place true) place ≡ Some true
marked_new marks place n e lt = marked_at (set marks place true) place n (length-set marks place true ∙ e) lt (get_or-set_same marks place true false (subst (λ m. place < m) (sym e) lt))

pub none_marked : (n k : ℕ) → slice_get (replicate n false) k ≡ Some true → ⊥
none_marked n k e = both_ways _ (get_or-replicate n k false false (marked_within (replicate n false) k n (length-replicate n false) e)) (marked_is (replicate n false) k e)

pub marking_begins : (f : Instruction → Option ℕ) (routines : List Routine) (begun : List Bool) → length begun ≡ length routines → IsMarking f routines begun 0 begun
marking_begins f routines begun count = record {
  count = count;
  sound = λ k h. (k, h, at_once);
  still = λ j h. h;
  left = omega (arith, count_by-le-length not begun, count);
}

-- an unmarked routine to which a link of a marked one leads
module _ (l : Link) (routines : List Routine) (begun marks : List Bool) (place : ℕ) (found : IsFound routines marks (sought.Unmarked l) place) where
  found_linked : IsAmong place (given_by (linked l) routines found.0) × (not (get_or marks place true) ≡ true)
  found_linked = wanted_among (λ k. not (get_or marks k true)) (linked l) place (instructions_in (slice_get routines found.0)) found.2

  pub found_within : place < length marks
  found_within = elim (cases_lt place (length marks)) [
    | inl lt ↦ lt
    | inr le ↦ absurd (both_ways _ (not-true _ found_linked.1) (get_or_past marks place true le))
  ]

  pub marking_goes : (round : ℕ) → IsMarking (linked l) routines begun round marks → IsMarking (linked l) routines begun (round + 1) (set marks place true)
  marking_goes round m =
      let was : get_or marks place false ≡ false = get_or_default marks place false true found_within ∙ not-true _ found_linked.1 in
      let counted = sum_by-set (λ b. if not b then 1 else 0) marks place true false found_within in
      let fewer : open_marks (set marks place true) + 1 ≡ open_marks marks + 0 = ap (λ b. open_marks (set marks place true) + (if not b then 1 else 0)) (sym was) ∙ counted in
      let before = m.left in
      record {
        count = length-set marks place true ∙ m.count;
        sound = λ k h. elim (marked_after marks place k h) [
          | inl same ↦ let z = m.sound found.0 found.1 in (z.0, z.1, subst (Leads (given_by (linked l) routines) z.0) (sym same) (further z.2 found_linked.0))
          | inr old ↦ m.sound k old
        ];
        still = λ j h. marked_still marks place j (m.still j h);
        left = omega (arith, fewer, before);
      }

module _ (l : Link) (routines : List Routine) (begun marks : List Bool) (round : ℕ) (m : IsMarking (linked l) routines begun round marks) where
  all_led : ((j k : ℕ) → slice_get begun j ≡ Some true → Leads (given_by (linked l) routines) j k → k < length routines → get_or marks k false ≡ true) → AreLed (linked l) routines begun marks
  all_led all = record {
    count = m.count;
    each = λ k. ((λ h. let z = m.sound k h in (z.0, marked_within marks k (length routines) m.count h, z.1, z.2)), (λ z. marked_at marks k (length routines) m.count z.1 (all z.0 k z.2 z.3 z.1)));
  }

  -- where no routine is left that isn't marked and to which a link of a marked one leads, such a routine is marked
  linked_marked : IsNowhere routines marks (sought.Unmarked l) → (j k : ℕ) → slice_get marks j ≡ Some true → IsAmong k (given_by (linked l) routines j) → k < length routines → (b : Bool) → get_or marks k false ≡ b → b ≡ true
  linked_marked nowhere j k there a lt true e = refl
  linked_marked nowhere j k there a lt false e =
      let unset : not (get_or marks k true) ≡ true = ap not (get_or_default marks k true false (subst (λ n. k < n) (sym m.count) lt) ∙ e) in
      let found = among_wanted (λ k. not (get_or marks k true)) (linked l) k (instructions_in (slice_get routines j)) unset a in
      absurd (subst (λ l. IsAmong k l) (nowhere j there) found)

  led_on : IsNowhere routines marks (sought.Unmarked l) → (i k : ℕ) → slice_get begun i ≡ Some true → Leads (given_by (linked l) routines) i k → k < length routines → get_or marks k false ≡ true
  led_on nowhere i k first at_once lt = marked_is marks k (m.still k first)
  led_on nowhere i k first (further {j = j} leads a) lt =
      let inside = given_within (linked l) routines j k a in
      linked_marked nowhere j k (marked_at marks j (length routines) m.count inside (led_on nowhere i j first leads inside)) a lt (get_or marks k false) refl

  -- so all that are led to are marked
  pub marking_closed : IsNowhere routines marks (sought.Unmarked l) → AreLed (linked l) routines begun marks
  marking_closed nowhere = all_led (λ j k first leads lt. led_on nowhere j k first leads lt)

  -- after as many rounds as there are routines, all are marked
  pub marking_full : length routines ≤ round → AreLed (linked l) routines begun marks
  marking_full le = all_led (λ j k first leads lt. by k lt (get_or marks k false) refl)
    where
      by : (k : ℕ) → k < length routines → (b : Bool) → get_or marks k false ≡ b → b ≡ true
      by k lt true e = refl
      by k lt false e =
          let counted = sum_by-set (λ b. if not b then 1 else 0) marks k true false (subst (λ n. k < n) (sym m.count) lt) in
          let fewer : open_marks (set marks k true) + 1 ≡ open_marks marks + 0 = ap (λ b. open_marks (set marks k true) + (if not b then 1 else 0)) (sym e) ∙ counted in
          let left = m.left in
          absurd (omega (arith, fewer, left, le))

-- where one is marked alone, one comes to what is led to from it
pub reached_alone : (f : Instruction → Option ℕ) (routines : List Routine) (from : ℕ) (marks : List Bool) → from < length routines → AreLed f routines (set (replicate (length routines) false) from true) marks → AreReached f routines from marks
reached_alone f routines from marks lt led = record {
  count = led.count;
  each = λ k. (
    (λ h. let z = (led.each k).0 h in (z.1, subst (λ j. Leads (given_by f routines) j k) (only z.0 z.2) z.3)),
    (λ z. (led.each k).1 (from, z.0, marked_new (replicate (length routines) false) from (length routines) (length-replicate (length routines) false) lt, z.1)),
  );
}
  where
    only : (j : ℕ) → slice_get (set (replicate (length routines) false) from true) j ≡ Some true → j ≡ from
    only j h = elim (marked_after (replicate (length routines) false) from j h) [ inl same ↦ same | inr was ↦ absurd (none_marked (length routines) j was) ]

-- ---- freezes

module _ (routines : List Routine) (marks : List Bool) where
  -- a marked routine freezes this variable
  abbrev pub Freeze : ℕ → Type 0
  Freeze v = (j : ℕ) × (slice_get marks j ≡ Some true) × IsAmong v (given_by instruction_freezes routines j)

  freeze_found : (but : Option ℕ) (v : ℕ) → IsFound routines marks (sought.Frozen but) v → Freeze v × (not (is_option but v) ≡ true)
  freeze_found but v f = let z = wanted_among (λ v. not (is_option but v)) instruction_freezes v (instructions_in (slice_get routines f.0)) f.2 in ((f.0, f.1, z.0), z.1)

  freeze_nowhere : (but : Option ℕ) (v : ℕ) → IsNowhere routines marks (sought.Frozen but) → Freeze v → not (is_option but v) ≡ true → ⊥
  freeze_nowhere but v nowhere f t = subst (λ l. IsAmong v l) (nowhere f.0 f.1) (among_wanted (λ v. not (is_option but v)) instruction_freezes v (instructions_in (slice_get routines f.0)) t f.2)

  -- none freezes
  pub freezes_none : IsNowhere routines marks (sought.Frozen None) → FreezeOne routines marks
  freezes_none nowhere j k v w hj hk a b = absurd (freeze_nowhere None v nowhere (j, hj, a) refl)

  -- all that freeze freeze this one
  pub freezes_this : (v : ℕ) → IsNowhere routines marks (sought.Frozen (Some v)) → FreezeOne routines marks
  freezes_this v nowhere j k x y hj hk a b = sym (same x (j, hj, a)) ∙ same y (k, hk, b)
    where
      same : (w : ℕ) → Freeze w → v ≡ w
      same w f = elim (cases_eq v w) [ inl e ↦ e | inr ne ↦ absurd (freeze_nowhere (Some v) w nowhere f (ap not (other ne))) ]
        where
          other : (v ≡ w → ⊥) → nat_eq v w ≡ false
          other ne = by (nat_eq v w) refl
            where
              by : (b : Bool) → nat_eq v w ≡ b → b ≡ false
              by false e = refl
              by true e = absurd (ne ((Decides-eqb v w).0 e))

  -- two are frozen
  pub freezes_two : (v w : ℕ) → IsFound routines marks (sought.Frozen None) v → IsFound routines marks (sought.Frozen (Some v)) w → FreezeOne routines marks → ⊥
  freezes_two v w f g one =
      let x = (freeze_found None v f).0 in
      let y = freeze_found (Some v) w g in
      both_ways _ (not-true _ y.1) ((Decides-eqb v w).1 (one x.0 y.0.0 v w x.1 y.0.1 x.2 y.0.2))

  -- whether a second one is looked for in vain says whether all freeze the first
  pub freezes_only : (v : ℕ) (second : Option ℕ) (b : Bool) → is_some second ≡ not b → IsFound routines marks (sought.Frozen None) v → IfSome second (λ w. IsFound routines marks (sought.Frozen (Some v)) w)
      → IfNone second (IsNowhere routines marks (sought.Frozen (Some v))) → (b ≡ true) ↔ FreezeOne routines marks
  freezes_only v None b e f some none = ((λ t. freezes_this v none), (λ one. not-false b (sym e)))
  freezes_only v (Some w) b e f some none = ((λ t. absurd (both_ways _ (not-true b (sym e)) t)), (λ one. absurd (freezes_two v w f some one)))

  pub freeze_is : (v : ℕ) → IsFound routines marks (sought.Frozen None) v → Freeze v
  freeze_is v f = (freeze_found None v f).0

  pub freeze_not : (v : ℕ) → IsNowhere routines marks (sought.Frozen None) → Freeze v → ⊥
  freeze_not v nowhere f = freeze_nowhere None v nowhere f refl

  -- ---- routines to which a link leads

  -- one to which this link of a marked routine leads
  abbrev pub LinkedTo : Link → ℕ → Type 0
  LinkedTo l k = (i : ℕ) × (slice_get marks i ≡ Some true) × IsAmong k (given_by (linked l) routines i)

  pub linked_is : (l : Link) (k place : ℕ) → IsFound routines marks (sought.Linked l place) k → LinkedTo l place
  linked_is l k place f =
      let z = wanted_among (nat_eq place) (linked l) k (instructions_in (slice_get routines f.0)) f.2 in
      let same : place ≡ k = (Decides-eqb place k).0 z.1 in
      (f.0, f.1, subst (λ n. IsAmong n (given_by (linked l) routines f.0)) (sym same) z.0)

  pub linked_not : (l : Link) (place : ℕ) → IsNowhere routines marks (sought.Linked l place) → LinkedTo l place → ⊥
  linked_not l place nowhere s =
      subst (λ l. IsAmong place l) (nowhere s.0 s.1) (among_wanted (nat_eq place) (linked l) place (instructions_in (slice_get routines s.0)) ((Decides-eqb place place).1 refl) s.2)

  -- past the last routine nothing is led to but itself, and nothing is frozen
  past_freezes : (j k v : ℕ) → length routines ≤ j → Leads (given_by instruction_names routines) j k → IsAmong v (given_by instruction_freezes routines k) → ⊥
  past_freezes j k v le l a = by k l (given_within instruction_freezes routines k v a)
    where
      stays : (k : ℕ) → Leads (given_by instruction_names routines) j k → k ≡ j
      stays k at_once = refl
      stays k (further {j = i} l b) = let same = stays i l in absurd (subst (λ l. IsAmong k l) (ap (given_by instruction_names routines) same ∙ given_past instruction_names routines j le) b)

      by : (k : ℕ) → Leads (given_by instruction_names routines) j k → k < length routines → ⊥
      by k l lt = let same = stays k l in let inside = subst (λ n. n < length routines) same lt in omega (arith, inside, le)

  -- no routine before this one freezes by another task
  abbrev pub NoneBefore : ℕ → Type 0
  NoneBefore place = (i j k v : ℕ) → j < place → slice_get marks i ≡ Some true → IsAmong j (given_by instruction_starts routines i)
      → Leads (given_by instruction_names routines) j k → IsAmong v (given_by instruction_freezes routines k) → ⊥

  pub none_more : (place : ℕ) → NoneBefore place → (LinkedTo link.Starts place → (k v : ℕ) → Leads (given_by instruction_names routines) place k → IsAmong v (given_by instruction_freezes routines k) → ⊥) → NoneBefore (place + 1)
  none_more place none here i j k v lt hi a l b = elim (below_or_at j place lt) [
    | inl same ↦ here (i, hi, subst (λ n. IsAmong n (given_by instruction_starts routines i)) same a) k v (subst (λ n. Leads (given_by instruction_names routines) n k) same l) b
    | inr less ↦ none i j k v less hi a l b
  ]

  pub none_at_all : (place : ℕ) → length routines ≤ place → NoneBefore place → OthersFreezeNone routines marks
  none_at_all place le none i j k v hi a l b = elim (cases_lt j (length routines)) [
    | inl lt ↦ none i j k v (omega (arith, lt, le)) hi a l b
    | inr past ↦ past_freezes j k v past l b
  ]

  -- what one comes to from a started routine
  module _ (place : ℕ) (others : List Bool) (reached : AreReached instruction_names routines place others) where
    freeze_led : (k v : ℕ) → Leads (given_by instruction_names routines) place k → IsAmong v (given_by instruction_freezes routines k) → slice_get others k ≡ Some true
    freeze_led k v l a = (reached.each k).1 (given_within instruction_freezes routines k v a, l)

    -- where it freezes, another task does
    pub other_freezes : (k v : ℕ) → IsFound routines marks (sought.Linked link.Starts place) k → IsFound routines others (sought.Frozen None) v → OthersFreezeNone routines marks → ⊥
    other_freezes k v s f none =
        let start = linked_is link.Starts k place s in
        let found = wanted_among (λ v. not (is_option None v)) instruction_freezes v (instructions_in (slice_get routines f.0)) f.2 in
        none start.0 place f.0 v start.1 start.2 ((reached.each f.0).0 f.1).1 found.0

    -- where it doesn't, none does so far
    pub no_other_here : NoneBefore place → IsNowhere routines others (sought.Frozen None) → NoneBefore (place + 1)
    no_other_here none nowhere = none_more place none (λ s k v l a.
        subst (λ l. IsAmong v l) (nowhere k (freeze_led k v l a)) (among_wanted (λ v. not (is_option None v)) instruction_freezes v (instructions_in (slice_get routines k)) refl a))

  -- a routine that isn't started
  pub not_started : (place : ℕ) → NoneBefore place → IsNowhere routines marks (sought.Linked link.Starts place) → NoneBefore (place + 1)
  not_started place none nowhere = none_more place none (λ s k v l a. linked_not link.Starts place nowhere s)

-- ---- what is looked for, by whether it is found

pub some_there : {X : Type 0} (o : Option X) (P : X → Type 0) → is_some o ≡ true → IfSome o P → (x : X) × P x
some_there None P e h = absurd (cc e)
some_there (Some x) P e h = (x, h)

pub none_there : {X : Type 0} (o : Option X) (P : Type 0) → is_some o ≡ false → IfNone o P → P
none_there None P e h = h
none_there (Some x) P e h = absurd (cc e)

-- ---- code

module _ (c : flat.Code) (marks : List Bool) (reached : AreReached instruction_names c.routines c.main marks) where
  abbrev o : Outline
  o = code_outline c

  marked : (k : ℕ) (f : Instruction → Option ℕ) (v : ℕ) → CanRun o k → IsAmong v (given_by f c.routines k) → slice_get marks k ≡ Some true
  marked k f v can a = (reached.each k).1 (given_within f c.routines k v a, can)

  one_of_code : FreezeOne c.routines marks ↔ FreezesOne o
  one_of_code = (
    (λ one j k v w cj ck a b. one j k v w (marked j instruction_freezes v cj a) (marked k instruction_freezes w ck b) a b),
    (λ one j k v w hj hk a b. one j k v w ((reached.each j).0 hj).1 ((reached.each k).0 hk).1 a b),
  )

  others_of_code : OthersFreezeNone c.routines marks ↔ MainFreezes o
  others_of_code = (
    (λ none k v other a. none other.0 other.1 k v (marked other.0 instruction_starts other.1 other.2 other.3) other.3 other.4 a),
    (λ alone i j k v hi a l b. alone k v (i, j, ((reached.each i).0 hi).1, a, l) b),
  )

  pub by_one : FreezeOne c.routines marks → HasOneOrder o
  by_one one = inl (one_of_code.0 one)

  pub by_others : (b : Bool) → (FreezeOne c.routines marks → ⊥) → (b ≡ true) ↔ OthersFreezeNone c.routines marks → (b ≡ true) ↔ HasOneOrder o
  by_others b not_one z = ((λ t. inr (others_of_code.0 (z.0 t))), (λ order. elim order [ inl one ↦ absurd (not_one (one_of_code.1 one)) | inr alone ↦ z.1 (others_of_code.1 alone) ]))
