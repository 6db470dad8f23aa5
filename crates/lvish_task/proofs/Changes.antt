-- Numbers after changes, place by place.
use Rattle.std.proofs.Common.{◌≡◌, ◌≢◌, ℕ, ℤ, pos, zero, suc, ◌+◌, ◌<◌, List, [], ◌∷◌, ◌++◌, length, take, drop, get_or, nat_eq, Bool, true, false, if◌then◌else◌, refl, sym, ap, ◌∙◌, subst, arith}
use Rattle.std.specs.List.{slice_index_or, slice_set}
use Rattle.std.proofs.lemmas.List.{get_or-set_same, get_or-set_other, length-set, set-set, take_more, drop_more}
use native.Mathlib.Numerals.{unary_clauses}
use borrow.Author.Tests.{eqb-true, eqb-false}
use Rattle.lvish_task.specs.declared.shared_numbers.Change.{Change}
use Rattle.lvish_task.specs.Changes.{changed}

-- the last change of two counts
abbrev pub made : List ℤ → Change → List ℤ
made numbers c = slice_set numbers c.local c.value

pub length_changed : (numbers : List ℤ) (cs : List Change) → length (changed numbers cs) ≡ length numbers
length_changed numbers [] = refl
length_changed numbers (c ∷ cs) = length_changed (made numbers c) cs ∙ length-set numbers c.local c.value

-- one more change is made after the others
pub changed_more : (numbers : List ℤ) (cs : List Change) (c : Change) → changed numbers (cs ++ c ∷ []) ≡ made (changed numbers cs) c
changed_more numbers [] c = refl
changed_more numbers (d ∷ cs) c = changed_more (made numbers d) cs c

pub changed_next : (numbers : List ℤ) (cs : List Change) (k : ℕ) (d : Change) → k < length cs → changed numbers (take (k + 1) cs) ≡ made (changed numbers (take k cs)) (get_or cs k d)
changed_next numbers cs k d h = ap (changed numbers) (take_more cs k d h) ∙ changed_more numbers (take k cs) (get_or cs k d)

-- what a change does to one local
pub made_here : (numbers : List ℤ) (c : Change) (local : ℕ) → c.local ≡ local → local < length numbers → slice_index_or (made numbers c) local (pos 0) ≡ c.value
made_here numbers c local is within =
    ap (λ l. slice_index_or (slice_set numbers l c.value) local (pos 0)) is ∙ get_or-set_same numbers local c.value (pos 0) within

pub made_elsewhere : (numbers : List ℤ) (c : Change) (local : ℕ) → c.local ≢ local → slice_index_or (made numbers c) local (pos 0) ≡ slice_index_or numbers local (pos 0)
made_elsewhere numbers c local other = get_or-set_other numbers c.local local c.value (pos 0) (λ e. other (sym e))

-- changes of two locals can be made in either order
set_apart : (xs : List ℤ) (i j : ℕ) (a b : ℤ) → i ≢ j → slice_set (slice_set xs i a) j b ≡ slice_set (slice_set xs j b) i a
set_apart [] i j a b h = refl
set_apart (x ∷ xs) zero zero a b h = absurd (h refl)
set_apart (x ∷ xs) zero (suc j) a b h = refl
set_apart (x ∷ xs) (suc i) zero a b h = refl
set_apart (x ∷ xs) (suc i) (suc j) a b h = ap (λ ys. x ∷ ys) (set_apart xs i j a b (λ e. h (ap suc e)))

-- none of the changes is of this local
abbrev pub LeaveAlone : ℕ → List Change → Type 0
LeaveAlone local [] = Unit {0}
LeaveAlone local (c ∷ cs) = (c.local ≢ local) × LeaveAlone local cs

pub alone_more : (local : ℕ) (cs : List Change) (k : ℕ) (d : Change) → k < length cs → (get_or cs k d).local ≢ local → LeaveAlone local (drop (k + 1) cs) → LeaveAlone local (drop k cs)
alone_more local cs k d h other alone = subst (LeaveAlone local) (sym (drop_more cs k d h)) (other, alone)

changed_apart : (numbers : List ℤ) (cs : List Change) (local : ℕ) (v : ℤ) → LeaveAlone local cs → changed (slice_set numbers local v) cs ≡ slice_set (changed numbers cs) local v
changed_apart numbers [] local v h = refl
changed_apart numbers (c ∷ cs) local v h =
    ap (λ xs. changed xs cs) (set_apart numbers local c.local v c.value (λ e. h.0 (sym e)))
    ∙ changed_apart (made numbers c) cs local v h.1

-- the last change of a local can be another one in its place
pub changed_again : (numbers : List ℤ) (cs : List Change) (k : ℕ) (d e : Change) → k < length cs → (get_or cs k d).local ≡ e.local → LeaveAlone e.local (drop (k + 1) cs) → changed numbers (slice_set cs k e) ≡ made (changed numbers cs) e
changed_again numbers [] k d e h here alone = absurd (omega (arith, h))
changed_again numbers (c ∷ cs) zero d e h here alone =
    changed_apart numbers cs e.local e.value alone
    ∙ sym (
    ap (λ l. slice_set (changed (slice_set numbers l c.value) cs) e.local e.value) here
    ∙ ap (λ xs. slice_set xs e.local e.value) (changed_apart numbers cs e.local c.value alone)
    ∙ set-set (changed numbers cs) e.local c.value e.value)
changed_again numbers (c ∷ cs) (suc k) d e h here alone = changed_again (made numbers c) cs k d e (omega (arith, h)) here (simp unary_clauses (simp unary_clauses at alone))

-- the value of a local after one more change
pub later_value : (numbers : List ℤ) (c : Change) (local : ℕ) → local < length numbers → slice_index_or (made numbers c) local (pos 0) ≡ (if nat_eq c.local local then c.value else slice_index_or numbers local (pos 0))
later_value numbers c local within = by (nat_eq c.local local) refl
  where
    by : (b : Bool) → nat_eq c.local local ≡ b → slice_index_or (made numbers c) local (pos 0) ≡ (if b then c.value else slice_index_or numbers local (pos 0))
    by true is = made_here numbers c local (eqb-true c.local local is) within
    by false is = made_elsewhere numbers c local (eqb-false c.local local is)

-- one more change, where there is room for it
pub added : (numbers : List ℤ) (before after : List Change) (c : Change) (b : Bool) → after ≡ (if b then before ++ c ∷ [] else before) → changed numbers after ≡ (if b then made (changed numbers before) c else changed numbers before)
added numbers before after c true e = ap (changed numbers) e ∙ changed_more numbers before c
added numbers before after c false e = ap (changed numbers) e
