-- What a vector has after its slice was changed.
use Rattle.std.proofs.Common.{◌≡◌, ℕ, Bool, List, ◌++◌, take, drop, length, slice_set, Option, Some, None, Result, Ok, Err, ap, subst, ◌∙◌, length-set}
use Rattle.lvish_names.specs.Names.{Name, Handler}
use Rattle.lvish_variable.specs.Variable.{VariableView as Variable}
use Rattle.lvish_core.specs.Vocabulary.{Held, HandlerPlace}
use Rattle.lvish_handlers.specs.Handlers.{HandlersView as Handlers}
use Rattle.lvish_core.specs.Beside.{PutAt, FrozenAt, AddedAt, HandedAt, CountsAt}
use Rattle.lvish_core.proofs.Gets.{rewritten}

set_length : {X : Type 0} (xs : List X) (v : ℕ) (x : X) (ys : List X) → ys ≡ slice_set xs v x → length ys ≡ length xs
set_length xs v x ys e = ap length e ∙ length-set xs v x

-- from a slice to its vector, for what is known of the slice before and after a change that keeps its length
pub written : {X : Type 0} (P : List X → List X → Type 0) (slice old new : List X) (n : ℕ) → slice ≡ old → n ≡ length old → length new ≡ length slice → P slice new → P old (take n (new ++ drop (length new) old))
written P slice old new n is len same h = subst (λ l. P old l) (rewritten old new n len (same ∙ ap length is)) (subst (λ l. P l new) is h)

pub put_written : {S E : Type 0} {join : S → S → Option S} {eq : E → E → Bool} {events : S → List E} {task : Name E} {number : ℕ} {put : S} {v : ℕ} {slice old new : List (Variable S E)} {n : ℕ} → slice ≡ old → n ≡ length old
    → PutAt join eq events task number put v slice new → PutAt join eq events task number put v old (take n (new ++ drop (length new) old))
put_written {join = join} {eq = eq} {events = events} {task = task} {number = number} {put = put} {v = v} {slice = slice} {new = new} is len w = written (PutAt join eq events task number put v) slice _ new _ is len (set_length slice v w.to new w.is) w

pub frozen_written : {S E : Type 0} {v : ℕ} {slice old new : List (Variable S E)} {n : ℕ} → slice ≡ old → n ≡ length old → FrozenAt v slice new → FrozenAt v old (take n (new ++ drop (length new) old))
frozen_written {v = v} {slice = slice} {new = new} is len w = written (FrozenAt v) slice _ new _ is len (set_length slice v _ new w.is) w

counts_length : {E : Type 0} (change : ℕ → Handlers E → Handlers E) (o : Option HandlerPlace) (old new : List (Handlers E)) → CountsAt change old o new → length new ≡ length old
counts_length change None old new w = ap length w
counts_length change (Some p) old new w = set_length old p.variable _ new w.2

pub counts_written : {E : Type 0} (change : ℕ → Handlers E → Handlers E) (o : Option HandlerPlace) (slice old new : List (Handlers E)) {n : ℕ} → slice ≡ old → n ≡ length old
    → CountsAt change slice o new → CountsAt change old o (take n (new ++ drop (length new) old))
counts_written change o slice old new is len w = written (λ a b. CountsAt change a o b) slice old new _ is len (counts_length change o slice new w) w

pub handed_written : {S E : Type 0} {eq : E → E → Bool} {variables xs : List (Variable S E)} {name : Handler E} {p : HandlerPlace} {slice old new : List (Handlers E)} {n : ℕ} → variables ≡ xs → slice ≡ old → n ≡ length old
    → HandedAt eq variables name p slice new → HandedAt eq xs name p old (take n (new ++ drop (length new) old))
handed_written {eq = eq} {xs = xs} {name = name} {p = p} {slice = slice} {new = new} all is len w = written (λ a b. HandedAt eq xs name p a b) slice _ new _ is len (set_length slice p.variable _ new w.is) (subst (λ l. HandedAt eq l name p slice new) all w)

pub added_written : {E : Type 0} {handler : Held E} {v : ℕ} {slice old new : List (Handlers E)} {n : ℕ} → slice ≡ old → n ≡ length old → AddedAt handler v slice new → AddedAt handler v old (take n (new ++ drop (length new) old))
added_written {handler = handler} {v = v} {slice = slice} {new = new} is len w = written (AddedAt handler v) slice _ new _ is len (set_length slice v w.to new w.is) w

-- what is there is no error
pub ok_is_no_error : {T F : Type 0} {r : Result T F} {t : T} {f : F} → r ≡ Ok t → r ≡ Err f → ⊥
ok_is_no_error p q = cc
