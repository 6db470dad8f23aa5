-- Tables, as lists of entries with borrowed texts.
use Rattle.std.proofs.Common.{◌≡◌, ℕ, Bool, true, false, List, [], ◌∷◌, ◌++◌, map, Option, Some, None, refl, ap, subst, ◌∙◌, Bor, is_some, sym}
use Rattle.std.specs.Prelude.{if◌then◌else◌}
use Rattle.std.specs.Option.{option_or}
use Rattle.std.specs.Map.{lookup}
use Rattle.std.specs.Str.{bytes_eq}
use Rattle.std.proofs.lemmas.List.{map-append}
use Rattle.std.proofs.lemmas.Slice.Eq.{bytes_eq-Decides}
use Rattle.lvish_syntax.specs.Words.{Word}
use Rattle.lvish_checks.specs.Table.{value_at}
use Rattle.lvish_checks.proofs.Seen.{bytes_eq_flip}
use Rattle.lvish_checks.proofs.Scans.{or_later, or_nothing}

-- the entries as a contract sees them
abbrev pub entries_of : {V : Type 0} → List (Bor (List ℕ) × V) → List (Word × V)
entries_of es = map (λ e. (e.0.now, e.1)) es

-- a look-up in the table finds the value
pub value_found : {V : Type 0} (q : Word) (es : List (Bor (List ℕ) × V)) → lookup (λ k. bytes_eq q k.now) es ≡ value_at q (entries_of es)
value_found q [] = refl
value_found q (e ∷ es) = rw (bytes_eq_flip q e.0.now, value_found q es) refl

-- an entry at the end counts where there was none
value_pushed : {V : Type 0} (q n : Word) (v : V) (xs : List (Word × V)) → value_at q (xs ++ (n, v) ∷ []) ≡ option_or (value_at q xs) (if bytes_eq n q then Some v else None)
value_pushed q n v [] = refl
value_pushed q n v (x ∷ xs) = or_later (bytes_eq x.0 q) x.1 _ _ _ (value_pushed q n v xs)

pub value_added : {V : Type 0} (q : Word) (x : Bor (List ℕ)) (v : V) (es : List (Bor (List ℕ) × V)) → value_at q (entries_of (es ++ (x, v) ∷ [])) ≡ option_or (value_at q (entries_of es)) (if bytes_eq x.now q then Some v else None)
value_added {V} q x v es = ap (value_at q) (map-append (λ (e : Bor (List ℕ) × V). (e.0.now, e.1)) es ((x, v) ∷ [])) ∙ value_pushed q x.now v (entries_of es)

or_some : {V : Type 0} (o p : Option V) → is_some o ≡ true → o ≡ option_or o p
or_some None p e = absurd cc
or_some (Some v) p e = refl

kept_for : {V : Type 0} (n q : Word) (v : V) (es : List (Word × V)) (t : Bool) → bytes_eq n q ≡ t → is_some (value_at n es) ≡ true → value_at q es ≡ option_or (value_at q es) (if bytes_eq n q then Some v else None)
kept_for n q v es true e h = or_some (value_at q es) _ (subst (λ m. is_some (value_at m es) ≡ true) ((bytes_eq-Decides n q).0 e) h)
kept_for n q v es false e h = rw e (sym (or_nothing (value_at q es)))

-- a name that is there keeps its value
pub value_kept : {V : Type 0} (n q : Word) (v : V) (es : List (Word × V)) → is_some (value_at n es) ≡ true → value_at q es ≡ option_or (value_at q es) (if bytes_eq n q then Some v else None)
value_kept n q v es h = kept_for n q v es _ refl h

pub absent : {X : Type 0} (o : Option X) → is_some o ≡ false → o ≡ None
absent None e = refl
absent (Some x) e = absurd cc
