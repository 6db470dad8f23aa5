-- A word is found among others where it is found among those of its length.
use Rattle.std.proofs.Common.{◌≡◌, ◌∙◌, ℕ, Bool, true, List, length, sym, ap}
use Rattle.std.specs.Prelude.{filter}
use Rattle.std.specs.List.{list_any}
use Rattle.std.specs.Str.{bytes_eq}
use Rattle.std.proofs.lemmas.Map.Views.{any-filter_same}
use Rattle.std.proofs.lemmas.Slice.Eq.{bytes_eq-Decides}
use Rattle.lvish_syntax.specs.Words.{Word}

pub by_length : (words : List Word) (test : ℕ → Bool) (w : Word) → test (length w) ≡ true → list_any (bytes_eq w) (filter (λ r. test (length r)) words) ≡ list_any (bytes_eq w) words
by_length words test w e = any-filter_same (bytes_eq w) (λ r. test (length r)) true (λ r same. ap (λ x. test (length x)) (sym ((bytes_eq-Decides w r).0 same)) ∙ e) words
