-- Statements within sound ones are sound.
use Rattle.std.proofs.Common.{◌≡◌, Bool, true, List, ◌∷◌, ◌++◌, sym, ap, ◌∙◌}
use Rattle.std.specs.List.{list_all}
use Rattle.std.proofs.lemmas.Bool.{and_parts, and_from}
use Rattle.std.proofs.lemmas.List.Folds.{list_all-append}
use Rattle.std.proofs.lemmas.Grind.{flat_map-append}
use Rattle.lvish_syntax.specs.Words.{Word}
use Rattle.lvish_syntax.specs.Nested.{statements, nested, all_nested}
use Rattle.lvish_syntax.specs.Sound.{is_own_sound, are_sound}
use Rattle.lvish_task.specs.Vocabulary.{Declaration, Procedure, Block, Statement, out-Statement}
use Rattle.lvish_syntax.specs.declared.statement.Statement.TheOpen as o
use Rattle.lvish_code.specs.Follows.{taken, passed}
use Rattle.lvish_code.specs.laws.Trees.{deeper, nested_out}

module _ (ds : List Declaration) (ps : List Procedure) (locals : List Word) where
  abbrev own : Statement → Bool
  own s = is_own_sound ds ps locals (out-Statement s)

  abbrev AreSound : List Statement → Type 0
  AreSound ss = are_sound ds ps locals ss ≡ true

  abbrev DeeperSound : o.Statement-F Statement Block → Type 0
  DeeperSound u = list_all own (deeper u) ≡ true

  -- the first statement itself, those within its blocks, and those behind it
  parts : (s : Statement) (ks : List Statement) → AreSound (s ∷ ks) → (own s ≡ true) × DeeperSound (out-Statement s) × AreSound ks
  parts s ks e =
      let h = and_parts (list_all own (nested s)) (list_all own (all_nested ks)) (sym (list_all-append own (nested s) (all_nested ks)) ∙ e) in
      let k = and_parts (own s) (list_all own (deeper (out-Statement s))) (sym (ap (list_all own) (nested_out s)) ∙ h.0) in
      (k.0, k.1, h.1)

  pub first_sound : (s : Statement) (ks : List Statement) → AreSound (s ∷ ks) → is_own_sound ds ps locals (out-Statement s) ≡ true
  first_sound s ks e = (parts s ks e).0

  pub rest_sound : (s : Statement) (ks : List Statement) → AreSound (s ∷ ks) → AreSound ks
  rest_sound s ks e = (parts s ks e).2

  both_sound : (a b : List Statement) → AreSound a → AreSound b → AreSound (a ++ b)
  both_sound a b e h = ap (list_all own) (flat_map-append nested a b) ∙ list_all-append own (all_nested a) (all_nested b) ∙ and_from _ _ e h

  blocks_sound : (a b : Block) → list_all own (all_nested (statements a) ++ all_nested (statements b)) ≡ true → AreSound (statements a) × AreSound (statements b)
  blocks_sound a b e = and_parts _ _ (sym (list_all-append own (all_nested (statements a)) (all_nested (statements b))) ∙ e)

  taken_by : (s : Statement) (u : o.Statement-F Statement Block) (ks : List Statement) → DeeperSound u → AreSound (s ∷ ks) → AreSound ks → AreSound (taken s u ks)
  taken_by s (o.Do c) ks i e h = h
  taken_by s (o.If t a) ks i e h = both_sound (statements a) ks i h
  taken_by s (o.IfElse t a b) ks i e h = both_sound (statements a) ks (blocks_sound a b i).0 h
  taken_by s (o.While t a) ks i e h = both_sound (statements a) (s ∷ ks) i e

  passed_by : (u : o.Statement-F Statement Block) (ks : List Statement) → DeeperSound u → AreSound ks → AreSound (passed u ks)
  passed_by (o.IfElse t a b) ks i h = both_sound (statements b) ks (blocks_sound a b i).1 h
  passed_by u ks i h = h

  -- what a test chooses is sound
  pub taken_sound : (s : Statement) (ks : List Statement) → AreSound (s ∷ ks) → AreSound (taken s (out-Statement s) ks)
  taken_sound s ks e = let h = parts s ks e in taken_by s (out-Statement s) ks h.1 e h.2

  pub passed_sound : (s : Statement) (ks : List Statement) → AreSound (s ∷ ks) → AreSound (passed (out-Statement s) ks)
  passed_sound s ks e = let h = parts s ks e in passed_by (out-Statement s) ks h.1 h.2
