-- What is done is told, since what statements name is declared.
use Rattle.std.proofs.Common.{◌≡◌, ℕ, Bool, true, false, ◌&&◌, ◌||◌, List, [], ◌∷◌, ◌++◌, Option, Some, None, refl, sym, ap, subst, ◌∙◌, append_assoc}
use Rattle.std.specs.Prelude.{is_some, filter, if◌then◌else◌}
use Rattle.std.specs.Option.{option_map_or}
use Rattle.std.specs.List.{flat_map, list_any, list_all}
use Rattle.std.specs.Str.{bytes_eq}
use Rattle.std.proofs.lemmas.Slice.Eq.{bytes_eq-Decides}
use Rattle.std.proofs.lemmas.Bool.{and_parts, and_from}
use Rattle.std.proofs.lemmas.List.Folds.{list_all-append}
use Rattle.lvish_syntax.specs.Words.{Word}
use Rattle.lvish_syntax.specs.Name.{has_name}
use Rattle.lvish_syntax.specs.Nested.{statements, all_nested}
use Rattle.lvish_syntax.specs.Sound.{variable_names, pool_names, procedure_names, kind_of, variable_of, locals_of, takes, kind_at, is_read_of, is_pool_of, is_command_sound, is_own_sound, is_procedure_sound}
use Rattle.lvish_syntax.specs.declared.kind.VariableKind.{VariableKind}
use Rattle.lvish_syntax.specs.declared.term.Term.{Term}
use Rattle.lvish_syntax.specs.declared.threshold.Threshold.{Threshold}
use Rattle.lvish_syntax.specs.declared.declaration.Declaration.{Declaration}
use Rattle.lvish_syntax.specs.declared.declaration.Declaration.TheVariants.{Variable, Pool}
use Rattle.lvish_syntax.specs.declared.command.Command.{Command}
use Rattle.lvish_syntax.specs.declared.command.Command.TheVariants.{Let, Put, PutAt, Get, GetAt, Fork, Call, Handle, Freeze, FreezeEach}
use Rattle.lvish_syntax.specs.declared.statement.Statement.{Statement}
use Rattle.lvish_syntax.specs.declared.statement.Block.{Block}
use Rattle.lvish_syntax.specs.declared.statement.Statement.TheOpen as o
use Rattle.lvish_syntax.specs.declared.statement.Statement.TheViews.{out-Statement}
use Rattle.lvish_syntax.specs.declared.procedure.Procedure.{Procedure}
use Rattle.lvish_syntax.specs.declared.script.Script.{Script}
use Rattle.lvish_graph.specs.declared.verb.Verb.{Verb}
use Rattle.lvish_graph.specs.declared.verb.Verb.TheVariants.{Puts, Reads, Freezes, Awaits, Forks, Calls}
use Rattle.lvish_graph.specs.declared.deed.Deed.{Deed}
use Rattle.lvish_graph.specs.declared.deed.Deed.TheVariants.{Does, Handles}
use Rattle.lvish_graph.specs.Deeds.{awaited, command_deeds, own_deeds, deeds_of, is_same, does, handles, names_for, targets, handlers}
use Rattle.lvish_graph.specs.Told.{is_told}

-- ---- names that pass a test

-- a name that passes stays
kept : (f : Word → Bool) (n : Word) (ns : List Word) → has_name n ns ≡ true → f n ≡ true → has_name n (filter f ns) ≡ true
kept f n [] e h = absurd cc
kept f n (m ∷ ns) e h = by (bytes_eq m n) refl (f m) refl e (kept f n ns)
  where
    by : (same : Bool) → bytes_eq m n ≡ same → (passes : Bool) → f m ≡ passes → (same || has_name n ns) ≡ true → (has_name n ns ≡ true → f n ≡ true → has_name n (filter f ns) ≡ true) → has_name n (if passes then m ∷ filter f ns else filter f ns) ≡ true
    by true s true p d more = ap (λ t. t || has_name n (filter f ns)) s
    by true s false p d more = let no : false ≡ true = sym p ∙ ap f ((bytes_eq-Decides m n).0 s) ∙ h in absurd cc
    by false s true p d more = ap (λ t. t || has_name n (filter f ns)) s ∙ more d h
    by false s false p d more = more d h

-- a name that stays passes
passed : (f : Word → Bool) (n : Word) (ns : List Word) → has_name n (filter f ns) ≡ true → f n ≡ true
passed f n [] e = absurd cc
passed f n (m ∷ ns) e = by (f m) refl (bytes_eq m n) refl e (passed f n ns)
  where
    by : (passes : Bool) → f m ≡ passes → (same : Bool) → bytes_eq m n ≡ same → has_name n (if passes then m ∷ filter f ns else filter f ns) ≡ true → (has_name n (filter f ns) ≡ true → f n ≡ true) → f n ≡ true
    by true p true s d more = sym (ap f ((bytes_eq-Decides m n).0 s)) ∙ p
    by true p false s d more = more (sym (ap (λ t. t || has_name n (filter f ns)) s) ∙ d)
    by false p same s d more = more d

-- ---- deeds among themselves

-- whether one of the deeds is the same as this one
abbrev again : List Deed → Deed → Bool
again ds (Does v n) = list_any (does v n) ds
again ds (Handles p n) = list_any (handles p n) ds

same_verb : (v : Verb) → is_same v v ≡ true
same_verb Puts = refl
same_verb Reads = refl
same_verb Freezes = refl
same_verb Awaits = refl
same_verb Forks = refl
same_verb Calls = refl

same_name : (n : Word) → bytes_eq n n ≡ true
same_name n = (bytes_eq-Decides n n).1 refl

or_later : (b : Bool) → (b || true) ≡ true
or_later true = refl
or_later false = refl

any_of : (f : Deed → Bool) (before after : List Deed) (d : Deed) → f d ≡ true → list_any f (before ++ d ∷ after) ≡ true
any_of f [] after d e = ap (λ t. t || list_any f after) e
any_of f (b ∷ before) after d e = ap (λ t. f b || t) (any_of f before after d e) ∙ or_later (f b)

itself : (d : Deed) (before after : List Deed) → again (before ++ d ∷ after) d ≡ true
itself (Does v n) before after = any_of (does v n) before after (Does v n) (and_from (is_same v v) (bytes_eq n n) (same_verb v) (same_name n))
itself (Handles p n) before after = any_of (handles p n) before after (Handles p n) (and_from (bytes_eq p p) (bytes_eq n n) (same_name p) (same_name n))

all_again : (before ds : List Deed) → list_all (again (before ++ ds)) ds ≡ true
all_again before [] = refl
all_again before (d ∷ ds) = and_from _ _ (itself d before ds) (subst (λ l. list_all (again l) ds ≡ true) (append_assoc before (d ∷ []) ds) (all_again (before ++ d ∷ []) ds))

-- ---- what statements name is declared

variable_known : (v : Word) (ds : List Declaration) → is_some (kind_of v ds) ≡ true → has_name v (variable_names ds) ≡ true
variable_known v [] e = absurd cc
variable_known v (Variable n k ∷ ds) e = by (bytes_eq n v) e (variable_known v ds)
  where
    by : (b : Bool) → is_some (if b then Some k else kind_of v ds) ≡ true → (is_some (kind_of v ds) ≡ true → has_name v (variable_names ds) ≡ true) → (b || has_name v (variable_names ds)) ≡ true
    by true d more = refl
    by false d more = more d
variable_known v (Pool p w ∷ ds) e = variable_known v ds e

pool_known : (f : Word → Bool) (p : Word) (ds : List Declaration) → option_map_or f (variable_of p ds) false ≡ true → has_name p (pool_names ds) ≡ true
pool_known f p [] e = absurd cc
pool_known f p (Variable n k ∷ ds) e = pool_known f p ds e
pool_known f p (Pool q w ∷ ds) e = by (bytes_eq q p) e (pool_known f p ds)
  where
    by : (b : Bool) → option_map_or f (if b then Some w else variable_of p ds) false ≡ true → (option_map_or f (variable_of p ds) false ≡ true → has_name p (pool_names ds) ≡ true) → (b || has_name p (pool_names ds)) ≡ true
    by true d more = refl
    by false d more = more d

procedure_known : (n : Word) (k : ℕ) (ps : List Procedure) → list_any (takes n k) ps ≡ true → has_name n (procedure_names ps) ≡ true
procedure_known n k [] e = absurd cc
procedure_known n k (p ∷ ps) e = by (bytes_eq p.name n) _ (list_any (takes n k) ps) e (procedure_known n k ps)
  where
    by : (a b c : Bool) → ((a && b) || c) ≡ true → (c ≡ true → has_name n (procedure_names ps) ≡ true) → (a || has_name n (procedure_names ps)) ≡ true
    by true b c d h = refl
    by false b c d h = h d

put_kind : (o : Option VariableKind) (at : Option Term) → is_some (option_map_or (λ k. kind_at k at) o None) ≡ true → is_some o ≡ true
put_kind None at e = absurd cc
put_kind (Some k) at e = refl

get_kind : (o : Option VariableKind) (at : Option Term) (r : Threshold) → option_map_or (λ k. is_read_of k at r) o false ≡ true → is_some o ≡ true
get_kind None at r e = absurd cc
get_kind (Some k) at r e = refl

module _ (s : Script) where
  -- whether a deed is done to one that the script declares
  abbrev is_declared : Deed → Bool
  is_declared (Does v n) = has_name n (names_for s v)
  is_declared (Handles p n) = has_name p (pool_names s.declarations) && has_name n (procedure_names s.procedures)

  one : (d : Deed) → is_declared d ≡ true → list_all is_declared (d ∷ []) ≡ true
  one d e = and_from _ _ e refl

  awaited_known : (v : Word) (ps : List Word) → list_all (is_pool_of s.declarations v) ps ≡ true → list_all is_declared (awaited ps) ≡ true
  awaited_known v [] e = refl
  awaited_known v (p ∷ ps) e = let h = and_parts _ _ e in and_from _ _ (pool_known (λ w. bytes_eq w v) p s.declarations h.0) (awaited_known v ps h.1)

  put_known : (v : Word) (at : Option Term) → is_some (option_map_or (λ k. kind_at k at) (kind_of v s.declarations) None) ≡ true → has_name v (variable_names s.declarations) ≡ true
  put_known v at e = variable_known v s.declarations (put_kind (kind_of v s.declarations) at e)

  get_known : (v : Word) (at : Option Term) (r : Threshold) → option_map_or (λ k. is_read_of k at r) (kind_of v s.declarations) false ≡ true → has_name v (variable_names s.declarations) ≡ true
  get_known v at r e = variable_known v s.declarations (get_kind (kind_of v s.declarations) at r e)

  command_known : (locals : List Word) (c : Command) → is_command_sound s.declarations s.procedures locals c ≡ true → list_all is_declared (command_deeds c) ≡ true
  command_known locals (Let x a) e = refl
  command_known locals (Put v a) e = one (Does Puts v) (put_known v None (and_parts _ _ e).0)
  command_known locals (PutAt v k a) e = one (Does Puts v) (put_known v (Some k) (and_parts _ _ (and_parts _ _ e).0).0)
  command_known locals (Get x v r) e = one (Does Reads v) (get_known v None r (and_parts _ _ (and_parts _ _ (and_parts _ _ e).0).1).0)
  command_known locals (GetAt x v k r) e = one (Does Reads v) (get_known v (Some k) r (and_parts _ _ (and_parts _ _ (and_parts _ _ (and_parts _ _ e).0).0).1).0)
  command_known locals (Fork n ts) e = one (Does Forks n) (procedure_known n _ s.procedures (and_parts _ _ e).0)
  command_known locals (Call n ts) e = one (Does Calls n) (procedure_known n _ s.procedures (and_parts _ _ e).0)
  command_known locals (Handle p n) e = let h = and_parts _ _ e in one (Handles p n) (and_from _ _ h.0 (procedure_known n _ s.procedures h.1))
  command_known locals (Freeze x v ps) e =
      let h = and_parts _ _ e in
      and_from _ _ (variable_known v s.declarations (and_parts _ _ h.0).1) (awaited_known v ps h.1)
  command_known locals (FreezeEach x v ps n) e =
      let h = and_parts _ _ e in
      let g = and_parts _ _ h.0 in
      and_from _ _ (variable_known v s.declarations (and_parts _ _ g.0).1)
      (list_all-append is_declared (awaited ps) (Does Calls n ∷ []) ∙ and_from _ _ (awaited_known v ps g.1) (one (Does Calls n) (procedure_known n _ s.procedures h.1)))

  own_known : (locals : List Word) (u : o.Statement-F Statement Block) → is_own_sound s.declarations s.procedures locals u ≡ true → list_all is_declared (own_deeds u) ≡ true
  own_known locals (o.Do c) e = command_known locals c e
  own_known locals (o.If t a) e = refl
  own_known locals (o.IfElse t a b) e = refl
  own_known locals (o.While t a) e = refl

  statements_known : (locals : List Word) (ss : List Statement) → list_all (λ x. is_own_sound s.declarations s.procedures locals (out-Statement x)) ss ≡ true → list_all is_declared (flat_map (λ x. own_deeds (out-Statement x)) ss) ≡ true
  statements_known locals [] e = refl
  statements_known locals (x ∷ ss) e =
      let h = and_parts _ _ e in
      list_all-append is_declared (own_deeds (out-Statement x)) (flat_map (λ x. own_deeds (out-Statement x)) ss) ∙ and_from _ _ (own_known locals (out-Statement x) h.0) (statements_known locals ss h.1)

  -- ---- what is told

  told : (ds : List Deed) (d : Deed) → is_declared d ≡ true → again ds d ≡ true → is_told s ds d ≡ true
  told ds (Does v n) e h = kept (λ m. list_any (does v m) ds) n (names_for s v) e h
  told ds (Handles p n) e h = let g = and_parts _ _ e in and_from _ _ g.0 (kept (λ m. list_any (handles p m) ds) n (procedure_names s.procedures) g.1 h)

  all_told : (all ds : List Deed) → list_all is_declared ds ≡ true → list_all (again all) ds ≡ true → list_all (is_told s all) ds ≡ true
  all_told all [] e h = refl
  all_told all (d ∷ ds) e h =
      let a = and_parts _ _ e in
      let b = and_parts _ _ h in
      and_from _ _ (told all d a.0 b.0) (all_told all ds a.1 b.1)

  told_of : (p : Procedure) → is_procedure_sound s.declarations s.procedures p ≡ true → list_all (is_told s (deeds_of p)) (deeds_of p) ≡ true
  told_of p e = all_told (deeds_of p) (deeds_of p) (statements_known (locals_of p) (all_nested (statements p.body)) e) (all_again [] (deeds_of p))

  each_told : (ps : List Procedure) → list_all (is_procedure_sound s.declarations s.procedures) ps ≡ true → list_all (λ p. list_all (is_told s (deeds_of p)) (deeds_of p)) ps ≡ true
  each_told [] e = refl
  each_told (p ∷ ps) e = let h = and_parts _ _ e in and_from _ _ (told_of p h.0) (each_told ps h.1)

  pub deeds_are_told : list_all (λ p. list_all (is_told s (deeds_of p)) (deeds_of p)) s.procedures ≡ true
  deeds_are_told = each_told s.procedures s.sound.statements_sound

  pub targets_are_done : (ds : List Deed) (v : Verb) (n : Word) → has_name n (targets s ds v) ≡ true → list_any (does v n) ds ≡ true
  targets_are_done ds v n e = passed (λ m. list_any (does v m) ds) n (names_for s v) e

pub handlers_are_added : (ns : List Word) (ds : List Deed) (p n : Word) → has_name n (handlers ns ds p) ≡ true → list_any (handles p n) ds ≡ true
handlers_are_added ns ds p n e = passed (λ m. list_any (handles p m) ds) n ns e
