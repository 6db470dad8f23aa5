-- What a borrow of the tree leaves is cited by its name in the prover (`given`): a search for it takes 8 seconds where it
-- is found, and minutes where a wrong body makes it false.
use Rattle.std.proofs.Common.{◌≡◌, ◌∙◌, None, Some, ap, sym, subst}
use Rattle.std.specs.Map.{lookup}
use Rattle.std.specs.BTreeMap.{ContainsKey, get_key, is_at, insert_entry}
use Rattle.std.specs.BTreeMap.Entry.{MatchEntry, entry_key, entry_map_ref, entry_value, map_with_value}
use Rattle.lvish_lattice.specs.Ascending.{ties_are_same}
use Rattle.lvish_compound.specs.Blocks.{flat}
use Rattle.lvish_compound.proofs.Parts.{left_behind}
use Rattle.lvish_compound.proofs.Trees.{held_rises, refused_flat, inserted_flat, inserted_blocks, new_put, new_blocks}
use Rattle.lvish_compound.proofs.tree.Tree.insert.Goals as goal

pub put-put-requires : goal.put-put-requires
put-put-requires g c =
    let R = g.K.Ord.cmp in
    let h = g.K.Key.high in
    let same = ties_are_same R g.met.K.Plain.identical g.met.K.Ord.matches_eq in
    let bs = c.self.inside.blocks.entries in
    let es = c.into_mut-block.result.now in
    let rank : c.new.result ≡ h c.args.key = c.new.ensures ∙ c.high.ensures in
    let held : lookup (is_at (R (h c.args.key))) bs ≡ Some es = subst (λ k. lookup (is_at (R k)) bs ≡ Some es) rank (sym c.in_ok-place.ensures.value ∙ ap entry_value c.in-Occupied.is ∙ c.into_mut-block.ensures.value) in
    held_rises R h g.met.K.Ord.total same g.met.K.Key.rises (h c.args.key) bs c.self.inside.count es c.self.invariant held

pub invariant_of-self-in-Occupied : goal.invariant_of-self-in-Occupied
invariant_of-self-in-Occupied g c =
    let R = g.K.Ord.cmp in
    let h = g.K.Key.high in
    let same = ties_are_same R g.met.K.Plain.identical g.met.K.Ord.matches_eq in
    let bs = c.self.inside.blocks.entries in
    let es = c.into_mut-block.result.now in
    let rank : c.new.result ≡ h c.args.key = c.new.ensures ∙ c.high.ensures in
    let held : lookup (is_at (R (h c.args.key))) bs ≡ Some es = subst (λ k. lookup (is_at (R k)) bs ≡ Some es) rank (sym c.in_ok-place.ensures.value ∙ ap entry_value c.in-Occupied.is ∙ c.into_mut-block.ensures.value) in
    let w = c.put-put.new.self in
    let wrote : (map_with_value c.in_ok-place.place w).entries ≡ insert_entry R bs (h c.args.key) w = subst (λ r. (map_with_value c.in_ok-place.place w).entries ≡ insert_entry R bs r w) rank (c.in_ok-place.ensures.update.1 w) in
    let now = left_behind (λ e. (entry_map_ref e).ghost_name) (λ e. map_with_value e w) _ _ _ _ c.in_ok-place.ensures.same_map c.in-Occupied.is c.self-in-Occupied-2-1.given.1 in
    inserted_blocks R h g.met.K.Ord.total same g.met.K.Key.rises c.args.key bs (map_with_value c.in_ok-place.place w).entries _ es w c.self.inside.count c.self.invariant held wrote (ap (λ m. m.entries) now) c.in_ok-place.ensures.ordered c.in-Some.more c.counted-self-inside.result c.len-before.result c.len.result c.in-Some.ensures.1 c.len-before.ensures c.len.ensures c.counted-self-inside.ensures.stays c.counted-self-inside.ensures.grows c.args.part c.put-put.result c.put-put.ensures.inserted c.put-put.ensures.refused

pub returns-in-Occupied-clause-inserted : goal.returns-in-Occupied-clause-inserted
returns-in-Occupied-clause-inserted g c =
    let R = g.K.Ord.cmp in
    let h = g.K.Key.high in
    let same = ties_are_same R g.met.K.Plain.identical g.met.K.Ord.matches_eq in
    let bs = c.self.inside.blocks.entries in
    let es = c.into_mut-block.result.now in
    let rank : c.new.result ≡ h c.args.key = c.new.ensures ∙ c.high.ensures in
    let held : lookup (is_at (R (h c.args.key))) bs ≡ Some es = subst (λ k. lookup (is_at (R k)) bs ≡ Some es) rank (sym c.in_ok-place.ensures.value ∙ ap entry_value c.in-Occupied.is ∙ c.into_mut-block.ensures.value) in
    let w = c.put-put.new.self in
    let wrote : (map_with_value c.in_ok-place.place w).entries ≡ insert_entry R bs (h c.args.key) w = subst (λ r. (map_with_value c.in_ok-place.place w).entries ≡ insert_entry R bs r w) rank (c.in_ok-place.ensures.update.1 w) in
    let now = left_behind (λ e. (entry_map_ref e).ghost_name) (λ e. map_with_value e w) _ _ _ _ c.in_ok-place.ensures.same_map c.in-Occupied.is c.self-in-Occupied-2-1.given.1 in
    rw (← c.self.view_is) (inserted_flat R h g.met.K.Ord.total same g.met.K.Key.rises c.args.key bs (map_with_value c.in_ok-place.place w).entries es w c.self.inside.count c.self.invariant held wrote c.in_ok-place.ensures.ordered _ (ap (λ m. flat m.entries) now) c.args.part c.put-put.result c.put-put.ensures.inserted)

pub returns-in-Occupied-clause-refused : goal.returns-in-Occupied-clause-refused
returns-in-Occupied-clause-refused g c =
    let R = g.K.Ord.cmp in
    let h = g.K.Key.high in
    let same = ties_are_same R g.met.K.Plain.identical g.met.K.Ord.matches_eq in
    let bs = c.self.inside.blocks.entries in
    let es = c.into_mut-block.result.now in
    let rank : c.new.result ≡ h c.args.key = c.new.ensures ∙ c.high.ensures in
    let held : lookup (is_at (R (h c.args.key))) bs ≡ Some es = subst (λ k. lookup (is_at (R k)) bs ≡ Some es) rank (sym c.in_ok-place.ensures.value ∙ ap entry_value c.in-Occupied.is ∙ c.into_mut-block.ensures.value) in
    let w = c.put-put.new.self in
    let wrote : (map_with_value c.in_ok-place.place w).entries ≡ insert_entry R bs (h c.args.key) w = subst (λ r. (map_with_value c.in_ok-place.place w).entries ≡ insert_entry R bs r w) rank (c.in_ok-place.ensures.update.1 w) in
    let now = left_behind (λ e. (entry_map_ref e).ghost_name) (λ e. map_with_value e w) _ _ _ _ c.in_ok-place.ensures.same_map c.in-Occupied.is c.self-in-Occupied-2-1.given.1 in
    rw (← c.self.view_is) (refused_flat R h g.met.K.Ord.total same g.met.K.Key.rises c.args.key bs (map_with_value c.in_ok-place.place w).entries es w c.self.inside.count c.self.invariant held wrote c.in_ok-place.ensures.ordered _ (ap (λ m. flat m.entries) now) c.put-put.result c.put-put.ensures.refused)

pub invariant_of-self-in-Vacant : goal.invariant_of-self-in-Vacant
invariant_of-self-in-Vacant g c =
    let R = g.K.Ord.cmp in
    let h = g.K.Key.high in
    let same = ties_are_same R g.met.K.Plain.identical g.met.K.Ord.matches_eq in
    let m = c.self.inside.blocks in
    let k = c.args.key in
    let w = c.insert.result.now in
    let now = left_behind (λ e. (entry_map_ref e).ghost_name) (λ e. map_with_value e w) _ _ _ _ c.in_ok-place.ensures.same_map c.in-Vacant.is c.self-in-Vacant-2-1.given.1 in
    let rank : c.new.result ≡ h c.args.key = c.new.ensures ∙ c.high.ensures in
    let wrote : (map_with_value c.in_ok-place.place w).entries ≡ insert_entry R m.entries (h k) w = subst (λ r. (map_with_value c.in_ok-place.place w).entries ≡ insert_entry R m.entries r w) rank (c.in_ok-place.ensures.update.1 w) in
    let lacking : lookup (is_at (R c.new.result)) m.entries ≡ None = subst (λ e. MatchEntry e (ContainsKey R m c.new.result × (get_key R m c.new.result ≡ Some (entry_key e))) (lookup (is_at (R c.new.result)) m.entries ≡ None)) c.in-Vacant.is c.in_ok-place.ensures.found in
    let none : lookup (is_at (R (h k))) m.entries ≡ None = subst (λ r. lookup (is_at (R r)) m.entries ≡ None) rank lacking in
    new_blocks R h g.met.K.Ord.total same g.met.K.Key.rises k c.args.part m.entries (map_with_value c.in_ok-place.place w).entries _ c.self.inside.count c.in-Some.more c.self.invariant none (wrote ∙ ap (insert_entry R m.entries (h k)) (c.insert.ensures.value ∙ c.of_one.ensures)) (ap (λ m. m.entries) now) c.in-Some.ensures.1

pub returns-in-Vacant-clause-inserted : goal.returns-in-Vacant-clause-inserted
returns-in-Vacant-clause-inserted g c =
    let R = g.K.Ord.cmp in
    let h = g.K.Key.high in
    let same = ties_are_same R g.met.K.Plain.identical g.met.K.Ord.matches_eq in
    let m = c.self.inside.blocks in
    let k = c.args.key in
    let w = c.insert.result.now in
    let now = left_behind (λ e. (entry_map_ref e).ghost_name) (λ e. map_with_value e w) _ _ _ _ c.in_ok-place.ensures.same_map c.in-Vacant.is c.self-in-Vacant-2-1.given.1 in
    let rank : c.new.result ≡ h c.args.key = c.new.ensures ∙ c.high.ensures in
    let wrote : (map_with_value c.in_ok-place.place w).entries ≡ insert_entry R m.entries (h k) w = subst (λ r. (map_with_value c.in_ok-place.place w).entries ≡ insert_entry R m.entries r w) rank (c.in_ok-place.ensures.update.1 w) in
    let lacking : lookup (is_at (R c.new.result)) m.entries ≡ None = subst (λ e. MatchEntry e (ContainsKey R m c.new.result × (get_key R m c.new.result ≡ Some (entry_key e))) (lookup (is_at (R c.new.result)) m.entries ≡ None)) c.in-Vacant.is c.in_ok-place.ensures.found in
    let none : lookup (is_at (R (h k))) m.entries ≡ None = subst (λ r. lookup (is_at (R r)) m.entries ≡ None) rank lacking in
    rw (← c.self.view_is) (new_put R h g.met.K.Ord.total same g.met.K.Key.rises k c.args.part m.entries (map_with_value c.in_ok-place.place w).entries c.self.inside.count c.self.invariant none (wrote ∙ ap (insert_entry R m.entries (h k)) (c.insert.ensures.value ∙ c.of_one.ensures)) _ (ap (λ m. flat m.entries) now))
