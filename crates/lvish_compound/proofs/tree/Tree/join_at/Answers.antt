-- What a borrow of the tree leaves is cited by its name in the prover (`given`): a search for it takes 8 seconds where it
-- is found, and minutes where a wrong body makes it false.
use Rattle.std.proofs.Common.{◌≡◌, ◌∙◌, ◌∷◌, [], None, Some, refl, ap, sym, subst}
use Rattle.std.specs.Map.{lookup}
use Rattle.std.specs.BTreeMap.{ContainsKey, get_key, is_at, insert_entry}
use Rattle.std.specs.BTreeMap.Entry.{MatchEntry, entry_key, entry_map_ref, entry_value, map_with_value}
use Rattle.lvish_lattice.specs.Ascending.{ties_are_same}
use Rattle.lvish_compound.specs.Blocks.{flat}
use Rattle.lvish_compound.proofs.Parts.{left_behind, made_for_none}
use Rattle.lvish_compound.proofs.Trees.{held_rises, refused_flat, join_flat, join_blocks, new_joined, new_blocks}
use Rattle.lvish_compound.proofs.tree.Tree.join_at.Goals as goal

pub join_at-joined-requires : goal.join_at-joined-requires
join_at-joined-requires g c =
    let R = g.K.Ord.cmp in
    let h = g.K.Key.high in
    let same = ties_are_same R g.met.K.Plain.identical g.met.K.Ord.matches_eq in
    let bs = c.self.inside.blocks.entries in
    let es = c.into_mut-block.result.now in
    let rank : c.new.result ≡ h c.args.of = c.new.ensures ∙ c.high.ensures in
    let held : lookup (is_at (R (h c.args.of))) bs ≡ Some es = subst (λ k. lookup (is_at (R k)) bs ≡ Some es) rank (sym c.in_ok-place.ensures.value ∙ ap entry_value c.in-Occupied.is ∙ c.into_mut-block.ensures.value) in
    held_rises R h g.met.K.Ord.total same g.met.K.Key.rises (h c.args.of) bs c.self.inside.count es c.self.invariant held

pub invariant_of-self-in-Occupied : goal.invariant_of-self-in-Occupied
invariant_of-self-in-Occupied g c =
    let R = g.K.Ord.cmp in
    let h = g.K.Key.high in
    let same = ties_are_same R g.met.K.Plain.identical g.met.K.Ord.matches_eq in
    let bs = c.self.inside.blocks.entries in
    let es = c.into_mut-block.result.now in
    let rank : c.new.result ≡ h c.args.of = c.new.ensures ∙ c.high.ensures in
    let held : lookup (is_at (R (h c.args.of))) bs ≡ Some es = subst (λ k. lookup (is_at (R k)) bs ≡ Some es) rank (sym c.in_ok-place.ensures.value ∙ ap entry_value c.in-Occupied.is ∙ c.into_mut-block.ensures.value) in
    let w = c.join_at-joined.new.self in
    let wrote : (map_with_value c.in_ok-place.place w).entries ≡ insert_entry R bs (h c.args.of) w = subst (λ r. (map_with_value c.in_ok-place.place w).entries ≡ insert_entry R bs r w) rank (c.in_ok-place.ensures.update.1 w) in
    let now = left_behind (λ e. (entry_map_ref e).ghost_name) (λ e. map_with_value e w) _ _ _ _ c.in_ok-place.ensures.same_map c.in-Occupied.is c.self-in-Occupied-2-1.given.1 in
    join_blocks R h g.met.K.Ord.total same g.met.K.Key.rises c.args.of bs (map_with_value c.in_ok-place.place w).entries _ es w c.self.inside.count c.self.invariant held wrote (ap (λ m. m.entries) now) c.in_ok-place.ensures.ordered c.in-Some.more c.counted-self-inside.result c.len-before.result c.len.result c.in-Some.ensures.1 c.len-before.ensures c.len.ensures c.counted-self-inside.ensures.stays c.counted-self-inside.ensures.grows g.L.Lattice.least g.L.Lattice.joined g.met.L.Lattice.is_join c.args.part.now c.join_at-joined.result c.join_at-joined.ensures.added c.join_at-joined.ensures.refused

pub returns-in-Occupied-clause-added : goal.returns-in-Occupied-clause-added
returns-in-Occupied-clause-added g c =
    let R = g.K.Ord.cmp in
    let h = g.K.Key.high in
    let same = ties_are_same R g.met.K.Plain.identical g.met.K.Ord.matches_eq in
    let bs = c.self.inside.blocks.entries in
    let es = c.into_mut-block.result.now in
    let rank : c.new.result ≡ h c.args.of = c.new.ensures ∙ c.high.ensures in
    let held : lookup (is_at (R (h c.args.of))) bs ≡ Some es = subst (λ k. lookup (is_at (R k)) bs ≡ Some es) rank (sym c.in_ok-place.ensures.value ∙ ap entry_value c.in-Occupied.is ∙ c.into_mut-block.ensures.value) in
    let w = c.join_at-joined.new.self in
    let wrote : (map_with_value c.in_ok-place.place w).entries ≡ insert_entry R bs (h c.args.of) w = subst (λ r. (map_with_value c.in_ok-place.place w).entries ≡ insert_entry R bs r w) rank (c.in_ok-place.ensures.update.1 w) in
    let now = left_behind (λ e. (entry_map_ref e).ghost_name) (λ e. map_with_value e w) _ _ _ _ c.in_ok-place.ensures.same_map c.in-Occupied.is c.self-in-Occupied-2-1.given.1 in
    rw (← c.self.view_is) (join_flat R h g.met.K.Ord.total same g.met.K.Key.rises c.args.of bs (map_with_value c.in_ok-place.place w).entries es w c.self.inside.count c.self.invariant held wrote c.in_ok-place.ensures.ordered _ (ap (λ m. flat m.entries) now) g.L.Lattice.least g.L.Lattice.joined c.args.part.now c.join_at-joined.result c.join_at-joined.ensures.added)

pub returns-in-Occupied-clause-refused : goal.returns-in-Occupied-clause-refused
returns-in-Occupied-clause-refused g c =
    let R = g.K.Ord.cmp in
    let h = g.K.Key.high in
    let same = ties_are_same R g.met.K.Plain.identical g.met.K.Ord.matches_eq in
    let bs = c.self.inside.blocks.entries in
    let es = c.into_mut-block.result.now in
    let rank : c.new.result ≡ h c.args.of = c.new.ensures ∙ c.high.ensures in
    let held : lookup (is_at (R (h c.args.of))) bs ≡ Some es = subst (λ k. lookup (is_at (R k)) bs ≡ Some es) rank (sym c.in_ok-place.ensures.value ∙ ap entry_value c.in-Occupied.is ∙ c.into_mut-block.ensures.value) in
    let w = c.join_at-joined.new.self in
    let wrote : (map_with_value c.in_ok-place.place w).entries ≡ insert_entry R bs (h c.args.of) w = subst (λ r. (map_with_value c.in_ok-place.place w).entries ≡ insert_entry R bs r w) rank (c.in_ok-place.ensures.update.1 w) in
    let now = left_behind (λ e. (entry_map_ref e).ghost_name) (λ e. map_with_value e w) _ _ _ _ c.in_ok-place.ensures.same_map c.in-Occupied.is c.self-in-Occupied-2-1.given.1 in
    rw (← c.self.view_is) (refused_flat R h g.met.K.Ord.total same g.met.K.Key.rises c.args.of bs (map_with_value c.in_ok-place.place w).entries es w c.self.inside.count c.self.invariant held wrote c.in_ok-place.ensures.ordered _ (ap (λ m. flat m.entries) now) c.join_at-joined.result c.join_at-joined.ensures.refused)

pub invariant_of-self-2 : goal.invariant_of-self-2
invariant_of-self-2 g c =
    let R = g.K.Ord.cmp in
    let h = g.K.Key.high in
    let same = ties_are_same R g.met.K.Plain.identical g.met.K.Ord.matches_eq in
    let m = c.self.inside.blocks in
    let k = c.args.of in
    let w = c.in_ok-or_try_insert_with.field-0.now in
    let now = left_behind (λ e. (entry_map_ref e).ghost_name) (λ e. map_with_value e w) _ _ _ _ c.in_ok-place.ensures.same_map c.in-Vacant.is c.self-in_ok-or_try_insert_with-2-1.given.1 in
    let rank : c.new.result ≡ h c.args.of = c.new.ensures ∙ c.high.ensures in
    let wrote : (map_with_value c.in_ok-place.place w).entries ≡ insert_entry R m.entries (h k) w = subst (λ r. (map_with_value c.in_ok-place.place w).entries ≡ insert_entry R m.entries r w) rank (c.in_ok-place.ensures.update.1 w) in
    let lacking : lookup (is_at (R c.new.result)) m.entries ≡ None = subst (λ e. MatchEntry e (ContainsKey R m c.new.result × (get_key R m c.new.result ≡ Some (entry_key e))) (lookup (is_at (R c.new.result)) m.entries ≡ None)) c.in-Vacant.is c.in_ok-place.ensures.found in
    let none : lookup (is_at (R (h k))) m.entries ≡ None = subst (λ r. lookup (is_at (R r)) m.entries ≡ None) rank lacking in
    let is = made_for_none _ _ w (sym (ap entry_value c.in-Vacant.is) ∙ c.in_ok-place.ensures.value ∙ lacking) c.in_ok-or_try_insert_with.ensures.value in
    let one : w ≡ (k, c.args.part.now) ∷ [] = is in
    new_blocks R h g.met.K.Ord.total same g.met.K.Key.rises k c.args.part.now m.entries (map_with_value c.in_ok-place.place w).entries _ c.self.inside.count c.in-Some.more c.self.invariant none (wrote ∙ ap (insert_entry R m.entries (h k)) one) (ap (λ m. m.entries) now) c.in-Some.ensures.1

pub returns-clause-added : goal.returns-clause-added
returns-clause-added g c =
    let R = g.K.Ord.cmp in
    let h = g.K.Key.high in
    let same = ties_are_same R g.met.K.Plain.identical g.met.K.Ord.matches_eq in
    let m = c.self.inside.blocks in
    let k = c.args.of in
    let w = c.in_ok-or_try_insert_with.field-0.now in
    let now = left_behind (λ e. (entry_map_ref e).ghost_name) (λ e. map_with_value e w) _ _ _ _ c.in_ok-place.ensures.same_map c.in-Vacant.is c.self-in_ok-or_try_insert_with-2-1.given.1 in
    let rank : c.new.result ≡ h c.args.of = c.new.ensures ∙ c.high.ensures in
    let wrote : (map_with_value c.in_ok-place.place w).entries ≡ insert_entry R m.entries (h k) w = subst (λ r. (map_with_value c.in_ok-place.place w).entries ≡ insert_entry R m.entries r w) rank (c.in_ok-place.ensures.update.1 w) in
    let lacking : lookup (is_at (R c.new.result)) m.entries ≡ None = subst (λ e. MatchEntry e (ContainsKey R m c.new.result × (get_key R m c.new.result ≡ Some (entry_key e))) (lookup (is_at (R c.new.result)) m.entries ≡ None)) c.in-Vacant.is c.in_ok-place.ensures.found in
    let none : lookup (is_at (R (h k))) m.entries ≡ None = subst (λ r. lookup (is_at (R r)) m.entries ≡ None) rank lacking in
    let is = made_for_none _ _ w (sym (ap entry_value c.in-Vacant.is) ∙ c.in_ok-place.ensures.value ∙ lacking) c.in_ok-or_try_insert_with.ensures.value in
    let one : w ≡ (k, c.args.part.now) ∷ [] = is in
    rw (← c.self.view_is) (new_joined R h g.met.K.Ord.total same g.met.K.Key.rises k c.args.part.now m.entries (map_with_value c.in_ok-place.place w).entries c.self.inside.count c.self.invariant none (wrote ∙ ap (insert_entry R m.entries (h k)) one) _ (ap (λ m. flat m.entries) now) g.L.Lattice.least g.L.Lattice.joined c.args.part.now refl)
