use Rattle.std.proofs.Common.{◌≡◌, ◌∷◌, ◌∙◌, ap, sym}
use Rattle.std.proofs.lemmas.List.{nil_from_length}
use Rattle.std.specs.Slice.Iter.{iter_rest}
use Rattle.lvish_compound.specs.Blocks.{stored_entries}
use Rattle.lvish_compound.proofs.Turns.{part_taken, part_shown, block_taken, block_shown}
use Rattle.lvish_compound.proofs.block_iter.BlockIterIterator.next.Goals as goal

pub invariant_of-self : goal.invariant_of-self
invariant_of-self g c = part_taken _ _ _ _ c.in-Some.ensures.steps _ c.self.invariant

pub returns-in-Some-clause-steps : goal.returns-in-Some-clause-steps
returns-in-Some-clause-steps g c = part_shown _ _ c.self.inside.blocks _ c.in-Some.ensures.steps _ c.self.view_is

pub invariant_of-self-in-One : goal.invariant_of-self-in-One
invariant_of-self-in-One g c =
    let held : c.in_ok-block.block.now ≡ c.in-One.entry ∷ iter_rest c.next.new.self = sym c.held.ensures ∙ ap stored_entries c.in-One.is ∙ ap (λ ps. c.in-One.entry ∷ ps) (sym (ap iter_rest c.in_default.ensures.steps.1 ∙ nil_from_length _ c.in_default.ensures.steps.0)) in
    block_taken _ _ c.self.inside.blocks c.in_default.ensures.steps.0 _ _ c.in_ok-block.ensures.steps _ held _ c.self.invariant

pub returns-in-One-clause-steps : goal.returns-in-One-clause-steps
returns-in-One-clause-steps g c =
    let held : c.in_ok-block.block.now ≡ c.in-One.entry ∷ iter_rest c.next.new.self = sym c.held.ensures ∙ ap stored_entries c.in-One.is ∙ ap (λ ps. c.in-One.entry ∷ ps) (sym (ap iter_rest c.in_default.ensures.steps.1 ∙ nil_from_length _ c.in_default.ensures.steps.0)) in
    block_shown _ _ c.self.inside.blocks c.in_default.ensures.steps.0 _ _ c.in_ok-block.ensures.steps _ held _ c.self.view_is

pub invariant_of-self-in-Many : goal.invariant_of-self-in-Many
invariant_of-self-in-Many g c =
    let held : c.in_ok-block.block.now ≡ c.in_ok-entry-in-Many.entry.now ∷ iter_rest c.next-in-Many.new.self = sym c.held.ensures ∙ ap stored_entries c.in-Many.is ∙ sym c.deref.ensures.value ∙ sym c.iter-self-inside.ensures.rest ∙ c.in_ok-entry-in-Many.ensures.steps in
    block_taken _ _ c.self.inside.blocks c.in_default.ensures.steps.0 _ _ c.in_ok-block.ensures.steps _ held _ c.self.invariant

pub returns-in_ok-entry-in-Many-clause-steps : goal.returns-in_ok-entry-in-Many-clause-steps
returns-in_ok-entry-in-Many-clause-steps g c =
    let held : c.in_ok-block.block.now ≡ c.in_ok-entry-in-Many.entry.now ∷ iter_rest c.next-in-Many.new.self = sym c.held.ensures ∙ ap stored_entries c.in-Many.is ∙ sym c.deref.ensures.value ∙ sym c.iter-self-inside.ensures.rest ∙ c.in_ok-entry-in-Many.ensures.steps in
    block_shown _ _ c.self.inside.blocks c.in_default.ensures.steps.0 _ _ c.in_ok-block.ensures.steps _ held _ c.self.view_is
