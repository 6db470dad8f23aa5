use Rattle.std.proofs.Common.{◌≡◌, ℕ, ◌+◌, List, [], ◌∷◌, ◌++◌, length, reverse, Option, Some, None, MatchOption, option_to_list, sym, ap, ◌∙◌}
use Rattle.std.proofs.lemmas.List.{append-nil, reverse-append, reverse-reverse, nil_from_length}
use Rattle.lvish_task.proofs.frames.Frames.pop.Goals as goal

-- the last of the frames, turned round, is the topmost one
popped : {X : Type 0} (o : Option X) (old new before after : List X) (m k : ℕ) → before ≡ reverse old → before ≡ after ++ option_to_list o → new ≡ reverse after → m ≡ length before → MatchOption o ((m ≡ 0) × (k ≡ 0)) (λ x. k + 1 ≡ m) → MatchOption o ((old ≡ []) × (new ≡ [])) (λ f. old ≡ f ∷ new)
popped None old new before after m k from kept to long cases =
    let nothing : before ≡ [] = nil_from_length before (sym long ∙ cases.0) in
    (sym (reverse-reverse old) ∙ ap reverse (sym from ∙ nothing), to ∙ ap reverse (sym (append-nil after) ∙ sym kept ∙ nothing))
popped (Some f) old new before after m k from kept to long cases =
    sym (reverse-reverse old) ∙ ap reverse (sym from ∙ kept) ∙ reverse-append after (f ∷ []) ∙ ap (λ l. f ∷ l) (sym to)

pub returns : goal.returns
returns c = popped c.pop-top.result _ _ _ _ _ _ c.in_ok-items.ensures.taken c.pop-top.ensures.items c.in_ok-self.ensures c.in_ok-items.items.ok.0 c.pop-top.ensures.cases
