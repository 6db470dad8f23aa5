-- The text of picks.
use Rattle.std.proofs.Common.{◌≡◌, ◌==◌, false, codes, List, ℕ, ◌++◌, length, if◌then◌else◌, sym, ap, ◌∙◌, append_assoc}
use Rattle.lvish_again.specs.Text.{picks_text as some_picks_text}
use Rattle.lvish_try.specs.Text.{picks_text}

-- some picks, written after their word
pub picks_written : (new mid old : List ℕ) (picks : List ℕ) → new ≡ mid ++ some_picks_text picks → mid ≡ old ++ codes "by picks" → (length picks == 0) ≡ false → new ≡ old ++ picks_text picks
picks_written new mid old picks is begun some =
    is ∙ ap (λ t. t ++ some_picks_text picks) begun ∙ append_assoc old (codes "by picks") (some_picks_text picks)
    ∙ sym (ap (λ b. old ++ (if b then codes "without picks" else codes "by picks" ++ some_picks_text picks)) some)
