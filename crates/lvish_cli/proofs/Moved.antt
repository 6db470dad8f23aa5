-- What reads and writes in turn do to known bytes.
use Rattle.std.proofs.Common.{◌≡◌, ℕ, ◌+◌, ◌-◌, ◌<◌, ◌≤◌, List, [], ◌++◌, Option, None, Some, IfSome, zero, suc, arith, length, take, drop, slice_range, sym, ap, ◌∙◌, subst, le_refl, drop_at, length-take-le, append_assoc, append-nil, length-append, take-append-drop}
use Rattle.std.proofs.lemmas.Slice.{take-put_mid_below}
use Rattle.std.proofs.lemmas.List.{take_rest}
use Rattle.std.specs.Io.KnownBytes.{Appends, Consumes, IsAtEnd}
use Rattle.lvish_cli.specs.Streams.{TakesFront}
use Rattle.std.proofs.Math.Seq.{take-append-add, take-append_seam}
use borrow.Rule.Slice.PartMut.{put_mid, post_of}
use lib.Seq.{take-add, take-append-le}

take_split : (a b : ℕ) (old new : List ℕ) → a ≤ b → take a new ≡ take a old → take a old ++ slice_range new a b ≡ take b new
take_split a b old new h front =
    let same : a + (b - a) ≡ b = omega arith in
    ap (λ l. l ++ slice_range new a b) (sym front) ∙ sym (take-add a (b - a) new) ∙ ap (λ n. take n new) same

slice_range-put_mid : (a k n : ℕ) (xs ys : List ℕ) → a ≤ length xs → n ≤ length ys → slice_range (put_mid a k xs ys) a (a + n) ≡ take n ys
slice_range-put_mid a k n xs ys within fits =
    let same : (a + n) - a ≡ n = omega arith in
    let after = post_of a k xs in
    ap (take ((a + n) - a)) (drop_at (take a xs) (ys ++ after) a (length-take-le a xs within)) ∙ ap (λ m. take m (ys ++ after)) same ∙ take-append-le n ys after fits

-- n bytes that came to the place a are at the end of the first a + n
pub take-put_mid_more : (a n : ℕ) (xs ys : List ℕ) → a ≤ length xs → n ≤ length ys → take a xs ++ take n ys ≡ take (a + n) (put_mid a (length xs - a) xs ys)
take-put_mid_more a n xs ys within fits =
    let part = slice_range-put_mid a (length xs - a) n xs ys within fits in
    ap (λ l. take a xs ++ l) (sym part) ∙ take_split a (a + n) xs (put_mid a (length xs - a) xs ys) (omega arith) (take-put_mid_below _ _ _ _ _ (le_refl _) within)

take_with_room : (room : ℕ) (text ys : List ℕ) → (0 < room → ys ≡ []) → take (length text + room) (text ++ ys) ≡ text
take_with_room zero text ys end = take-append-add text ys 0 ∙ append-nil text
take_with_room (suc room) text ys end =
    take-append-add text ys (suc room) ∙ ap (λ l. text ++ take (suc room) l) (end (omega arith)) ∙ append-nil text

-- what was read to the end, or as far as there was room, is the first `most` bytes that the reader had
pub seen_of_consumed : (most : ℕ) (old new : Option (List ℕ)) (text : List ℕ) → length text ≤ most → Consumes old new text → (length text < most → IsAtEnd new) → IfSome old (λ given. text ≡ take most given)
seen_of_consumed most None new text fits p end = tt
seen_of_consumed most (Some xs) None text fits p end = absurd p
seen_of_consumed most (Some xs) (Some ys) text fits p end =
    let all : length text + (most - length text) ≡ most = omega arith in
    let seen = take_with_room (most - length text) text ys (λ some. end (omega arith)) in
    sym (ap (take most) p ∙ ap (λ n. take n (text ++ ys)) (sym all) ∙ seen)

-- a front of the rest goes to what was taken
pub front_moves : (all done rest : List ℕ) (n : ℕ) → all ≡ done ++ rest → all ≡ (done ++ take n rest) ++ take (length rest - n) (drop n rest)
front_moves all done rest n e =
    e ∙ ap (λ l. done ++ l) (sym (take-append-drop n rest)) ∙ sym (append_assoc done (take n rest) (drop n rest)) ∙ ap (λ l. (done ++ take n rest) ++ l) (sym (take_rest rest n))

-- the writer took a front of the text
pub takes_front : (old new : Option (List ℕ)) (text taken rest : List ℕ) → text ≡ taken ++ rest → Appends old new taken → TakesFront old new text
takes_front old new text taken rest e p =
    let fits : length taken ≤ length text = omega (arith, simp length-append at (ap length e)) in
    (length taken, fits, subst (Appends old new) (sym (ap (take (length taken)) e ∙ take-append_seam taken rest)) p)
