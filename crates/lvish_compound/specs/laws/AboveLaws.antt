-- What is joined to a state that isn't bottom isn't bottom.
use Rattle.std.proofs.Common.{◌≡◌, Bool, true, false, Option, Some, None, unwrap_or, Result, Ok, Err, IfOk, IfErr, refl, sym, ◌∙◌, ap}
use Rattle.lvish_lattice.specs.Lattice.{IsIdentity, IsJoin}
use Rattle.lvish_compound.specs.laws.Pointwise.{left_below, least_below}

module _ {L : Type 0} {least : L} {join : L → L → Option L} (j : IsJoin least join) (eq : L → L → Bool) (same : IsIdentity eq) (itself : (a : L) → eq a a ≡ true) where
  stays_by : (a b c : L) (t : Bool) → eq c least ≡ t → join a b ≡ Some c → eq a least ≡ false → t ≡ false
  stays_by a b c true h e n =
      let is : c ≡ least = same c least h in
      let bottom : a ≡ least = least_below j a (ap (join a) (sym is) ∙ left_below j a b c e ∙ ap (λ x. Some x) is) in
      sym (ap (λ x. eq x least) bottom ∙ itself least) ∙ n
  stays_by a b c false h e n = refl

  pub stays_above : (a b c : L) → join a b ≡ Some c → eq a least ≡ false → eq c least ≡ false
  stays_above a b c e n = stays_by a b c (eq c least) refl e n

  unless_top : (a b : L) (o : Option L) → join a b ≡ o → eq a least ≡ false → eq (unwrap_or o a) least ≡ false
  unless_top a b (Some c) e n = stays_above a b c e n
  unless_top a b None e n = n

  pub merged_above : {T X : Type 0} (r : Result T X) (P : T → Type 0) (old put new : L) → eq old least ≡ false → IfOk r (λ t. P t × (new ≡ unwrap_or (join old put) old)) → IfErr r (λ _. new ≡ old) → eq new least ≡ false
  merged_above (Ok t) P old put new n ok err = ap (λ x. eq x least) ok.1 ∙ unless_top old put (join old put) refl n
  merged_above (Err e) P old put new n ok err = ap (λ x. eq x least) err ∙ n
