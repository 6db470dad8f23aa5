use Rattle.std.proofs.Common.{◌≡◌, ◌++◌, ◌∷◌, [], None, IfOk, IfErr, refl, ap, sym, subst, ◌∙◌}
use Rattle.std.proofs.lemmas.List.{append-nil}
use Rattle.std.proofs.lemmas.Result.{IfOk-weaker}
use Rattle.lvish_lattice.specs.Lattice.{IsOutcome, fresh_of}
use Rattle.lvish_variable.specs.Variable.{IsPut, IsPutRefused, entries}
use Rattle.lvish_variable.proofs.Kept.{is_joined, is_top, kept, log_stays, put_is, stays, unchanged}
use Rattle.lvish_variable.proofs.variable.Variable.put.Goals as goal

pub returns-then-self-clause-ok : goal.returns-then-self-clause-ok
returns-then-self-clause-ok g c = IfOk-weaker c.allow.result _ _ (λ _ j. unchanged g.met.L.Event.Plain.identical g.met.L.Event.Eq.laws g.L.Lattice.joined g.L.Lattice.events_of c.args.task.now c.args.number c.args.put.now c.args.self.now j) c.allow.ensures.ok

pub invariant_of-self-in-Nothing-1 : goal.invariant_of-self-in-Nothing-1
invariant_of-self-in-Nothing-1 g c =
    let l = g.L.Lattice in
    let s = c.self.inside.state in
    let p = c.args.put.now in
    let log = c.self.inside.log.items in
    let merged = subst (IsOutcome (l.joined s p) (fresh_of l.joined g.L.Event.PartialEq.eq l.events_of s p) s c.merge_one.new.self) c.in-Nothing.is c.in_ok-merge_one.ensures.merged in
    kept g.met.L.Event.Plain.identical g.met.L.Event.Eq.laws l.joined l.events_of g.met.L.Event.Ord.total g.met.L.Lattice.has_events s p _ _ _ c.args.task.now c.args.number
    (is_joined (l.joined s p) s c.merge_one.new.self merged.0) c.self.invariant
    (c.reserve.ensures.items ∙ sym (append-nil log) ∙ ap (λ z. log ++ entries c.args.task.now c.args.number z) (sym merged.1))

pub invariant_of-self-in-One : goal.invariant_of-self-in-One
invariant_of-self-in-One g c =
    let l = g.L.Lattice in
    let s = c.self.inside.state in
    let p = c.args.put.now in
    let log = c.self.inside.log.items in
    let merged = subst (IsOutcome (l.joined s p) (fresh_of l.joined g.L.Event.PartialEq.eq l.events_of s p) s c.merge_one.new.self) c.in-One.is c.in_ok-merge_one.ensures.merged in
    kept g.met.L.Event.Plain.identical g.met.L.Event.Eq.laws l.joined l.events_of g.met.L.Event.Ord.total g.met.L.Lattice.has_events s p _ _ _ c.args.task.now c.args.number
    (is_joined (l.joined s p) s c.merge_one.new.self merged.0) c.self.invariant
    (c.push_reserved.ensures.items ∙ (λ i. c.reserve.ensures.items i ++ record { event = c.in-One.event; task = c.in-Ok.ensures i; number = c.args.number } ∷ []) ∙ ap (λ z. log ++ entries c.args.task.now c.args.number z) (sym merged.1))

pub returns-in-Nothing-clause-ok : goal.returns-in-Nothing-clause-ok
returns-in-Nothing-clause-ok g c =
    let l = g.L.Lattice in
    let s = c.self.inside.state in
    let p = c.args.put.now in
    let log = c.self.inside.log.items in
    let merged = subst (IsOutcome (l.joined s p) (fresh_of l.joined g.L.Event.PartialEq.eq l.events_of s p) s c.merge_one.new.self) c.in-Nothing.is c.in_ok-merge_one.ensures.merged in
    put_is l.joined g.L.Event.PartialEq.eq l.events_of c.args.task.now c.args.number p s c.merge_one.new.self c.self.inside.frozen log _ c.args.self.now c.self.view_is (is_joined (l.joined s p) s c.merge_one.new.self merged.0)
    (c.reserve.ensures.items ∙ sym (append-nil log) ∙ ap (λ z. log ++ entries c.args.task.now c.args.number z) (sym merged.1)) c.if-self.false

pub returns-in-One-clause-ok : goal.returns-in-One-clause-ok
returns-in-One-clause-ok g c =
    let l = g.L.Lattice in
    let s = c.self.inside.state in
    let p = c.args.put.now in
    let log = c.self.inside.log.items in
    let merged = subst (IsOutcome (l.joined s p) (fresh_of l.joined g.L.Event.PartialEq.eq l.events_of s p) s c.merge_one.new.self) c.in-One.is c.in_ok-merge_one.ensures.merged in
    put_is l.joined g.L.Event.PartialEq.eq l.events_of c.args.task.now c.args.number p s c.merge_one.new.self c.self.inside.frozen log _ c.args.self.now c.self.view_is (is_joined (l.joined s p) s c.merge_one.new.self merged.0)
    (c.push_reserved.ensures.items ∙ (λ i. c.reserve.ensures.items i ++ record { event = c.in-One.event; task = c.in-Ok.ensures i; number = c.args.number } ∷ []) ∙ ap (λ z. log ++ entries c.args.task.now c.args.number z) (sym merged.1)) c.if-self.false

pub invariant_of-self-in_default : goal.invariant_of-self-in_default
invariant_of-self-in_default g c =
    log_stays _ _ _ _ refl c.reserve.ensures.items g.L.Lattice.events_of c.self.invariant

pub returns-in_default-clause-refused : goal.returns-in_default-clause-refused
returns-in_default-clause-refused g c =
    stays _ _ _ _ refl c.reserve.ensures.items c.self.inside.frozen _ c.self.view_is

pub invariant_of-self-in_err-merge_one : goal.invariant_of-self-in_err-merge_one
invariant_of-self-in_err-merge_one g c =
    log_stays _ _ _ _ c.in_err-merge_one.ensures.refused c.reserve.ensures.items g.L.Lattice.events_of c.self.invariant

pub invariant_of-self-in-Top-1 : goal.invariant_of-self-in-Top-1
invariant_of-self-in-Top-1 g c =
    let l = g.L.Lattice in
    let s = c.self.inside.state in
    let p = c.args.put.now in
    let outcome = subst (IsOutcome (l.joined s p) (fresh_of l.joined g.L.Event.PartialEq.eq l.events_of s p) s c.merge_one.new.self) c.in-Top.is c.in_ok-merge_one.ensures.merged in
    let top = is_top (l.joined s p) s c.merge_one.new.self outcome in
    log_stays _ _ _ _ top.1 c.reserve.ensures.items g.L.Lattice.events_of c.self.invariant

pub returns-in-Top-clause-refused : goal.returns-in-Top-clause-refused
returns-in-Top-clause-refused g c =
    let l = g.L.Lattice in
    let s = c.self.inside.state in
    let p = c.args.put.now in
    let outcome = subst (IsOutcome (l.joined s p) (fresh_of l.joined g.L.Event.PartialEq.eq l.events_of s p) s c.merge_one.new.self) c.in-Top.is c.in_ok-merge_one.ensures.merged in
    let top = is_top (l.joined s p) s c.merge_one.new.self outcome in
    stays _ _ _ _ top.1 c.reserve.ensures.items c.self.inside.frozen _ c.self.view_is

pub returns-in-Top-clause-why : goal.returns-in-Top-clause-why
returns-in-Top-clause-why g c =
    let l = g.L.Lattice in
    let s = c.self.inside.state in
    let p = c.args.put.now in
    let outcome = subst (IsOutcome (l.joined s p) (fresh_of l.joined g.L.Event.PartialEq.eq l.events_of s p) s c.merge_one.new.self) c.in-Top.is c.in_ok-merge_one.ensures.merged in
    let top = is_top (l.joined s p) s c.merge_one.new.self outcome in
    subst (λ v. l.joined v.state p ≡ None) c.self.view_is top.0

pub invariant_of-self-in-Listed : goal.invariant_of-self-in-Listed
invariant_of-self-in-Listed g c =
    let l = g.L.Lattice in
    let s = c.self.inside.state in
    let p = c.args.put.now in
    let outcome = subst (IsOutcome (l.joined s p) (fresh_of l.joined g.L.Event.PartialEq.eq l.events_of s p) s c.merge_one.new.self) c.in-Listed.is c.in_ok-merge_one.ensures.merged in
    log_stays _ _ _ _ outcome c.reserve.ensures.items g.L.Lattice.events_of c.self.invariant

pub returns-in-Listed-clause-ok : goal.returns-in-Listed-clause-ok
returns-in-Listed-clause-ok g c =
    let l = g.L.Lattice in
    let s = c.self.inside.state in
    let p = c.args.put.now in
    let outcome = subst (IsOutcome (l.joined s p) (fresh_of l.joined g.L.Event.PartialEq.eq l.events_of s p) s c.merge_one.new.self) c.in-Listed.is c.in_ok-merge_one.ensures.merged in
    let same = stays _ _ _ _ outcome c.reserve.ensures.items c.self.inside.frozen _ c.self.view_is in
    subst (λ v. IfOk c.put_listed.result (λ _. IsPut l.joined g.L.Event.PartialEq.eq l.events_of c.args.task.now c.args.number p v c.put_listed.new.self)) same c.put_listed.ensures.ok

pub returns-in-Listed-clause-why : goal.returns-in-Listed-clause-why
returns-in-Listed-clause-why g c =
    let l = g.L.Lattice in
    let s = c.self.inside.state in
    let p = c.args.put.now in
    let outcome = subst (IsOutcome (l.joined s p) (fresh_of l.joined g.L.Event.PartialEq.eq l.events_of s p) s c.merge_one.new.self) c.in-Listed.is c.in_ok-merge_one.ensures.merged in
    let same = stays _ _ _ _ outcome c.reserve.ensures.items c.self.inside.frozen _ c.self.view_is in
    subst (λ v. IfErr c.put_listed.result (λ f. IsPutRefused l.joined p v f)) same c.put_listed.ensures.why

pub returns-in-Listed-clause-refused : goal.returns-in-Listed-clause-refused
returns-in-Listed-clause-refused g c =
    let l = g.L.Lattice in
    let s = c.self.inside.state in
    let p = c.args.put.now in
    let outcome = subst (IsOutcome (l.joined s p) (fresh_of l.joined g.L.Event.PartialEq.eq l.events_of s p) s c.merge_one.new.self) c.in-Listed.is c.in_ok-merge_one.ensures.merged in
    let same = stays _ _ _ _ outcome c.reserve.ensures.items c.self.inside.frozen _ c.self.view_is in
    subst (λ v. IfErr c.put_listed.result (λ _. c.put_listed.new.self ≡ v)) same c.put_listed.ensures.refused
