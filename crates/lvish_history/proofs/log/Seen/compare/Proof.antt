-- `compare` does nothing: two lists that one log has begun with have a least bound.
use Rattle.std.proofs.Common.{◌≡◌, ℕ, List, [], ◌∷◌, refl}
use Rattle.std.proofs.raw_atomic.Walks.{proved}
use mir.Syntax.{a_type, named}
use mir.Val.{Val, vptr, vunit}
use mir.MapTy.{inst_fn}
use base.Logic.{SProp, emp}
use base.Fml.{Fml, ftrue, fsep, fhide, flft}
use types.Kit.{‵, raw, ◌⊛◌, given, ◌$◌, ◌∵◌, !, qed, by, move, keep, drop, split, fsplit, fjoin, learn, use1, use2, rewrite, feq_i}
use types.Run.{of_opd, unit_lit, returns, enter}
use types.ByLocal.{alloc_all, pass_all, free_all, look_at, sets}
use contract.Monad.{fact, fact_i}
use contract.Running.{tables}
use denote.Builtin.{RefOf}
use denote.Exit.{yes}
use denote.Memory.{hidden_shr}
use denote.Opens.{unhide}
use denote.RattleType.{RattleType, owns}
use denote.Ref.{shr_vals, shr_Tells}
use denote.Signature.{types_at, plain}
use denote.Steps.{nothing}
use denote.Struct.Lending.{lent_out}
use denote.Param.{param, layouts}
use denote.Triple.Walked.{Stays, stay_dropped, walk_of, Goes-dropped}
use Rattle.std.specs.contracts.marker.PhantomData as marker
use Rattle.lvish_history.specs.Logs.{seen_owns}
use Rattle.lvish_history.specs.contracts.log.Seen as Seen
use Rattle.lvish_history.specs.contracts.log.Seen.compare.{ended, clauses}
use Rattle.lvish_history.specs.contracts.log.Seen.compare.Key.{name as #self}
use Rattle.lvish_history.proofs.Logs.{Token, Above, met, ends}
use Rattle.lvish_history.proofs.log.Seen.compare.Statement.{statement}
use Rattle.lvish_history.proofs.log.Seen.compare.Code as code

pub compare_spec : {M : Type 1} → statement M
compare_spec 𝓤 𝓛 𝓜 𝓡 wired V _ =
    let 𝓣 = tables 𝓤 𝓛.H 𝓜 𝓡 𝓡.env in
    let V' : RattleType = param 0 V in
    let En = ended V in
    let inst = layouts (a_type ∷ []) (V, tt) in
    let fn = inst_fn inst code.function in
    let c = clauses V 𝓛 𝓜.mem 𝓡.returns in
    let Row : RattleType = Seen.the_row V' in
    let hs : Stays En.signature.params En.kept = (stay_dropped (RefOf (0 ∷ []) tt (plain (λ _. Row)) (λ _. tt)) yes, (stay_dropped (RefOf (1 ∷ []) tt (plain (λ _. Row)) (λ _. tt)) yes, tt)) in
    proved 𝓛 En hs c 𝓜 𝓡 (Goes-dropped 𝓛 3 (RefOf (0 ∷ []) tt (plain (λ _. Row)) (λ _. tt)) yes (λ κs x f. refl), (Goes-dropped 𝓛 3 (RefOf (1 ∷ []) tt (plain (λ _. Row)) (λ _. tt)) yes (λ κs x f. refl), tt)) (#self inst) fn (code.unfolded 𝓤 𝓛.H 𝓜 𝓡 wired (V, tt))
    (λ κs. (shr_vals, (shr_vals, tt))) (λ κs. (shr_Tells (named 0) κs.0 Row, (shr_Tells (named 1) κs.1.0 Row, tt))) (λ κs qs bounds a gh are.
    let me = a.0.now in
    let other = a.1.0.now in
    let b : ℕ = a.0.ref_ptr.0 in
    let o : ℕ = a.0.ref_ptr.1 in
    let b' : ℕ = a.1.0.ref_ptr.0 in
    let o' : ℕ = a.1.0.ref_ptr.1 in
    let y : (walk_of 𝓛 En hs c).Ghost = ((κs, qs, bounds, a, (vptr b o ∷ [], (vptr b' o' ∷ [], tt))), gh) in
    let Post : Val → SProp 𝓤 = (walk_of 𝓛 En hs c).post y in
    let toks : Fml = fsep (flft κs.0 qs.0) (fsep (flft κs.1.0 qs.1.0) (fsep (flft κs.1.1.0 qs.1.1.0) ftrue)) in
    qed 𝓛 ((‵ toks ⊛ ‵ (owns (types_at En.signature.params κs) a y.0.4)) ∷ raw (fact 𝓤 _) ∷ given (me.book ≡ other.book) (‵ ftrue) ∷ []) ∵ keep ! (2 ∷ 0 ∷ []) $ learn ! (λ asked. drop ! $ split ! $
    move ! (1 ∷ []) $ fsplit ! $ fsplit ! $ move ! (2 ∷ []) $ fsplit ! $ fsplit ! $ keep ! (4 ∷ 1 ∷ 5 ∷ []) $
    enter ! 𝓣.C 𝓣.Λ fn (vptr b o ∷ vptr b' o' ∷ []) Post $ alloc_all ! (λ l. pass_all ! refl ((tt, tt), ((tt, tt), tt)) $
    use1 𝓛 (‵ (hidden_shr (Token V') κs.0 (record {}, tt) b o) ⊛ ‵ (fhide (seen_owns V'.coded.code me.book me.values)))
    (lent_out 𝓛 (Seen.struct V') (Seen.the_codes V.Denot V'.coded (marker.the_row V').coded) (Seen.the_heap V') (Seen.the_lent V') κs.0 me b o) $ split ! $ drop ! $ unhide ! $ move ! (1 ∷ []) $
    use1 𝓛 (‵ (hidden_shr (Token V') κs.1.0 (record {}, tt) b' o') ⊛ ‵ (fhide (seen_owns V'.coded.code other.book other.values)))
    (lent_out 𝓛 (Seen.struct V') (Seen.the_codes V.Denot V'.coded (marker.the_row V').coded) (Seen.the_heap V') (Seen.the_lent V') κs.1.0 other b' o') $ split ! $ drop ! $ unhide ! $ move ! (1 ∷ []) $
    rewrite ! 0 (λ (z : ℕ). ‵ (seen_owns V'.coded.code z me.values)) asked refl $
    use2 𝓛 (given (Above me.values other.values) (‵ ftrue)) (met 𝓛 V'.coded other.book me.values other.values) $ learn ! (λ so. drop ! $
    sets ! (of_opd ! (unit_lit !)) refl (tt, tt) $ feq_i ! (List Val) (vunit ∷ []) (vunit ∷ []) refl $
    nothing ! $ nothing ! $ fjoin ! $ nothing ! $ fjoin ! $
    returns ! (look_at ! 0 refl) $ free_all ! refl $ keep ! (2 ∷ 0 ∷ 1 ∷ []) $
    by ! (ends 𝓛 En hs c y vunit tt (tt, (tt, tt)) (tt, (tt, tt)) (fact_i 𝓤 _ (emp 𝓤) so))))))
