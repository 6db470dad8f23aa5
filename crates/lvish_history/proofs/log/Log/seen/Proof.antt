-- `seen` copies what each holder of a `&` to the log has.
use Rattle.std.proofs.Common.{ℕ, [], ◌∷◌, refl}
use Rattle.std.proofs.raw_atomic.Walks.{proved}
use mir.Syntax.{a_type, named}
use mir.Val.{Val, vptr}
use mir.MapTy.{inst_fn}
use base.Logic.{SProp, emp}
use base.Fml.{Fml, ftrue, fsep, fhide, flft}
use types.Kit.{‵, raw, ◌⊛◌, ◌$◌, ◌∵◌, !, qed, by, move, keep, drop, split, fsplit, fjoin, use0, use1}
use types.Run.{no_more, and_then, returns, enter}
use types.ByLocal.{alloc_all, pass_all, free_all, look_at, get, sets}
use types.Part.{agg}
use contract.Monad.{fact_i}
use contract.Running.{tables}
use denote.Builtin.{RefOf}
use denote.Exit.{yes}
use denote.Memory.{hidden_shr}
use denote.Opens.{unhide}
use denote.RattleType.{RattleType, owns}
use denote.Ref.{shr_vals, shr_Tells}
use denote.Signature.{types_at, plain}
use denote.Steps.{nothing}
use denote.Struct.Lending.{lent_out}
use denote.Param.{param, layouts}
use denote.Triple.Walked.{Stays, stay_dropped, walk_of, Goes-dropped}
use Rattle.std.specs.contracts.marker.PhantomData as marker
use Rattle.lvish_history.specs.Logs.{seen_owns}
use Rattle.lvish_history.specs.contracts.log.Log as Log
use Rattle.lvish_history.specs.contracts.log.Log.seen.{ended, clauses}
use Rattle.lvish_history.specs.contracts.log.Log.seen.Key.{name as #self}
use Rattle.lvish_history.proofs.Logs.{token, Token, token_made, ends}
use Rattle.lvish_history.proofs.log.Log.seen.Statement.{statement}
use Rattle.lvish_history.proofs.log.Log.seen.Code as code

pub seen_spec : {M : Type 1} → statement M
seen_spec 𝓤 𝓛 𝓜 𝓡 wired V _ =
    let 𝓣 = tables 𝓤 𝓛.H 𝓜 𝓡 𝓡.env in
    let V' : RattleType = param 0 V in
    let En = ended V in
    let inst = layouts (a_type ∷ []) (V, tt) in
    let fn = inst_fn inst code.function in
    let c = clauses V 𝓛 𝓜.mem 𝓡.returns in
    let Row : RattleType = Log.the_row V' in
    let hs : Stays En.signature.params En.kept = (stay_dropped (RefOf (0 ∷ []) tt (plain (λ _. Row)) (λ _. tt)) yes, tt) in
    proved 𝓛 En hs c 𝓜 𝓡 (Goes-dropped 𝓛 2 (RefOf (0 ∷ []) tt (plain (λ _. Row)) (λ _. tt)) yes (λ κs x f. refl), tt) (#self inst) fn (code.unfolded 𝓤 𝓛.H 𝓜 𝓡 wired (V, tt))
    (λ κs. (shr_vals, tt)) (λ κs. (shr_Tells (named 0) κs.0 Row, tt)) (λ κs qs bounds a gh are.
    let me = a.0.now in
    let b : ℕ = a.0.ref_ptr.0 in
    let o : ℕ = a.0.ref_ptr.1 in
    let y : (walk_of 𝓛 En hs c).Ghost = ((κs, qs, bounds, a, (vptr b o ∷ [], tt)), gh) in
    let Post : Val → SProp 𝓤 = (walk_of 𝓛 En hs c).post y in
    let toks : Fml = fsep (flft κs.0 qs.0) (fsep (flft κs.1.0 qs.1.0) ftrue) in
    qed 𝓛 ((‵ toks ⊛ ‵ (owns (types_at En.signature.params κs) a y.0.4)) ∷ raw ((c κs a).requires gh) ∷ []) ∵ keep ! (0 ∷ []) $ split ! $
    fsplit ! $ move ! (2 ∷ []) $ fsplit ! $ fsplit ! $ keep ! (1 ∷ 3 ∷ 4 ∷ []) $
    enter ! 𝓣.C 𝓣.Λ fn (vptr b o ∷ []) Post $ alloc_all ! (λ l. pass_all ! refl ((tt, tt), tt) $
    use1 𝓛 (‵ (hidden_shr (Token V') κs.0 (record {}, tt) b o) ⊛ ‵ (fhide (seen_owns V'.coded.code me.book me.values)))
    (lent_out 𝓛 (Log.struct V') (Log.the_codes V.Denot V'.coded (marker.the_row V').coded) (Log.the_heap V') (Log.the_lent V') κs.0 me b o) $ split ! $ drop ! $ unhide ! $
    use0 𝓛 (‵ ((Token V').own_val (record {}, tt) (token ∷ []))) (token_made V' 𝓛) $ fjoin ! $
    sets ! (agg ! (no_more !)) refl (tt, tt) $ sets ! (agg ! (and_then ! (get ! refl) (no_more !))) refl (tt, (tt, tt)) $
    move ! (1 ∷ 2 ∷ []) $ fjoin ! $ nothing ! $ nothing ! $ fjoin ! $
    returns ! (look_at ! 0 refl) $ free_all ! refl $ keep ! (1 ∷ 0 ∷ 2 ∷ []) $
    by ! (ends 𝓛 En hs c y token (record { marker = record {}; book = me.book; values = me.values }) (tt, tt) (tt, tt) (fact_i 𝓤 _ (emp 𝓤) (refl, refl)))))
