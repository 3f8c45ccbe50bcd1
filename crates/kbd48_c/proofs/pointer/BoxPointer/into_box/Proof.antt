-- `into_box`: what the pointer owns is what the call asks for.
use Rattle.std.proofs.Common.{◌≡◌, List, [], ◌∷◌, refl, sym, ap, subst}
use mir.Syntax.{a_type, dcons, dnil}
use mir.Val.{Val, vptr}
use mir.MapTy.{inst_fn}
use base.Logic.{SProp, emp, id⊢}
use base.Fml.{ftrue, flft}
use prog.Wp.{WpFn}
use types.Kit.{‵, raw, ◌⊛◌, some, later, at_ret, ◌$◌, ◌∵◌, !, qed, done, move, keep, drop, split, split3}
use types.Kit.{join, fsplit, fjoin, fjoin3, pick, suffices, use0, use1, await, rewrite, feq_i}
use types.Run.{stop, fld, of_opd, no_more, and_then, first, blocks, exec, returns, enter}
use types.ByLocal.{alloc_all, pass_all, free_all, look_at, get, get_in, sets, lands_last, env}
use types.Part.{sub, whole}
use contract.Monad.{fact, fact_i}
use contract.BorrowLft.{◌⊑◌}
use contract.Running.{tables}
use denote.Exit.{no}
use denote.RattleType.{RattleType, owns}
use denote.Signature.{types_at, plain}
use denote.RawPtr.{block_ptr}
use denote.Steps.{nothing, only, heard}
use denote.Param.{bounded}
use denote.Triple.Clauses.{Lasts, lasts}
use denote.Triple.Spec.{triple_of}
use denote.Triple.Call.{calls_at_last}
use denote.Triple.Walked.{Stays, says, stay_dropped, walk_of, ends_at}
use Rattle.core.proofs.alloc.Calls.{Goes-blank}
use Rattle.core.proofs.alloc.Shapes.{after}
use Rattle.core.proofs.atomic.Steps.{fm}
use Rattle.core.proofs.cell.Inside.{Good}
use Rattle.std_alloc.proofs.BoxSteps.Form as box
use Rattle.std_alloc.proofs.BoxSteps.Steps.{box_out, box_in}
use Rattle.std.proofs.raw_atomic.Walks.{proved_at}
use Rattle.std_alloc.specs.contracts.boxed.Box.from_raw as boxing
use Rattle.std_alloc.proofs.boxed.Box.from_raw.Met.{met}
use Rattle.kbd48_c.proofs.Pointing.{Pointing, at_word, to_box}
use Rattle.kbd48_c.specs.contracts.pointer.BoxPointer.into_box as f
use Rattle.kbd48_c.proofs.pointer.BoxPointer.into_box.Statement.{statement}
use Rattle.kbd48_c.proofs.pointer.BoxPointer.into_box.Code as code

pub into_box_spec : {M : Type 1} → statement M
into_box_spec 𝓤 𝓛 𝓜 𝓡 wired T A LT LA g d dx dd heap glue glued =
    let E : box.Bx = record { row = T; laws = LT; al = record { row = A; laws = LA; g = g; d = d; drops = dd } } in
    let 𝓣 = tables 𝓤 𝓛.H 𝓜 𝓡 𝓡.env in
    let given = bounded (a_type ∷ a_type ∷ []) (T, (A, tt)) (dcons d (dcons dx (dcons dd dnil))) in
    let fn = inst_fn given code.function in
    let en = f.ended T A g d dx dd in
    let cl = f.clauses T A g d dx dd 𝓛 𝓜.mem 𝓡.returns in
    let stays : Stays en.signature.params en.kept = (stay_dropped (plain (λ _. Pointing E)) no, tt) in
    let Boxing = triple_of 𝓛 (boxing.signature T A g d dd) (boxing.spec T A g d dd 𝓛 𝓜.mem 𝓡.returns) in
    let B : RattleType = box.B E in
    proved_at 𝓛 en stays cl 𝓜 𝓡 (Goes-blank 𝓛 2 (plain (λ _. Pointing E)) no (λ κs x w. tt), tt)
    (f.Key.name given) fn (code.unfolded 𝓤 𝓛.H 𝓜 𝓡 wired (T, (A, tt)) d dx dd) (λ z are.
    let κs = z.0.0 in let qs = z.0.1 in let v = z.0.3.0 in let a = v.alloc in
    let was : box.D E = record { ptr = v.at; alloc = a; value = v.value } in
    let Post : Val → SProp 𝓤 = (walk_of 𝓛 en stays cl).post z in
    let Run : List Val → SProp 𝓤 = λ us. WpFn 𝓤 𝓛.H 𝓣.C 𝓣.Λ fn us Post in
    let tokens = ‵ (flft κs.0 qs.0) ⊛ ‵ (flft κs.1.0 qs.1.0) ⊛ ‵ ftrue in
    let in_T = κs.0 ⊑ T.lives in let in_A = κs.1.0 ⊑ A.lives in
    qed 𝓛 ((tokens ⊛ ‵ (owns (types_at en.signature.params κs) z.0.3 z.0.4)) ∷ (raw (fact 𝓤 in_T) ⊛ raw (fact 𝓤 in_A) ⊛ ‵ ftrue) ∷ []) ∵
    move ! (1 ∷ []) $ split3 ! $ heard ! in_T (λ T_lives. heard ! in_A (λ A_lives. drop ! $
    split ! $ move ! (1 ∷ []) $ fsplit ! $ to_box E ! was z.0.4.0 $ box_out E ! was z.0.4.0 (λ b o h at ws fits.
    let w = box.word E h b o in
    let good = box.box_typed E h b o fits in
    let y : Boxing.Ghost = ((κs, qs, tt, (a, (block_ptr b o, tt)), (h ∷ [], (vptr b o ∷ [], tt))), v.value) in
    -- [the value; the right to free; the handle; nothing; the tokens] becomes what the call asks for
    fjoin ! $ use0 𝓛 (raw (fact 𝓤 in_A)) (fact_i 𝓤 in_A (emp 𝓤) A_lives) $ join ! $
    use0 𝓛 (raw (fact 𝓤 in_T)) (fact_i 𝓤 in_T (emp 𝓤) T_lives) $ join ! $
    nothing ! $ feq_i ! (List Val) (vptr b o ∷ []) (vptr b o ∷ []) refl $ move ! (3 ∷ 0 ∷ 1 ∷ []) $ fjoin3 ! $
    move ! (3 ∷ 0 ∷ 1 ∷ []) $ join ! $ join ! $ use1 𝓛 (raw (Boxing.pre y)) (id⊢ 𝓤 _) $
    suffices ! (Run (w ∷ [])) (at_word 𝓤 Run z.0.4.0 w ws) $
    enter ! 𝓣.C 𝓣.Λ fn (w ∷ []) Post $ alloc_all ! (λ ls. pass_all ! refl (good, tt) $ let Ev = env fn.locals ls in
    sets ! (of_opd ! (get_in ! (fld ! refl (stop !)) (sub ! 0 refl (whole !)))) refl (tt, tt) $
    sets ! (of_opd ! (get_in ! (fld ! refl (stop !)) (sub ! 1 refl (whole !)))) refl fits $
    first ! $ blocks ! $ sets ! (of_opd ! (get ! refl)) refl fits $
    -- the call
    calls_at_last ! (fm 𝓛 𝓜 𝓡) Boxing (met 𝓤 𝓛 𝓜 𝓡 (code.calls-std_alloc::boxed::Box::from_raw 𝓡.env wired) T A LT LA g d dd heap glued) y
    (and_then ! (get ! refl) (and_then ! (get ! refl) (no_more !))) (λ u.
    use1 𝓛 (later (some (λ (r : B.Denot). (tokens ⊛ ‵ (B.own_val r (u ∷ []))) ⊛
    some (λ (left : Lasts (boxing.ended T A g d dd) κs y.0.3). ‵ (lasts (boxing.ended T A g d dd) κs y.0.3 left) ⊛
    (raw (fact 𝓤 (r.value ≡ v.value)) ⊛ raw (fact 𝓤 (r.alloc ≡ a))))))) (id⊢ 𝓤 _) $
    await ! tt $ pick ! (λ r. split ! $ move ! (1 ∷ []) $ pick ! (λ _. split3 ! $ drop ! $
    heard ! (r.value ≡ v.value) (λ same. drop ! $ split ! $ move ! (1 ∷ []) $
    -- the box's machine value again
    box_out E ! r (u ∷ []) (λ b' o' h' at' us fits'. box_in E ! r b' o' r.value at' refl $
    let good' : Good (box.box_ty E) u = subst (Good (box.box_ty E)) (sym (ap only us)) (box.box_typed E h' b' o' fits') in
    rewrite ! 0 (λ (xs : List Val). ‵ (B.own_val r xs)) (sym us) refl $
    lands_last ! refl good' $ exec ! 𝓣.C 𝓣.Λ Ev (after 3 fn.body) (at_ret Ev Post) $ sets ! (of_opd ! (get ! refl)) refl good' $
    returns ! (look_at ! 0 refl) $ free_all ! refl $ keep ! (0 ∷ 1 ∷ []) $
    suffices ! _ (ends_at 𝓛 en stays cl z u r ((tt, (tt, tt)), tt) (tt, tt)) $ says ! same $
    nothing ! $ nothing ! $ fjoin ! $ join ! $ move ! (1 ∷ 0 ∷ []) $ join ! $ done !))))))))))
