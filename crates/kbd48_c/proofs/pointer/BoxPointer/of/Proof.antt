-- `of`: the call gives the pointer and the handle, with the block; they are put together as they were in the box.
use Rattle.std.proofs.Common.{◌≡◌, List, [], ◌∷◌, refl, ap, ◌∙◌}
use mir.Syntax.{a_type, dcons, dnil}
use mir.Raw.{raw as bare}
use mir.Val.{Val}
use mir.MapTy.{inst_fn}
use base.Logic.{SProp, never, id⊢, fst∗}
use base.Fml.{ftrue, flft}
use prog.Wp.{WpFn}
use types.Logic.{sem}
use types.Kit.{‵, raw, ◌⊛◌, some, later, ◌$◌, ◌∵◌, !, qed, done, move, keep, drop, split, split3}
use types.Kit.{join, fsplit, fjoin, fpick, pick, suffices, use1, await, rewrite, feq_l}
use types.Run.{stop, fld, of_opd, no_more, and_then, returns, enter}
use types.ByLocal.{alloc_all, pass_all, free_all, look_at, get, get_in, sets, lands_as}
use types.Part.{agg, sub, whole}
use contract.Monad.{fact}
use contract.Running.{tables}
use denote.Exit.{no}
use denote.RattleType.{owns}
use denote.Signature.{types_at, plain}
use denote.Builtin.{RawPtr}
use denote.RawPtr.{Ptr, block_ptr, null_ptr, in_a_block}
use denote.Steps.{nothing, only, heard}
use denote.Param.{layout, bounded}
use denote.Struct.Tuple.{Tuple}
use denote.Triple.Clauses.{Lasts, lasts}
use denote.Triple.Spec.{triple_of}
use denote.Triple.Call.{calls_at}
use denote.Triple.Walked.{Stays, says, stay_dropped, walk_of, ends_at}
use Rattle.core.proofs.alloc.Calls.{Goes-blank, handle_tells}
use Rattle.core.proofs.atomic.Steps.{fm}
use Rattle.std_alloc.specs.Box.Ownership.{box_owns}
use Rattle.std_alloc.proofs.BoxSteps.Form as box
use Rattle.std_alloc.proofs.BoxSteps.Steps.{box_out, box_in}
use Rattle.std.proofs.raw_atomic.Walks.{proved_at}
use Rattle.std_alloc.specs.contracts.boxed.Box.into_raw_with_allocator as parts
use Rattle.std_alloc.proofs.boxed.Box.into_raw_with_allocator.Met.{met}
use Rattle.kbd48_c.proofs.Pointing.{at_word, beside, to_pointer, pointed}
use Rattle.kbd48_c.specs.contracts.pointer.BoxPointer.of as f
use Rattle.kbd48_c.proofs.pointer.BoxPointer.of.Statement.{statement}
use Rattle.kbd48_c.proofs.pointer.BoxPointer.of.Code as code

pub of_spec : {M : Type 1} → statement M
of_spec 𝓤 𝓛 𝓜 𝓡 wired T A LT LA g d dx dd heap glue glued =
    let E : box.Bx = record { row = T; laws = LT; al = record { row = A; laws = LA; g = g; d = d; drops = dd } } in
    let 𝓣 = tables 𝓤 𝓛.H 𝓜 𝓡 𝓡.env in
    let given = bounded (a_type ∷ a_type ∷ []) (T, (A, tt)) (dcons d (dcons dx (dcons dd dnil))) in
    let fn = inst_fn given code.function in
    let en = f.ended T A g d dx dd in
    let cl = f.clauses T A g d dx dd 𝓛 𝓜.mem 𝓡.returns in
    let stays : Stays en.signature.params en.kept = (stay_dropped (plain (λ _. box.B E)) no, tt) in
    let Apart = triple_of 𝓛 (parts.signature T A g d dd dx) (parts.spec T A g d dd dx 𝓛 𝓜.mem 𝓡.returns) in
    let Pair = Tuple (RawPtr ∷ box.P E ∷ []) in
    let token = λ (a : A.Denot). g.dealloc_token a in
    proved_at 𝓛 en stays cl 𝓜 𝓡 (Goes-blank 𝓛 2 (plain (λ _. box.B E)) no (λ κs x w. tt), tt)
    (f.Key.name given) fn (code.unfolded 𝓤 𝓛.H 𝓜 𝓡 wired (T, (A, tt)) d dx dd) (λ z are.
    let κs = z.0.0 in let qs = z.0.1 in let v = z.0.3.0 in let a = v.alloc in
    let Post : Val → SProp 𝓤 = (walk_of 𝓛 en stays cl).post z in
    let Run : List Val → SProp 𝓤 = λ us. WpFn 𝓤 𝓛.H 𝓣.C 𝓣.Λ fn us Post in
    let tokens = ‵ (flft κs.0 qs.0) ⊛ ‵ (flft κs.1.0 qs.1.0) ⊛ ‵ ftrue in
    qed 𝓛 ((tokens ⊛ ‵ (owns (types_at en.signature.params κs) z.0.3 z.0.4)) ∷ raw ((cl κs z.0.3).requires z.1) ∷ []) ∵
    -- the box's machine value is its pointer and its handle
    split ! $ move ! (1 ∷ []) $ fsplit ! $ box_out E ! v z.0.4.0 (λ b o h at ws fits. box_in E ! v b o v.value at refl $
    let w = box.word E h b o in
    let good = box.box_typed E h b o fits in
    let y : Apart.Ghost = ((κs, qs, tt, (v, tt), (w ∷ [], tt)), tt) in
    fjoin ! $ move ! (1 ∷ 0 ∷ []) $ join ! $ join ! $ use1 𝓛 (raw (Apart.pre y)) (id⊢ 𝓤 _) $
    suffices ! (Run (w ∷ [])) (at_word 𝓤 Run z.0.4.0 w ws) $
    enter ! 𝓣.C 𝓣.Λ fn (w ∷ []) Post $ alloc_all ! (λ ls. pass_all ! refl (good, tt) $ sets ! (of_opd ! (get ! refl)) refl good $
    -- the call
    calls_at ! (fm 𝓛 𝓜 𝓡) Apart
    (met 𝓤 𝓛 𝓜 𝓡 (code.calls-std_alloc::boxed::Box::into_raw_with_allocator 𝓡.env wired) T A LT LA g d dd dx heap glued glue) y
    (and_then ! (get ! refl) (no_more !)) (λ u.
    use1 𝓛 (later (some (λ (r : Ptr × A.Denot). (tokens ⊛ ‵ (Pair.own_val r (u ∷ []))) ⊛
    some (λ (left : Lasts (parts.ended T A g d dd dx) κs y.0.3). ‵ (lasts (parts.ended T A g d dd dx) κs y.0.3 left) ⊛
    (raw (fact 𝓤 (r.1 ≡ a)) ⊛ ‵ (box_owns (token a) (box.R E) r.0 v.value)))))) (id⊢ 𝓤 _) $
    await ! tt $ pick ! (λ r. split ! $ move ! (1 ∷ []) $ pick ! (λ _. split3 ! $ drop ! $ heard ! (r.1 ≡ a) (λ same.
    in_a_block ! r.0 (λ p. box_owns (token a) (box.R E) p v.value) (fst∗ 𝓤 (never 𝓤) (sem 𝓛 (token a (bare (layout T)) null_ptr)))
    (λ b' o' at'. fsplit ! $
    -- [the value; the right to free; the tokens with the pair], and then the pair's own parts
    move ! (2 ∷ []) $ split ! $ move ! (1 ∷ []) $ fpick ! (λ vss. fsplit ! $ feq_l ! (λ pair. fsplit ! $ feq_l ! (λ is_ptr. fsplit ! $
    rewrite ! 0 (λ (s : A.Denot). ‵ (A.own_val s vss.1.0)) same refl $ handle_tells E.al ! a vss.1.0 (λ h' is_handle fits'.
    let w' = box.word E h' b' o' in
    let good' = box.box_typed E h' b' o' fits' in
    let d' : box.D E = record { ptr = block_ptr b' o'; alloc = a; value = v.value } in
    lands_as ! (ap only pair ∙ beside E r.0 b' o' h' vss.0 vss.1.0 is_ptr at' is_handle) refl good' $
    sets ! (of_opd ! (get_in ! (fld ! refl (stop !)) (sub ! 0 refl (whole !)))) refl (tt, tt) $
    sets ! (of_opd ! (get_in ! (fld ! refl (stop !)) (sub ! 1 refl (whole !)))) refl fits' $
    sets ! (of_opd ! (get ! refl)) refl fits' $
    sets ! (agg ! (and_then ! (get ! refl) (and_then ! (get ! refl) (no_more !)))) refl good' $
    -- [the handle; nothing; the tokens; the value; the right to free]
    returns ! (look_at ! 0 refl) $ free_all ! refl $ keep ! (3 ∷ 4 ∷ 0 ∷ 2 ∷ []) $
    box_in E ! d' b' o' v.value refl refl $ to_pointer E ! d' (w' ∷ []) $
    suffices ! _ (ends_at 𝓛 en stays cl z w' (pointed E d') ((tt, (tt, tt)), tt) (tt, tt)) $ says ! refl $
    nothing ! $ nothing ! $ fjoin ! $ join ! $ move ! (1 ∷ 0 ∷ []) $ join ! $ done !))))))))))))
