-- `keyboard` lends the keyboard where it is, and the pointer follows it.
use Rattle.std.proofs.Common.{◌≡◌, ℕ, List, [], ◌∷◌, refl, sym, ap, ◌∙◌}
use seplogic.Ra.Ura.{Ura}
use base.Fraction.{full_share}
use base.Fml.{GName, Fml, ftrue, fsep, flft}
use base.Logic.{ent, sep, id⊢}
use mir.Syntax.{named}
use mir.Val.{Val, vptr}
use contract.Running.{tables}
use types.Logic.{Logic, sem}
use types.Kit.{‵, raw, ◌⊛◌, some, later, at_ret, ◌$◌, ◌∵◌, !, qed, done, move, keep, use1, split, join, fsplit, fsplit3, fjoin, fpack, pick, await, rewrite, suffices, frame, group}
use types.Part.{whole, sub, look_in}
use types.Run.{enter, of_opd, addr, load, stop, fld, first, blocks, exec, returns}
use types.ByLocal.{alloc_all, pass_all, free_all, look_at, get, through, sets, sets_last, env}
use denote.Exit.{no}
use denote.Follow.{follows, Part, lends_Part}
use denote.Laws.{shows}
use denote.Memory.{part_at, part_of, mem, cell_at}
use denote.RattleType.{RattleType}
use denote.RawPtr.{Ptr, block_ptr, in_a_block}
use denote.Ref.{MutBor, MutRef, mut_vals, mut_Tells}
use denote.Signature.{plain, mut_ref_to}
use denote.Steps.{nothing, opens, peeks}
use denote.Struct.Owning.{shape}
use denote.Struct.Struct.{Struct}
use denote.Triple.Walked.{Stays, walk_of, says, stay_dropped, Goes-spent_ref, ends_at}
use Rattle.std.proofs.raw_atomic.Walks.{proved}
use Rattle.kbd_half.specs.declared.keyboard.KbdHalf.{KbdHalf}
use Rattle.kbd_half.specs.contracts.keyboard.KbdHalf as keyboard
use Rattle.kbd48_halves.specs.Lends.{with_keyboard}
use Rattle.kbd48_halves.specs.Placed.{keyboard_lies}
use Rattle.kbd48_halves.specs.declared.keyboard_at.KeyboardAt.{KeyboardAt}
use Rattle.kbd48_halves.specs.contracts.keyboard_at.KeyboardAt as place
use Rattle.kbd48_halves.specs.contracts.keyboard_at.KeyboardAt.keyboard as f
use Rattle.kbd48_halves.proofs.keyboard_at.KeyboardAt.TheLaws.{lowers}
use Rattle.kbd48_halves.proofs.keyboard_at.KeyboardAt.keyboard.Statement.{statement}
use Rattle.kbd48_halves.proofs.keyboard_at.KeyboardAt.keyboard.Code as code

abbrev P : RattleType
P = place.the_row

abbrev R : RattleType
R = keyboard.the_row

-- what the field owns beside the keyboard
abbrev fields : KeyboardAt → List Val → Fml
fields h us = (Struct (shape place.the_type)).own_val (h.at, tt) us

abbrev stayed : Stays f.ended.signature.params f.ended.kept
stayed = (stay_dropped (mut_ref_to (0 ∷ []) tt (plain (λ _. P))) no, tt)

module _ {M : Type 1} {𝓤 : Ura M} (𝓛 : Logic 𝓤) (h : KeyboardAt) (us : List Val) (b o : ℕ) where
  -- all but the keyboard
  abbrev Rest : Fml
  Rest = fsep (fields h us) (cell_at full_share P.mir us b o)

  back : (b' o' : ℕ) → h.at ≡ block_ptr b' o' → (w : KbdHalf)
      → ent 𝓤 (sep 𝓤 (sem 𝓛 ((mem R).own_at w b' o')) (sem 𝓛 Rest)) (sem 𝓛 ((mem P).own_at (with_keyboard h w) b o))
  unfolding part_of
  back b' o' e w =
      qed 𝓛 (‵ (part_at R full_share w b' o') ∷ ‵ Rest ∷ []) ∵
      rewrite ! 0 (λ (p : Ptr). ‵ (keyboard_lies p w)) (sym e) refl $ move ! (1 ∷ []) $ fsplit ! $
      move ! (0 ∷ 2 ∷ []) $ fjoin ! $ move ! (1 ∷ 0 ∷ []) $ fjoin ! $
      fpack ! (List Val) (λ ws. fsep (cell_at full_share P.mir ws b o) (P.own_val (with_keyboard h w) ws)) us $ done !

pub keyboard_spec : {M : Type 1} → statement M
keyboard_spec 𝓤 𝓛 𝓜 𝓡 wired =
    let c = f.clauses 𝓛 𝓜.mem 𝓡.returns in let W = walk_of 𝓛 f.ended stayed c in let 𝓣 = tables 𝓤 𝓛.H 𝓜 𝓡 𝓡.env in
    proved 𝓛 f.ended stayed c 𝓜 𝓡 (Goes-spent_ref 𝓛 1 (0 ∷ []) tt (plain (λ _. P)), tt)
    f.Key.name code.function (code.unfolded 𝓤 𝓛.H 𝓜 𝓡 wired)
    (λ κs. (mut_vals, tt)) (λ κs. (mut_Tells (named 0) κs.0 P, tt)) (λ κs qs bounds a _ are.
    let κ = κs.0 in let q = qs.0 in let b = a.0.ref_ptr.0 in let o = a.0.ref_ptr.1 in let γ = a.0.ghost_name in
    let h = a.0.now in let vs = mut_vals a.0 in let u = P.coded.code h in
    let y : W.Ghost = ((κs, qs, bounds, a, (vs, tt)), tt) in
    qed 𝓛 (((‵ (flft κ q) ⊛ ‵ ftrue) ⊛ ‵ ((MutRef (named 0) κ P).own_val a.0 vs) ⊛ ‵ ftrue) ∷ ‵ ftrue ∷ []) ∵
    split ! $ split ! $ move ! (2 ∷ []) $ split ! $ keep ! (0 ∷ 2 ∷ []) $
    enter ! _ _ _ _ _ $ alloc_all ! (λ l. pass_all ! refl ((tt, tt), tt) $
    fsplit3 ! $ move ! (1 ∷ 2 ∷ 3 ∷ []) $ opens ! tt P b o (λ us.
    move ! (1 ∷ []) $ peeks ! P _ (shows 𝓛 P) h us (λ is. fsplit ! $ move ! (1 ∷ []) $
    in_a_block ! h.at (λ p. keyboard_lies p h.keyboard) (id⊢ 𝓤 _) (λ b' o' e.
    let word = lowers.val_is h us is ∙ ap (λ (p : Ptr). lowers.lowered (record h { at = p }) ∷ []) e in
    let Cell = λ (ws : List Val). ‵ (cell_at full_share P.mir ws b o) in
    rewrite ! 2 Cell word refl $
    -- [the keyboard; what the field owns; the pointer's cell; the open borrow, in three entries]
    first ! $ blocks ! $
    sets ! (of_opd ! (load ! (through ! refl (fld ! refl (stop !))) (look_in ! 2 (sub ! 0 refl (whole !))))) refl (tt, tt) $
    sets ! (of_opd ! (get ! refl)) refl (tt, tt) $
    sets_last ! (addr ! (through ! refl (stop !))) refl (tt, tt) $
    exec ! 𝓣.C 𝓣.Λ (env code.Mir.locals l) code.Mir.t-2 (at_ret _ (W.post y)) $
    sets ! (of_opd ! (get ! refl)) refl (tt, tt) $
    rewrite ! 2 Cell (sym word) refl $ move ! (1 ∷ 2 ∷ []) $ fjoin ! $ move ! (2 ∷ 3 ∷ 4 ∷ 1 ∷ 0 ∷ []) $ group ! 5 $
    let rest = sem 𝓛 (Rest 𝓛 h us b o) in let way = back 𝓛 h us b o b' o' e in
    use1 𝓛 (later (some (λ (δ : GName). raw (Part 𝓛 P R (with_keyboard h) (named 0) κ q b o b' o' γ rest way h.keyboard δ))))
    (lends_Part 𝓛 P R (with_keyboard h) (named 0) κ q b o b' o' γ rest way u u h.keyboard) $ await ! tt $ pick ! (λ δ.
    let lent : MutBor KbdHalf = record { ref_ptr = (b', o'); ghost_name = δ; now = h.keyboard } in
    returns ! (look_at ! 0 refl) $ free_all ! refl $ keep ! (0 ∷ []) $
    use1 𝓛 (‵ ((MutRef (named 0) κ R).own_val lent (vptr b' o' ∷ [])) ⊛ ‵ (flft κ q) ⊛ ‵ (follows P R γ δ (with_keyboard h))) (id⊢ 𝓤 _) $
    split ! $ move ! (1 ∷ []) $ split ! $ move ! (2 ∷ 0 ∷ 1 ∷ []) $
    -- [the lent keyboard; the token; the pointer follows]
    suffices ! _ (ends_at 𝓛 f.ended stayed c y (vptr b' o') lent (tt, tt) (tt, tt)) $
    nothing ! $ nothing ! $ fjoin ! $ join ! $ nothing ! $ move ! (2 ∷ 0 ∷ []) $ join ! $ join ! $ frame ! $ says ! refl $ done !))))))
