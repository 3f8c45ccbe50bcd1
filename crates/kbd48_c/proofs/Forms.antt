-- A `Handle` as its pointer, its allocator and what it owns. Assumes `Logic`.
use Rattle.std.proofs.Common.{◌≡◌, ℕ, List, [], ◌∷◌, ◌++◌, refl, subst, lit<}
use seplogic.Ra.Ura.{Ura}
use mir.Syntax.{impl, tnil, dnil}
use mir.Raw.{raw as bare}
use mir.Val.{Val, vnull, vstruct, vcons, vnil, of_list, has_ty}
use base.Fraction.{full_share}
use base.Logic.{via, snd∗, never_e, guard_i}
use base.Fml.{ftrue}
use types.Logic.{Logic, sem}
use types.Kit.{Item, Goal, Seq, Step, step, ‵, given, ◌$◌, move, drop, fsplit, fjoin, fpick, fpack, feq_i, feq_l, use1, learn}
use contract.Monad.{fact_use}
use denote.RattleType.{RattleType, Valss}
use denote.Builtin.{RawPtr}
use denote.Memory.{lone}
use denote.RawPtr.{Ptr, block_ptr, null_ptr, ptr_val, lies_at, Testable}
use denote.Steps.{nothing}
use denote.Param.{layout}
use denote.Param.Laws.{Laws}
use denote.Struct.Struct.{within}
use denote.Struct.Owning.{shape}
use Rattle.core.proofs.alloc.Calls.{Al, handle_tells}
use Rattle.core.proofs.cell.Inside.{Good}
use Rattle.core.specs.declared.option.Option.{Option}
use Rattle.core.specs.declared.option.Option.TheVariants.{None, Some}
use Rattle.std_alloc.proofs.ResultValues.{and_tt}
use Rattle.std_alloc.specs.Box.Ownership.{box_owns}
use Rattle.std.specs.declared.alloc.Global.{Global}
use Rattle.std.specs.contracts.alloc.Global as heap
use Rattle.std.proofs.alloc.Global.TheLaws as heap_laws
use Rattle.std.specs.contracts.impls.GlobalAllocator.TheImpl.{ghosts}
use Rattle.std.proofs.GlobalToken.{dealloc_token-Testable}
use Rattle.std_alloc.proofs.BoxSteps.Form as box
use Rattle.live_board.specs.declared.parts.Parts.{Parts as Keyboard}
use Rattle.live_board.specs.contracts.keyboard.Keyboard as keyboard
use Rattle.live_board.proofs.keyboard.Keyboard.TheLaws as keyboard_laws
use Rattle.kbd48_c.specs.contracts.pointer.BoxPointer as pointer
use Rattle.kbd48_c.specs.contracts.handle.Handle as handle
use Rattle.kbd48_c.specs.Held.{held_at}

abbrev pub R : RattleType
R = keyboard.the_row

abbrev pub Z : RattleType
Z = heap.the_row

abbrev pub LZ : Laws Z
LZ = heap_laws.the_row_laws

abbrev pub Lo : RattleType
Lo = pointer.the_row R Z ghosts

abbrev pub Ha : RattleType
Ha = handle.the_row

-- two words, as a struct of two fields has them
abbrev pub both : Val → Val → Val
both v w = vstruct (vcons v (vcons w vnil))

abbrev pub al : Al
al = record { row = Z; laws = LZ; g = ghosts; d = impl [] tnil dnil; drops = impl [] tnil dnil }

-- a box of a keyboard, on the heap of C
abbrev pub E : box.Bx
E = record { row = R; laws = keyboard_laws.the_row_laws; al = al }

-- a handle without a keyboard is a right value, whatever its heap is
pub null_good : (h : Val) → Good (layout Z) h → Good (layout Ha) (both vnull h)
null_good h fits = (and_tt (has_ty (layout Z) h) fits.0, (record { fits = lit< tt }, (fits.1, tt)))

module _ {M : Type 1} {𝓤 : Ura M} {𝓛 : Logic 𝓤} {K : Type 0} {Γ : List (Item 𝓤)} {G : Goal 𝓤 𝓛.H} where
  -- a box's keyboard, with its pointer and its heap, is a handle
  pub handle_in : K → (p : Ptr) (h : Val) (a : Global) (m : Option Keyboard)
      → Step K 𝓛 (‵ (Ha.own_val (record { at = p; alloc = a; keyboard = m }) (both (ptr_val p) h ∷ [])) ∷ Γ)
      G (‵ (held_at a p m) ∷ ‵ (Z.own_val a (h ∷ [])) ∷ Γ) G
  handle_in t p h a m = step (λ s. let v : Val = both (ptr_val p) h in
      nothing t $ move t (2 ∷ 0 ∷ []) $ fjoin t $ feq_i t (List Val) (ptr_val p ∷ []) (ptr_val p ∷ []) refl $ fjoin t $
      feq_i t (List Val) (v ∷ []) (v ∷ []) refl $ fjoin t $
      fpack t (Valss (RawPtr ∷ (heap.the_field).row ∷ [])) (within (shape handle.the_type) (p, ((heap.the_field).into a, tt)) (v ∷ []))
      (ptr_val p ∷ [], (h ∷ [], tt)) $ fjoin t $ s)

  -- a handle is a box's keyboard, with its pointer and its heap
  pub handle_out : K → (d : Ha.Denot) (vs : List Val)
      → ((h : Val) → vs ≡ both (ptr_val d.at) h ∷ []
      → Good (layout Z) h → Seq K 𝓛 (‵ (held_at d.alloc d.at d.keyboard) ∷ ‵ (Z.own_val d.alloc (h ∷ [])) ∷ Γ) G)
      → Seq K 𝓛 (‵ (Ha.own_val d vs) ∷ Γ) G
  handle_out t d vs k =
      fsplit t $ fpick t (λ vss. fsplit t $ feq_l t (λ ev. fsplit t $
      feq_l t (λ ep. fsplit t $ handle_tells al t d.alloc vss.1.0 (λ h ea fits. move t (1 ∷ []) $ drop t $ move t (1 ∷ []) $ k h
      (subst (λ (ws : List Val). vs ≡ vstruct (of_list (ptr_val d.at ∷ (ws ++ []))) ∷ []) ea
      (subst (λ (ps : List Val). vs ≡ vstruct (of_list (ps ++ (vss.1.0 ++ []))) ∷ []) ep ev)) fits))))

  -- the two cases of what a handle owns
  pub held_cases : K → (a : Global) (p : Ptr) (m : Option Keyboard)
      → (p ≡ null_ptr → m ≡ None → Seq K 𝓛 Γ G)
      → ((b o : ℕ) (s : Keyboard) → p ≡ block_ptr b o
      → m ≡ Some s → Testable (block_ptr b o) → Seq K 𝓛 (‵ (box_owns (ghosts.dealloc_token a) R (block_ptr b o) s) ∷ Γ) G)
      → Seq K 𝓛 (‵ (held_at a p m) ∷ Γ) G
  held_cases t a null_ptr None none one = drop t $ none refl refl
  held_cases t a null_ptr (Some s) none one = use1 𝓛 (given ⊥ (‵ ftrue)) (never_e 𝓤 _) $ learn t (λ x. absurd x)
  held_cases t a (block_ptr b o) None none one = use1 𝓛 (given ⊥ (‵ ftrue)) (never_e 𝓤 _) $ learn t (λ x. absurd x)
  held_cases t a (block_ptr b o) (Some s) none one =
      let p : Ptr = block_ptr b o in let B = sem 𝓛 (box_owns (ghosts.dealloc_token a) R p s) in
      use1 𝓛 (given (Testable p) (‵ (box_owns (ghosts.dealloc_token a) R p s)))
      (fact_use 𝓤 (Testable p)
      (via 𝓤 _ (snd∗ 𝓤 (sem 𝓛 (lies_at R full_share p s)) (sem 𝓛 (ghosts.dealloc_token a (bare (lone R.mir)) p)))
      (dealloc_token-Testable 𝓛 a (bare (lone R.mir)) p)) (guard_i 𝓤 (Testable p) B)) $
      learn t (λ e. one b o s refl refl e)
