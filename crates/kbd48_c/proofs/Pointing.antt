-- A `BoxPointer` owns what its box owned, formula for formula, so the steps on a box serve for both. Assumes `Logic`.
use Rattle.std.proofs.Common.{◌≡◌, ℕ, List, [], ◌∷◌, ◌++◌, sym, ap, ◌∙◌, subst}
use seplogic.Ra.Ura.{Ura}
use mir.Val.{Val, vstruct, of_list}
use base.Logic.{SProp, ent, id⊢}
use types.Logic.{Logic}
use types.Kit.{Item, Goal, Step, step, ‵, use1, ◌$◌}
use denote.RattleType.{RattleType}
use denote.RawPtr.{Ptr, block_ptr, ptr_val}
use Rattle.std_alloc.proofs.BoxSteps.Form as box
use Rattle.kbd48_c.specs.contracts.pointer.BoxPointer as pointer

-- a run at the one machine value that the parameter is stored as
pub at_word : {M : Type 1} (𝓤 : Ura M) (Run : List Val → SProp 𝓤) (vs : List Val) (w : Val)
    → vs ≡ w ∷ [] → ent 𝓤 (Run (w ∷ [])) (Run (vs ++ []))
at_word 𝓤 Run vs w is = subst (λ (us : List Val). ent 𝓤 (Run (w ∷ [])) (Run (us ++ []))) (sym is) (id⊢ 𝓤 (Run (w ∷ [])))

module _ (E : box.Bx) where
  abbrev pub Pointing : RattleType
  Pointing = pointer.the_row (box.R E) (box.P E) E.al.g

  -- the same value, as the pointer has it
  abbrev pub pointed : box.D E → Pointing.Denot
  pointed b = record { at = b.ptr; alloc = b.alloc; value = b.value }

  -- the machine value of a pointer with a handle beside it
  pub beside : (p : Ptr) (b o : ℕ) (h : Val) (ps hs : List Val) → ps ≡ ptr_val p ∷ [] → p ≡ block_ptr b o → hs ≡ h ∷ []
      → vstruct (of_list (ps ++ (hs ++ []))) ≡ box.word E h b o
  beside p b o h ps hs is at has = λ i. vstruct (of_list ((is ∙ ap (λ (q : Ptr). ptr_val q ∷ []) at) i ++ (has i ++ [])))

  module _ {M : Type 1} {𝓤 : Ura M} {𝓛 : Logic 𝓤} {K : Type 0} {Γ : List (Item 𝓤)} {G : Goal 𝓤 𝓛.H} where
    -- what a box owns is what its pointer owns
    pub to_pointer : K
        → (b : box.D E) (vs : List Val) → Step K 𝓛 (‵ (Pointing.own_val (pointed b) vs) ∷ Γ) G (‵ ((box.B E).own_val b vs) ∷ Γ) G
    to_pointer t b vs = step (λ s. use1 𝓛 (‵ (Pointing.own_val (pointed b) vs)) (id⊢ 𝓤 _) $ s)

    -- what a box's pointer owns is what the box owns
    pub to_box : K → (b : box.D E) (vs : List Val) → Step K 𝓛 (‵ ((box.B E).own_val b vs) ∷ Γ) G (‵ (Pointing.own_val (pointed b) vs) ∷ Γ) G
    to_box t b vs = step (λ s. use1 𝓛 (‵ ((box.B E).own_val b vs)) (id⊢ 𝓤 _) $ s)
