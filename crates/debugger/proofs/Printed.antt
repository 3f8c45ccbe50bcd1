-- What a line prints of the state.
use Rattle.std.proofs.Common.{◌≡◌, ℕ, List, Ok, Err, IfOk, ap, sym, ◌∙◌}
use Rattle.std.specs.declared.result.Result.{Result}
use Rattle.joint_run.specs.declared.machine.Machine.{Machine}
use Rattle.joint_feed.specs.Stories.{state_at}
use Rattle.mcs48_core.specs.Cpu.{Cpu}
use Rattle.mcs48_core.specs.StateText.{state_text_of}
use Rattle.debugger.specs.Advance.{IsStateAt}
use Rattle.debugger.specs.Sessions.{Sitting}
use Rattle.debugger.specs.Effects.{shown}

-- the state's text, and a place of its memory
pub shown_so : (s : Sitting) (m : Machine)
    → IsStateAt s m → state_text_of m.mcu m.steps m.cycle ≡ shown s.steps (state_at s.debuggee.story s.steps)
shown_so s m h =
    ap (λ (c : Cpu). state_text_of c m.steps m.cycle) h.mcu ∙ ap (λ (n : ℕ). state_text_of h.world.cpu n m.cycle) h.steps
    ∙ ap (λ (n : ℕ). state_text_of h.world.cpu s.steps n) h.cycle ∙ sym (ap (shown s.steps) h.state)

-- the same of what the machine's calls answer
pub shown_as : (s : Sitting) (m : Machine) (cpu : Cpu) (steps cycle : ℕ) → IsStateAt s m → cpu ≡ m.mcu → steps ≡ m.steps → cycle ≡ m.cycle
    → state_text_of cpu steps cycle ≡ shown s.steps (state_at s.debuggee.story s.steps)
shown_as s m cpu steps cycle h e f g =
    ap (λ (c : Cpu). state_text_of c steps cycle) e ∙ ap (λ (n : ℕ). state_text_of m.mcu n cycle) f
    ∙ ap (λ (n : ℕ). state_text_of m.mcu m.steps n) g ∙ shown_so s m h

-- a text that was made is an equal one
pub reads : {X E : Type 0} (items : X → List ℕ) (r : Result X E) (a b : List ℕ)
    → a ≡ b → IfOk r (λ x. items x ≡ a) → IfOk r (λ x. items x ≡ b)
reads items (Ok x) a b e h = h ∙ e
reads items (Err f) a b e h = h
