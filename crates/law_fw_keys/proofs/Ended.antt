-- Where the work of a tick ends, with or without a frame.
use Rattle.std.proofs.Common.{◌≡◌, ◌≤◌, ◌<◌, ℕ, ◌+◌, ◌-◌, List, All, Bool, true, false, ◌==◌, refl, ap, sym}
use Rattle.std.proofs.Common.{◌∙◌, arith, None}
use Rattle.mcs48_core.specs.Cpu.{Cpu}
use Rattle.fw_kernel.specs.declared.cells.TheConstants.{LIGHTS, TEST, HELD, PENDING}
use Rattle.fw_kernel.specs.declared.labels.TheConstants.{DONE, TICK}
use Rattle.fw_kernel.specs.Places.{HasKernel}
use Rattle.joint_run.specs.Run.{Board, after_cycles}
use Rattle.mcs48_ranges.specs.Sizes.{IsByte}
use Rattle.law_fw_logic.proofs.Path.{Stage}
use Rattle.law_fw_logic.proofs.Leads.{Leads}
use Rattle.law_fw_logic.proofs.Block.{memory, scratched}
use Rattle.law_fw_logic.proofs.Kernel.{kernel_in}
use Rattle.law_fw_logic.proofs.Short.{has_rows}
use Rattle.law_fw_logic.proofs.Sound.{weaken}
use Rattle.model_keyboard.specs.declared.meeting.Meeting.{Meeting}
use Rattle.model_keyboard.specs.declared.meeting.Meeting.TheVariants.{Idle, Inhibited}
use Rattle.model_keyboard.specs.Keyboard.{Keyboard, offer}
use Rattle.model_keyboard.specs.Tick.{tested_if}
use Rattle.law_fw_keys.specs.State.{kbd_of, layers_of, Inv}
use Rattle.law_fw_keys.specs.Edges.{image_keys, IsSilentAlike}
use Rattle.law_fw_keys.specs.Healing.{healed, makes_reset}
use Rattle.law_fw_keys.proofs.Block.{Safe}
use Rattle.law_fw_keys.proofs.Scan.{after, edges_most, keyed}
use Rattle.law_fw_keys.proofs.Tick.{reads, down, changed, pending, begun, lit, shining, Ticked, TickLaw, idle_tick}
use Rattle.law_fw_keys.proofs.Healing.{not_healed}
use Rattle.law_fw_keys.proofs.KeyedTick.{keyed_tick}
use Rattle.model_keyboard.specs.Layers.{Layers}
use Rattle.law_fw_keys.proofs.Tick.{glitch_tick, inhibited_tick, test_tick, IsFreeAt, IsGlitchAt, same_kbd}

module _ (d : Board) (bytes : List ℕ) (hk : HasKernel bytes) (alike : IsSilentAlike bytes) (small : All IsByte bytes)
    (low : (p1 p2 c : ℕ) (s : d.State) → (d.pins p1 p2 c s).bus < 256) (held : List Bool)
    (y : ℕ) (m : Cpu) (board : d.State) (f : ℕ → ℕ) (ring : List ℕ) where
  abbrev pub reads_now : ℕ → ℕ
  reads_now = reads d bytes hk alike small low held y m board f ring

  abbrev pub pending_now : ℕ → ℕ
  pending_now = pending d bytes hk alike small low held y m board f ring

  abbrev pub downs_now : ℕ → ℕ
  downs_now = down d bytes hk alike small low held y m board f ring

  abbrev pub changes_now : ℕ → ℕ
  changes_now = changed d bytes hk alike small low held y m board f ring

  abbrev pub lights_on : Cpu
  lights_on = lit d bytes hk alike small low held y m board f ring

  -- the layers that the edges find
  abbrev pub layers_from : Meeting → Layers
  layers_from meeting = healed bytes meeting (kbd_of held f ring) (layers_of f)

  -- data memory is the model's tick later, but for the held keys; the columns are kept; from a stage on, of which F is
  -- known, no port was written
  pub record Ended (meeting : Meeting) (last_off : ℕ) (F : Stage d.State → Type 0) (e : Stage d.State) : Type 0 where
    pub now : ℕ → ℕ
    pub last : List ℕ
    pub from : Stage d.State
    pub n : ℕ
    pub cpu : e.cpu ≡ scratched (record lights_on { f0 = e.cpu.f0; f1 = e.cpu.f1; p2 = e.cpu.p2 }) DONE
        (memory now last) e.cpu
    pub short : e.off ≤ last_off
    pub kbd : kbd_of held now last ≡ keyed_tick (image_keys bytes) meeting changes_now downs_now (layers_from meeting)
        (kbd_of held f ring)
    pub layers : layers_of now ≡ after (image_keys bytes) changes_now downs_now (layers_from meeting)
    pub downs : (i : ℕ) → i < 12 → now (HELD + i) ≡ downs_now i
    pub pendings : (i : ℕ) → i < 12 → now (PENDING + i) ≡ pending_now i
    pub inv : Inv now
    pub stack : (now 8 ≡ f 8) × (now 9 ≡ f 9)
    pub facts : F from
    pub off : e.off ≡ from.off + n
    pub p2 : e.cpu.p2 ≡ from.cpu.p2
    pub board_now : e.board ≡ after_cycles n (y + from.off) (d.cycle from.cpu.p2) from.board

  -- without a frame no port is written from the lights on
  pub record AtHead (e : Stage d.State) : Type 0 where
    pub off : e.off ≡ 231
    pub p2 : e.cpu.p2 ≡ 255 - f LIGHTS
    pub board_is : e.board ≡ shining d bytes hk alike small low held y m board f ring

  abbrev pub Works : Meeting → ℕ → (Stage d.State → Type 0) → Type 0
  Works meeting last_off F = Leads d (kernel_in true bytes) y (begun d bytes hk alike small low held y m board f ring)
      (Ended meeting last_off F)

  silent : (meeting : Meeting) (inhibited : Bool) (max : ℕ) (step : Keyboard → Keyboard)
      → makes_reset meeting (kbd_of held f ring) ≡ false
      → TickLaw d bytes hk alike small low held y m board f ring meeting inhibited max step
      → Works meeting (231 + (max + (56 + (2 + edges_most bytes changes_now)))) AtHead
  silent meeting inhibited max step none h =
      weaken d (kernel_in true bytes) (has_rows true bytes hk) y
      (λ e. Ticked d bytes hk alike small low held y m board f ring inhibited max step e
      × (keyed (image_keys bytes) inhibited changes_now downs_now (layers_of f) (step (kbd_of held f ring))
      ≡ keyed_tick (image_keys bytes) meeting changes_now downs_now (layers_of f) (kbd_of held f ring)))
      (Ended meeting (231 + (max + (56 + (2 + edges_most bytes changes_now)))) AtHead)
      (begun d bytes hk alike small low held y m board f ring)
      (λ e a.
      let t = a.0 in
      let off : e.off ≡ 231 + t.used = t.off in
      let short : t.used ≤ max + (56 + (2 + edges_most bytes changes_now)) = t.short in
      let same : layers_of f ≡ layers_from meeting = sym (not_healed bytes meeting (kbd_of held f ring) (layers_of f) none) in
      record {
        now = t.now;
        last = t.last;
        from = record { cpu = lights_on; board = shining d bytes hk alike small low held y m board f ring; off = 231 };
        n = t.used;
        cpu = t.cpu
            ∙ sym (ap (λ (c : Cpu). scratched (record lights_on { f0 = c.f0; f1 = c.f1; p2 = c.p2 }) DONE
            (memory t.now t.last) e.cpu) t.cpu);
        short = omega (arith, off, short);
        kbd = t.kbd ∙ a.1
            ∙ ap (λ l. keyed_tick (image_keys bytes) meeting changes_now downs_now l (kbd_of held f ring)) same;
        layers = t.layers ∙ ap (λ l. after (image_keys bytes) changes_now downs_now l) same;
        downs = t.downs;
        pendings = t.pendings;
        inv = t.inv;
        stack = t.stack;
        facts = record { off = refl; p2 = refl; board_is = refl };
        off = off;
        p2 = ap (λ (c : Cpu). c.p2) t.cpu;
        board_now = t.board_now;
      }) h

  -- nothing is offered, and both wires are high
  pub idle_works : Inv f → (f TEST == 0) ≡ true → offer (kbd_of held f ring) ≡ None
      → IsFreeAt d bytes hk alike small low held y m board f ring → Safe m (TICK + 3) f ring
      → Works Idle (231 + (31 + (56 + (2 + edges_most bytes changes_now)))) AtHead
  idle_works inv no_test nothing wires safe =
      silent Idle false 31 (same_kbd d bytes hk alike small low held y m board f ring) refl
      (idle_tick d bytes hk alike small low held y m board f ring inv no_test nothing wires safe)

  -- data is low at the first look alone
  pub glitch_works : Inv f → (f TEST == 0) ≡ true → IsGlitchAt d bytes hk alike small low held y m board f ring
      → Safe m (TICK + 3) f ring → Works Idle (231 + (56 + (56 + (2 + edges_most bytes changes_now)))) AtHead
  glitch_works inv no_test levels safe =
      silent Idle false 56 (same_kbd d bytes hk alike small low held y m board f ring) refl
      (glitch_tick d bytes hk alike small low held y m board f ring inv no_test levels safe)

  -- the clock is low
  pub inhibited_works : Inv f → (f TEST == 0) ≡ true
      → (d.pins 44 (255 - f LIGHTS) (y + 231 + 22)
      (after_cycles 22 0 (λ o. d.cycle (255 - f LIGHTS) (y + 231 + o)) (shining d bytes hk alike small low held y m board f
      ring))).t0
      ≡ false → Safe m (TICK + 3) f ring
      → Works Inhibited (231 + (31 + (56 + (2 + edges_most bytes changes_now)))) AtHead
  inhibited_works inv no_test clock safe =
      silent Inhibited true 31 (same_kbd d bytes hk alike small low held y m board f ring) refl
      (inhibited_tick d bytes hk alike small low held y m board f ring inv no_test clock safe)

  -- the power-on test runs, whatever the wires show
  pub test_works : Inv f → (f TEST == 0) ≡ false → Safe m (TICK + 3) f ring
      → Works Idle (231 + (36 + (56 + (2 + edges_most bytes changes_now)))) AtHead
  test_works inv runs safe = silent Idle false 36 (tested_if true) refl
      (test_tick d bytes hk alike small low held y m board f ring inv runs safe)
