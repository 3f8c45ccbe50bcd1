-- The frame of a tick on any board, as any tick wants it, by what the looks find: sent whole, cut in a cell, or
-- received.
use Rattle.std.proofs.Common.{◌≡◌, ◌≤◌, ◌<◌, ℕ, ◌+◌, ◌-◌, ◌*◌, List, All, Bool, true, false, not, ◌==◌, Some}
use Rattle.std.proofs.Common.{refl, ap, sym, ◌∙◌, subst, arith}
use Rattle.mcs48_core.specs.Cpu.{Cpu}
use Rattle.mcs48_core.specs.Status.{digit}
use Rattle.fw_kernel.specs.declared.cells.TheConstants.{LIGHTS, R4, TEST}
use Rattle.fw_kernel.specs.Places.{HasKernel}
use Rattle.fw_kernel.specs.declared.labels.TheConstants.{TESTED, SEND, GOT, SENT, SCAN, COMMAND}
use Rattle.law_fw_keys.proofs.Blocks.{bytes_of}
use Rattle.law_fw_keys.proofs.Ended.{lights_on}
use Rattle.law_fw_keys.proofs.Frames.{Framed, FrameLaw, IsSent, IsCut, IsGot}
use Rattle.law_fw_keys.proofs.Head.{offered_in}
use Rattle.law_fw_keys.proofs.Tick.{shining, headed_by}
use Rattle.law_fw_keys.specs.Edges.{IsSilentAlike}
use Rattle.law_fw_keys.specs.State.{kbd_of}
use Rattle.law_fw_link.specs.Latch.{IsLook, sent_latch, cut_latch, cut_after, received_latch}
use Rattle.law_fw_link.specs.Reading.{byte_in, right_in}
use Rattle.law_fw_link.proofs.Cut.{cut_frame, left_at_cut}
use Rattle.law_fw_link.proofs.Frame.{sent_frame}
use Rattle.law_fw_link.proofs.Latches.{driven}
use Rattle.law_fw_link.proofs.Received.{got_cells, received_frame}
use Rattle.law_fw_link.proofs.Sending.{sending}
use Rattle.law_fw_link.proofs.Wired.{IsReleased}
use Rattle.law_fw_logic.proofs.Block.{memory, scratched, begin_at, At}
use Rattle.law_fw_logic.proofs.Blocks.{absolute, joined}
use Rattle.law_fw_logic.proofs.TimerParts.{IsFree}
use Rattle.law_fw_logic.proofs.Kernel.{kernel_in}
use Rattle.law_fw_logic.proofs.Leads.{Leads}
use Rattle.law_fw_logic.proofs.Path.{Stage}
use Rattle.law_fw_logic.proofs.Short.{has_rows}
use Rattle.law_fw_logic.proofs.Sound.{weaken}
use Rattle.mcs48_ranges.specs.Sizes.{IsByte, IsFine}
use Rattle.joint_run.specs.Run.{Board, after_cycles}
use Rattle.model_keyboard.specs.Keyboard.{offer}
use Rattle.law_agreement.proofs.Leaves.{Leaves, sent_leaves, cut_leaves, got_leaves, is_offered}
use Rattle.law_agreement.proofs.Looking.{looked_in, Looked, with_frame, to_send, to_got}

-- R5 says whether the parity was right
reported : (right : Bool) → not (255 * digit right == 0) ≡ right
reported true = refl
reported false = refl

-- a frame of n cycles has passed: the latch is released, and the board has gone on by the frame's latch
pub record Afterwards (d : Board) (v start : ℕ) (frame : ℕ → ℕ) (n : ℕ) (entered : d.State) (e : Stage d.State)
    : Type 0 where
  pub p2 : e.cpu.p2 ≡ v
  pub off : e.off ≡ 257 + n
  pub board_is : e.board ≡ driven d (260 + start) frame n 0 entered

-- in a tick from `start`, whose third instruction is 3 cycles after
module _ (d : Board) (bytes : List ℕ) (hk : HasKernel bytes) (alike : IsSilentAlike bytes) (small : All IsByte bytes)
    (low : (p1 p2 c : ℕ) (s : d.State) → (d.pins p1 p2 c s).bus < 256) (held : List Bool)
    (y : ℕ) (m : Cpu) (board : d.State) (f : ℕ → ℕ) (ring : List ℕ) (start : ℕ) (here : y ≡ start + 3)
    (released : IsReleased (255 - f LIGHTS)) where
  abbrev v : ℕ
  v = 255 - f LIGHTS

  abbrev lights : Cpu
  lights = lights_on d bytes hk alike small low held y m board f ring

  abbrev shine : d.State
  shine = shining d bytes hk alike small low held y m board f ring

  abbrev cells : ℕ → ℕ → ℕ → ℕ
  cells r4 r5 = headed_by d bytes hk alike small low held y m board f ring r4 r5

  abbrev Goes : ℕ → Stage d.State → (Stage d.State → Type 0) → Type 0
  Goes x s Q = Leads d (kernel_in true bytes) x s Q

  -- the processor at the head's end, and where a frame begins, but for what a block may use
  abbrev at_tested : ℕ → ℕ → Cpu → Cpu
  at_tested r4 r5 c = scratched lights TESTED (memory (cells r4 r5) ring) c

  abbrev entry : ℕ → ℕ → ℕ → Cpu → Cpu
  entry pc r4 r5 c = scratched (record lights { f1 = false }) pc (memory (looked_in (cells r4 r5)) ring) c

  -- the board where a frame begins, and n cycles later
  abbrev pub entered : d.State
  entered = after_cycles 26 (y + 231) (d.cycle v) shine

  abbrev pub passed : (ℕ → ℕ) → ℕ → d.State
  passed frame n = driven d (260 + start) frame n 0 entered

  -- both looks of the tick; those at the clock in a sent frame, and those at data in a received one
  abbrev pub clock : Bool
  clock = (d.pins 44 v (y + 231 + 22) (after_cycles 22 (y + 231) (d.cycle v) shine)).t0

  abbrev pub data_wire : Bool
  data_wire = (d.pins 44 v (y + 231 + 24) (after_cycles 24 (y + 231) (d.cycle v) shine)).t1

  abbrev pub data_second : Bool
  data_second = (d.pins 44 v (y + 231 + 52) (after_cycles 52 (y + 231) (d.cycle v) shine)).t1

  abbrev pub clock_look : ℕ → ℕ → Bool
  clock_look byte look = (d.pins 44 (sent_latch v byte look) (260 + start + look) (passed (sent_latch v byte) look)).t0

  abbrev pub data_look : ℕ → Bool
  data_look k = (d.pins 44 v (260 + start + (28 + 32 * k + 18)) (passed (received_latch v) (28 + 32 * k + 18))).t1

  -- the second look at data, reported from where a frame begins
  second_is : (d.pins 44 v (260 + start + 26) (after_cycles 26 0 (λ o. d.cycle v (260 + start + o)) entered)).t1 ≡ data_second
  second_is =
      let at : 260 + start + 26 ≡ y + 231 + 52 = omega (arith, here) in
      ap (λ b. (d.pins 44 v (260 + start + 26) b).t1)
      (absolute 26 (260 + start) (d.cycle v) entered
      ∙ joined 26 26 (y + 231) (260 + start) (d.cycle v) shine (omega (arith, here)))
      ∙ ap (λ c. (d.pins 44 v c (after_cycles 52 (y + 231) (d.cycle v) shine)).t1) at

  -- the looks come to a place
  abbrev Looks : ℕ → Type 0
  Looks pc =
      (r4 r5 : ℕ) (c : Cpu) → IsFree (at_tested r4 r5 c)
      → Goes (y + 231) (begin_at d TESTED (cells r4 r5) ring (at_tested r4 r5 c) shine)
      (Looked d bytes hk (y + 231) (at_tested r4 r5 c) shine (cells r4 r5) ring pc)

  free_looks : (f TEST == 0) ≡ true → clock ≡ true → data_wire ≡ true → Looks SEND
  free_looks no_test high high' r4 r5 c ok =
      to_send d bytes hk (y + 231) (at_tested r4 r5 c) shine (cells r4 r5) ring ok no_test high high'

  asked_looks : (f TEST == 0) ≡ true → clock ≡ true → data_wire ≡ false → Looks GOT
  asked_looks no_test high pulled r4 r5 c ok =
      to_got d bytes hk (y + 231) (at_tested r4 r5 c) shine (cells r4 r5) ring ok no_test high pulled

  -- a frame from there, with what is offered in R4 and R5; and what its registers are then
  abbrev Passes : ℕ → ℕ → ℕ → (ℕ → ℕ) → ((ℕ → ℕ) → ℕ → ℕ) → Type 0
  Passes pc to' n frame leaves =
      (r4 r5 : ℕ) (c : Cpu) → offered_in r4 r5 ≡ offer (kbd_of held f ring) → r4 < 256 → IsFree (entry pc r4 r5 c)
      → c.a < 256 → Goes (260 + start) (begin_at d pc (looked_in (cells r4 r5)) ring (entry pc r4 r5 c) entered)
      (At d (entry pc r4 r5 c) to' (leaves (looked_in (cells r4 r5))) ring n (passed frame n))

  abbrev Sets : ((ℕ → ℕ) → ℕ → ℕ) → (ℕ → ℕ → (ℕ → ℕ) → Type 0) → Type 0
  Sets leaves R =
      (r4 r5 : ℕ) → offered_in r4 r5 ≡ offer (kbd_of held f ring) → R r4 r5 (leaves (looked_in (cells r4 r5)))

  abbrev Law : ℕ → ℕ → (ℕ → ℕ) → ℕ → (ℕ → ℕ → (ℕ → ℕ) → Type 0) → Type 0
  Law end max frame n R =
      FrameLaw d bytes hk alike small low held y m board f ring end max (Afterwards d v start frame n entered) R

  -- the looks and the frame are what any tick wants of a frame
  by_frame : (pc end n max : ℕ) (latch : ℕ → ℕ) (leaves : (ℕ → ℕ) → ℕ → ℕ) (R : ℕ → ℕ → (ℕ → ℕ) → Type 0)
      → 26 + n ≤ max → Leaves leaves → Looks pc
      → Passes pc end n latch leaves → Sets leaves R → Law end max latch n R
  by_frame pc end n max latch leaves R room kept look frame registers m' board' r4 r5 is where_board offers safe =
      let g : ℕ → ℕ = cells r4 r5 in
      let now : ℕ → ℕ = leaves (looked_in g) in
      let F : Stage d.State → Type 0 = Afterwards d v start latch n entered in
      let Q : Stage d.State → Type 0 = Framed d bytes hk alike small low held y m board f ring end max F (R r4 r5) g in
      let c : Cpu = at_tested r4 r5 m' in
      let begin : Cpu → d.State → Stage d.State = λ u q. begin_at d TESTED g ring u q in
      let free : IsFree c = subst IsFree is safe.0 in
      let fine : IsFine (begin c shine).cpu = subst (λ u. IsFine (scratched u TESTED (memory g ring) u)) is safe.1 in
      let byte : r4 < 256 = (bytes_of m' TESTED g ring safe).cell R4 (omega arith) in
      let at : 260 + start ≡ y + 231 + 26 = omega (arith, here) in
      let P : Stage d.State → Type 0 = At d (record c { f1 = false }) end now ring (26 + n) (passed latch n) in
      let From : Cpu → ℕ → Type 0 =
      λ u x. Goes x (begin_at d pc (looked_in g) ring (entry pc r4 r5 u) entered)
      (At d (entry pc r4 r5 u) end now ring n (passed latch n)) in
      let whole : Goes (y + 231) (begin c shine) P =
      with_frame d bytes hk small low (y + 231) c shine g ring pc end n now (passed latch n) fine (look r4 r5 m' free)
      (λ u free1 acc. subst (λ x. From u x) at (frame r4 r5 u offers byte free1 acc)) in
      subst (λ q. Goes (y + 231) (begin m' q) Q) (sym where_board)
      (subst (λ u. Goes (y + 231) (begin u shine) Q) (sym is)
      (weaken d (kernel_in true bytes) (has_rows true bytes hk) (y + 231) P Q (begin c shine)
      (λ e a.
      let off : e.off ≡ 26 + n = a.off in
      let p2 : e.cpu.p2 ≡ v = ap (λ (u : Cpu). u.p2) a.cpu in
      record {
        now = now;
        cpu =
            a.cpu
            ∙ sym (ap (λ p. scratched (record lights { f1 = false; p2 = p }) end (memory now ring) e.cpu) p2);
        kept = λ i l u. kept.kept g i l;
        stack = kept.stack g;
        short = omega (arith, off, room);
        registers = registers r4 r5 offers;
        facts = record { p2 = p2; off = omega (arith, off); board_is = a.now };
      })
      whole))

  module _ (no_test : (f TEST == 0) ≡ true) (high : clock ≡ true) where
    module _ (byte : ℕ) (is : offer (kbd_of held f ring) ≡ Some byte) (free : data_wire ≡ true) where
      -- what is offered is sent whole where the clock is high at all looks
      pub sends_frame : ((look : ℕ) → IsLook look → clock_look byte look ≡ true)
          → Law SENT 394 (sent_latch v byte) 368 (IsSent d bytes hk alike small low held y m board f ring)
      sends_frame looks =
          by_frame SEND SENT 368 394 (sent_latch v byte) (λ h. sending h v byte 10 0 0)
          (IsSent d bytes hk alike small low held y m board f ring) (omega arith) (sent_leaves v byte 10 0 0)
          (free_looks no_test high free)
          (λ r4 r5 c offers less ok acc.
          let o = is_offered r4 r5 byte (offers ∙ is) in
          sent_frame d bytes hk (260 + start) (entry SEND r4 r5 c) entered (looked_in (cells r4 r5)) ring v byte released
          (subst (λ n. n < 256) o.0 less) ok refl refl o.0 o.0 o.1 looks)
          (λ r4 r5 offers. (refl, (is_offered r4 r5 byte (offers ∙ is)).1))

      -- and is cut at the look that is the first to find it low
      pub cuts_frame : (look : ℕ) → IsLook look
          → ((earlier : ℕ) → IsLook earlier → earlier < look → clock_look byte earlier ≡ true) → clock_look byte look ≡ false
          → Law SCAN (26 + cut_after look) (cut_latch v byte look) (cut_after look)
          (IsCut d bytes hk alike small low held y m board f ring)
      cuts_frame look at looks last =
          by_frame SEND SCAN (cut_after look) (26 + cut_after look) (cut_latch v byte look)
          (λ h. sending h v byte (left_at_cut h byte look at).0 (left_at_cut h byte look at).1 (left_at_cut h byte look at).2)
          (IsCut d bytes hk alike small low held y m board f ring)
          (omega arith) (cut_leaves v byte look at) (free_looks no_test high free)
          (λ r4 r5 c offers less ok acc.
          let o = is_offered r4 r5 byte (offers ∙ is) in
          cut_frame d bytes hk (260 + start) (entry SEND r4 r5 c) entered (looked_in (cells r4 r5)) ring v byte released
          (subst (λ n. n < 256) o.0 less) ok refl refl o.0 o.0 o.1 look at looks last)
          (λ r4 r5 offers. (is_offered r4 r5 byte (offers ∙ is)).1)

    -- a byte is received: that of the first eight looks at data, right where the ninth is its parity
    pub gets_frame : (byte : ℕ) (good : Bool) → data_wire ≡ false → data_second ≡ false → byte_in data_look ≡ byte → right_in data_look ≡ good
        → Law COMMAND 392 (received_latch v) 366 (IsGot d bytes hk alike small low held y m board f ring byte good)
    gets_frame byte good pulled still is right =
        by_frame GOT COMMAND 366 392 (received_latch v) (λ h. got_cells h (byte_in data_look) (right_in data_look))
        (IsGot d bytes hk alike small low held y m board f ring byte good) (omega arith)
        (got_leaves (byte_in data_look) (right_in data_look)) (asked_looks no_test high pulled)
        (λ r4 r5 c offers less ok acc.
        received_frame d bytes hk (260 + start) (entry GOT r4 r5 c) entered (looked_in (cells r4 r5)) ring released acc
        ok (second_is ∙ still))
        (λ r4 r5 offers. (is, reported (right_in data_look) ∙ right))
