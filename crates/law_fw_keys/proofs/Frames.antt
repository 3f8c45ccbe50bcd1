-- A tick with a frame: what it needs of the frame, and what follows.
use Rattle.law_fw_keys.proofs.Patch.{Keeps}
use Rattle.std.proofs.Common.{◌≡◌, ◌≤◌, ◌<◌, ℕ, ◌+◌, List, All, Bool, true, false, not, ◌==◌, bit_xor}
use Rattle.std.proofs.Common.{refl, ap, sym, ◌∙◌, subst, arith, Some}
use Rattle.mcs48_core.specs.Cpu.{Cpu}
use Rattle.fw_kernel.specs.declared.cells.TheConstants.{R4, R5, REPLYDUE, AADUE, COUNT, HEAD, STARTED, TEST, REPLY}
use Rattle.fw_kernel.specs.declared.cells.TheConstants.{HELD, CHANGED, PENDING, FN}
use Rattle.fw_kernel.specs.declared.labels.TheConstants.{DONE, SCAN, TESTED, SENT, COMMAND, TICK}
use Rattle.fw_kernel.specs.Places.{HasKernel}
use Rattle.joint_run.specs.Run.{Board, after_cycles}
use Rattle.mcs48_ranges.specs.Sizes.{IsByte, IsFine}
use Rattle.law_fw_logic.proofs.TimerParts.{IsFree}
use Rattle.law_fw_logic.proofs.Path.{Stage}
use Rattle.law_fw_logic.proofs.Leads.{Leads}
use Rattle.law_fw_logic.proofs.Block.{memory, scratched, begin_at}
use Rattle.law_fw_logic.proofs.Kernel.{kernel_in}
use Rattle.law_fw_logic.proofs.Short.{has_rows}
use Rattle.law_fw_logic.proofs.Sound.{chain}
use Rattle.model_keyboard.specs.declared.meeting.Meeting.{Meeting}
use Rattle.model_keyboard.specs.declared.meeting.Meeting.TheVariants.{Sent, Got, Cut}
use Rattle.model_keyboard.specs.Keyboard.{Keyboard, offer}
use Rattle.model_keyboard.specs.Commands.{obeyed}
use Rattle.model_keyboard.specs.Tick.{sent_byte, met, tested_if, is_inhibited, is_scanning}
use Rattle.model_keyboard.proofs.CodesAreWhole.{IsWhole}
use Rattle.law_fw_keys.specs.State.{held_by, kbd_of, layers_of, queue_of, reply_of, debounces, Inv}
use Rattle.law_fw_keys.specs.Healing.{healed, makes_reset}
use Rattle.law_fw_keys.proofs.Healing.{lifted, lifted_below, lifted_above, lifted_layers, not_healed, xor_back}
use Rattle.model_keyboard.specs.Layers.{Layers}
use Rattle.law_fw_keys.specs.Edges.{image_keys, IsSilentAlike}
use Rattle.law_fw_keys.proofs.Block.{Ends, Safe}
use Rattle.law_fw_keys.proofs.Blocks.{bytes_of, fine_end, from_stage, safe_at, here}
use Rattle.law_fw_keys.proofs.Scan.{after, edges_most, keyed, changes_same, holds_same, pends_same}
use Rattle.law_fw_keys.proofs.Held.{layers_same}
use Rattle.law_fw_keys.proofs.Head.{head_changes, head_helds, offered_in, Headed, head_law}
use Rattle.law_fw_keys.proofs.Tick.{begun, shining, headed_by}
use Rattle.law_fw_keys.proofs.After.{Over, tail_law}
use Rattle.law_fw_keys.proofs.Sent.{sent_law}
use Rattle.law_fw_keys.proofs.Command.{command_law}
use Rattle.law_fw_keys.proofs.Offered.{offered_byte, first_of_law, code_law}
use Rattle.law_fw_keys.proofs.Ended.{reads_now, pending_now, downs_now, changes_now, layers_from, lights_on, Ended, Works}
use Rattle.law_fw_keys.proofs.SameCells.{same_cells, same_inv, head_keeps}

module _ (d : Board) (bytes : List ℕ) (hk : HasKernel bytes) (alike : IsSilentAlike bytes) (small : All IsByte bytes)
    (low : (p1 p2 c : ℕ) (s : d.State) → (d.pins p1 p2 c s).bus < 256) (held : List Bool)
    (y : ℕ) (m : Cpu) (board : d.State) (f : ℕ → ℕ) (ring : List ℕ) where
  abbrev lights : Cpu
  lights = lights_on d bytes hk alike small low held y m board f ring

  abbrev cells : ℕ → ℕ → ℕ → ℕ
  cells r4 r5 = headed_by d bytes hk alike small low held y m board f ring r4 r5

  -- offsets from the head's end as offsets from the tick's third instruction
  abbrev pub afterwards : Stage d.State → Stage d.State
  afterwards e = record { cpu = e.cpu; board = e.board; off = 231 + e.off }

  -- what a tick needs of a frame: it ends at a place in time, with the keyboard's cells, what the columns showed, the
  -- way back and the ring as they were, F1 clear, and port 1 as it was; R says of the cells what the registers have,
  -- and
  -- F is what is known of the port, the board and the time
  pub record Framed (to max : ℕ) (F : Stage d.State → Type 0) (R : (ℕ → ℕ) → Type 0) (g : ℕ → ℕ)
      (e : Stage d.State) : Type 0 where
    pub now : ℕ → ℕ
    pub cpu : e.cpu ≡ scratched (record lights { f1 = false; p2 = e.cpu.p2 }) to (memory now ring) e.cpu
    pub kept : (i : ℕ) → HELD ≤ i → i < PENDING + 12 → now i ≡ g i
    pub stack : (now 8 ≡ g 8) × (now 9 ≡ g 9)
    pub short : e.off ≤ max
    pub registers : R now
    pub facts : F (afterwards e)

  -- a frame, from the head's end: what is offered is in R4, or R5 is 0
  abbrev pub FrameLaw : ℕ → ℕ → (Stage d.State → Type 0) → (ℕ → ℕ → (ℕ → ℕ) → Type 0) → Type 0
  FrameLaw to max F R =
      (m' : Cpu) (board' : d.State) (r4 r5 : ℕ) → m' ≡ scratched lights TESTED (memory (cells r4 r5) ring) m'
      → board' ≡ shining d bytes hk alike small low held y m board f ring → offered_in r4 r5 ≡ offer
      (kbd_of held f ring)
      → Safe m' TESTED (cells r4 r5) ring
      → Leads d (kernel_in true bytes) (y + 231) (begin_at d TESTED (cells r4 r5) ring m' board')
      (Framed to max F (R r4 r5) (cells r4 r5))

  -- what follows the frame, up to SCAN; some cells may be lifted
  abbrev pub StepLaw : ℕ → ℕ → (ℕ → ℕ → (ℕ → ℕ) → Type 0) → ((ℕ → ℕ) → Keyboard → Keyboard) → ((ℕ → ℕ) → ℕ → ℕ) → Type 0
  StepLaw to most R step lifts =
      (r4 r5 x : ℕ) (m1 : Cpu) (board1 : d.State) (g : ℕ → ℕ) → offered_in r4 r5 ≡ offer (kbd_of held f ring)
      → R r4 r5 g → ((i : ℕ) → REPLYDUE ≤ i → i < PENDING + 12 → g i ≡ f i) → Inv g → Safe m1 to g ring
      → Leads d (kernel_in true bytes) x (begin_at d to g ring m1 board1)
      (Ends d x m1 board1 SCAN most (Keeps held (step g) (lifts g) ring))

  -- and that it is what the model does at the meeting
  abbrev pub ModelLaw : Meeting → (ℕ → ℕ → (ℕ → ℕ) → Type 0) → ((ℕ → ℕ) → Keyboard → Keyboard) → Type 0
  ModelLaw meeting R step =
      (r4 r5 : ℕ) (g : ℕ → ℕ) → offered_in r4 r5 ≡ offer (kbd_of held f ring) → R r4 r5 g
      → step g (kbd_of held f ring) ≡ tested_if (not (f TEST == 0)) (met meeting (image_keys bytes) (kbd_of held f ring))

  -- what is lifted is no cell of the keyboard, and it makes the layers those that the edges find
  abbrev reads : ℕ → ℕ
  reads = reads_now d bytes hk alike small low held y m board f ring

  abbrev pub from : Meeting → Layers
  from meeting = layers_from d bytes hk alike small low held y m board f ring meeting

  pub record Lifts (meeting : Meeting) (lifts : (ℕ → ℕ) → ℕ → ℕ) : Type 0 where
    pub below : (g : ℕ → ℕ) (i : ℕ) → i < FN → lifts g i ≡ g i
    pub above : (g : ℕ → ℕ) (i : ℕ) → 79 ≤ i → lifts g i ≡ g i
    pub layers : (g : ℕ → ℕ) → ((i : ℕ) → i < 12 → g (CHANGED + i) ≡ bit_xor (f (HELD + i)) (reads i))
        → ((i : ℕ) → i < 12 → g (HELD + i) ≡ reads i) → ((i : ℕ) → REPLYDUE ≤ i → i < PENDING + 12 → g i ≡ f i)
        → layers_of (lifts g) ≡ from meeting

  module _ (meeting : Meeting) (to max most : ℕ) (F : Stage d.State → Type 0) (R : ℕ → ℕ → (ℕ → ℕ) → Type 0)
      (step : (ℕ → ℕ) → Keyboard → Keyboard) (lifts : (ℕ → ℕ) → ℕ → ℕ) (lift : Lifts meeting lifts)
      (quiet : is_inhibited meeting ≡ false) (frame : FrameLaw to max F R) (law : StepLaw to most R step lifts)
      (model : ModelLaw meeting R step) (inv : Inv f) where
    abbrev last_off : ℕ
    last_off = 231 + (max + (most + (56 + (2 + edges_most bytes (changes_now d bytes hk alike small low held y m board f
        ring)))))

    abbrev Goal : Stage d.State → Type 0
    Goal = Ended d bytes hk alike small low held y m board f ring meeting last_off F

    changes : (r4 r5 : ℕ) (now : ℕ → ℕ) → ((i : ℕ) → HELD ≤ i → i < PENDING + 12 → now i ≡ cells r4 r5 i) → (i : ℕ) → i < 12
        → now (CHANGED + i) ≡ bit_xor (f (HELD + i)) (reads i)
    changes r4 r5 now kept i l = kept (CHANGED + i) (omega arith) (omega (arith, l)) ∙ head_changes reads f r4 r5 i l

    helds : (r4 r5 : ℕ) (now : ℕ → ℕ) → ((i : ℕ) → HELD ≤ i → i < PENDING + 12 → now i ≡ cells r4 r5 i) → (i : ℕ) → i < 12
        → now (HELD + i) ≡ reads i
    helds r4 r5 now kept i l = kept (HELD + i) (omega arith) (omega (arith, l)) ∙ head_helds reads f r4 r5 i l

    same : (r4 r5 : ℕ) (now : ℕ → ℕ) → ((i : ℕ) → HELD ≤ i → i < PENDING + 12 → now i ≡ cells r4 r5 i) → (i : ℕ) → REPLYDUE ≤ i
        → i < PENDING + 12
        → now i ≡ f i
    same r4 r5 now kept i l u = kept i (omega (arith, l)) u ∙ head_keeps reads f r4 r5 i (omega (arith, l))

    from_frame : (r4 r5 : ℕ) → offered_in r4 r5 ≡ offer (kbd_of held f ring) → (e : Stage d.State)
        → Framed to max F (R r4 r5) (cells r4 r5) e → IsFree e.cpu → IsFine e.cpu
        → Leads d (kernel_in true bytes) (y + 231) e (λ e2. Goal (afterwards e2))
    from_frame r4 r5 offers e a free fine =
        let ch = changes_now d bytes hk alike small low held y m board f ring in
        let hd = downs_now d bytes hk alike small low held y m board f ring in
        let pd = pending_now d bytes hk alike small low held y m board f ring in
        let b : Bool = debounces bytes in
        let n : Cpu = record lights { f1 = false; p2 = e.cpu.p2 } in
        let k : Keyboard = kbd_of held f ring in
        let keys = image_keys bytes in
        let now : ℕ → ℕ = a.now in
        let as_was = same r4 r5 now a.kept in
        let cells_same : kbd_of held now ring ≡ kbd_of held f ring =
        same_cells held now f ring (λ i l u. as_was i l (omega (arith, u))) in
        let lifted_same : kbd_of held (lifts now) ring ≡ kbd_of held now ring =
        same_cells held (lifts now) now ring (λ i l u. lift.below now i u) in
        let layers_was : layers_of (lifts now) ≡ from meeting =
        lift.layers now (changes r4 r5 now a.kept) (helds r4 r5 now a.kept) as_was in
        let safe : Safe e.cpu to now ring =
        safe_at d (kernel_in true bytes) (has_rows true bytes hk) small low to n now ring e.cpu a.cpu free fine in
        let on : Bool = is_scanning (step now (kbd_of held (lifts now) ring)) in
        let x : ℕ = y + 231 + e.off in
        let differ : (i : ℕ) → i < 12 → lifts now (CHANGED + i) ≡ bit_xor (f (HELD + i)) (reads i) =
        λ i l. lift.below now (CHANGED + i) (omega (arith, l)) ∙ changes r4 r5 now a.kept i l in
        let pend : (i : ℕ) → i < 12 → lifts now (PENDING + i) ≡ f (PENDING + i) =
        λ i l. lift.above now (PENDING + i) (omega arith) ∙ as_was (PENDING + i) (omega arith) (omega (arith, l)) in
        let tail = tail_law d bytes hk alike small low held (step now) ch hd pd to most x e.cpu e.board now (lifts now) ring
        safe
        (λ i l. changes_same b (lifts now (PENDING + i)) (f (PENDING + i)) (lifts now (CHANGED + i))
        (bit_xor (f (HELD + i)) (reads i))
        (pend i l) (differ i l))
        (λ i l. holds_same b (lifts now (PENDING + i)) (f (PENDING + i)) (lifts now (CHANGED + i))
        (bit_xor (f (HELD + i)) (reads i))
        (lifts now (HELD + i)) (reads i) (pend i l) (differ i l)
        (lift.below now (HELD + i) (omega (arith, l)) ∙ helds r4 r5 now a.kept i l))
        (λ i l. pends_same b (lifts now (PENDING + i)) (f (PENDING + i)) (lifts now (CHANGED + i))
        (bit_xor (f (HELD + i)) (reads i))
        (pend i l) (differ i l))
        (law r4 r5 x e.cpu e.board now offers a.registers as_was (same_inv now f
        (λ i l u. as_was i l (omega (arith, u))) inv) safe) in
        from_stage d (kernel_in true bytes) (has_rows true bytes hk) small low (y + 231) to n now ring e
        (Ends d x (record e.cpu { f0 = on }) e.board DONE (most + (56 + (2 + edges_most bytes ch)))
        (Over d bytes hk alike small low held e.cpu.f1 ch hd pd (step now) (lifts now) ring))
        (λ e2. Goal (afterwards e2)) a.cpu
        (λ e2 b.
        let is : e2.cpu ≡ scratched (record lights { f0 = on; f1 = false; p2 = e.cpu.p2 }) DONE (memory b.now b.ring)
        e2.cpu =
        b.cpu ∙ ap (λ (c : Cpu). scratched (record c { f0 = on }) DONE (memory b.now b.ring) e2.cpu) a.cpu in
        let first : e.off ≤ max = a.short in
        let second : e2.off ≤ most + (56 + (2 + edges_most bytes ch)) = b.short in
        let at : y + 231 + e.off ≡ y + (231 + e.off) = omega arith in
        record {
          now = b.now;
          last = b.ring;
          from = afterwards e;
          n = e2.off;
          cpu = is
              ∙ sym (ap (λ (c : Cpu). scratched (record lights { f0 = c.f0; f1 = c.f1; p2 = c.p2 }) DONE
              (memory b.now b.ring) e2.cpu) is);
          short = omega (arith, first, second);
          kbd =
              b.facts.kbd
              ∙ ap (λ v. keyed keys v ch hd (layers_of (lifts now)) (step now (kbd_of held (lifts now) ring)))
              (ap (λ (c : Cpu). c.f1) a.cpu ∙ sym quiet)
              ∙ ap (λ l. keyed keys (is_inhibited meeting) ch hd l (step now (kbd_of held (lifts now) ring))) layers_was
              ∙ ap (λ j. keyed keys (is_inhibited meeting) ch hd (from meeting) (step now j)) (lifted_same ∙ cells_same)
              ∙ ap (λ j. keyed keys (is_inhibited meeting) ch hd (from meeting) j)
              (model r4 r5 now offers a.registers);
          layers = b.facts.layers ∙ ap (λ l. after keys ch hd l) layers_was;
          downs = b.facts.downs;
          pendings = b.facts.pendings;
          inv = b.facts.inv;
          stack = (
            b.facts.stack.0 ∙ lift.below now 8 (omega arith) ∙ a.stack.0,
            b.facts.stack.1 ∙ lift.below now 9 (omega arith) ∙ a.stack.1,
          );
          facts = a.facts;
          off = omega arith;
          p2 = ap (λ (c : Cpu). c.p2) is;
          board_now = b.board_now ∙ ap (λ c. after_cycles e2.off c (d.cycle e.cpu.p2) e.board) at;
        }) tail

    -- a tick whose frame and step are as they should be does the model's work
    pub framed : Safe m (TICK + 3) f ring → Works d bytes hk alike small low held y m board f ring meeting last_off F
    framed safe =
        let h = bytes_of m (TICK + 3) f ring safe in
        let H = Headed d bytes hk small low held y m board f ring in
        let start = begun d bytes hk alike small low held y m board f ring in
        chain d (kernel_in true bytes) (has_rows true bytes hk) y (λ e. H e × IsFine e.cpu) Goal start
        (fine_end d (kernel_in true bytes) (has_rows true bytes hk) small low y start H safe.1
        (head_law d bytes hk small low held y m board f ring h safe.0))
        (λ e af free.
        let a = af.0 in
        let g0 : ℕ → ℕ = cells a.r4 a.r5 in
        let at : y + 231 ≡ y + e.off = ap (λ o. y + o) (sym a.off) in
        let begin = begin_at d TESTED g0 ring e.cpu e.board in
        let safe' = safe_at d (kernel_in true bytes) (has_rows true bytes hk) small low TESTED lights g0 ring e.cpu
        a.cpu free af.1 in
        let R' = Framed to max F (R a.r4 a.r5) g0 in
        from_stage d (kernel_in true bytes) (has_rows true bytes hk) small low y TESTED lights g0 ring e
        (λ e2. Goal (afterwards e2)) Goal a.cpu
        (λ e2 b. subst (λ o. Goal (record { cpu = e2.cpu; board = e2.board; off = o + e2.off })) (sym a.off) b)
        (subst (λ z. Leads d (kernel_in true bytes) z begin (λ e2. Goal (afterwards e2))) at
        (chain d (kernel_in true bytes) (has_rows true bytes hk) (y + 231) (λ e2. R' e2 × IsFine e2.cpu)
        (λ e2. Goal (afterwards e2)) begin
        (fine_end d (kernel_in true bytes) (has_rows true bytes hk) small low (y + 231) begin R' safe'.1
        (frame e.cpu e.board a.r4 a.r5 a.cpu a.board_now a.offers safe'))
        (λ e2 bf free2. from_frame a.r4 a.r5 a.offers e2 bf.0 free2 bf.1))))

  -- what the registers hold after a sent frame, a received one, a cut one
  abbrev pub IsSent : ℕ → ℕ → (ℕ → ℕ) → Type 0
  IsSent r4 r5 g = (g R4 ≡ r4) × ((r5 == 0) ≡ false)

  abbrev pub IsGot : ℕ → Bool → ℕ → ℕ → (ℕ → ℕ) → Type 0
  IsGot byte good r4 r5 g = (g R4 ≡ byte) × (not (g R5 == 0) ≡ good)

  abbrev pub IsCut : ℕ → ℕ → (ℕ → ℕ) → Type 0
  IsCut r4 r5 g = (r5 == 0) ≡ false

  abbrev sent_step : (ℕ → ℕ) → Keyboard → Keyboard
  sent_step g = sent_byte (Some (g R4)) (image_keys bytes)

  sends : IsWhole (queue_of f ring) → StepLaw SENT (9 + 98) IsSent sent_step (lifted bytes)
  sends codes r4 r5 x m1 board1 g offers is as_was inv safe =
      let b : offer (kbd_of held f ring) ≡ Some (g R4) = offered_byte r4 r5 (offer (kbd_of held f ring)) offers is.1
      ∙ ap (λ v. Some v) (sym is.0) in
      let a : g REPLYDUE ≡ f REPLYDUE = as_was REPLYDUE (omega arith) (omega arith) in
      let e : g AADUE ≡ f AADUE = as_was AADUE (omega arith) (omega arith) in
      let c : g COUNT ≡ f COUNT = as_was COUNT (omega arith) (omega arith) in
      let h : g HEAD ≡ f HEAD = as_was HEAD (omega arith) (omega arith) in
      let i : g STARTED ≡ f STARTED = as_was STARTED (omega arith) (omega arith) in
      let whole : IsWhole (queue_of g ring) =
      subst (λ k. IsWhole k.queue) (sym (same_cells held g f ring (λ i l u. as_was i l (omega (arith, u))))) codes in
      let now : offer (kbd_of held g ring) ≡ Some (g R4) = ap offer (same_cells held g f ring
      (λ i l u. as_was i l (omega (arith, u)))) ∙ b in
      sent_law d bytes hk small low held x m1 board1 g ring inv safe (first_of_law held g ring (g R4) now)
      (code_law held g ring (g R4) now whole)

  -- nothing is lifted
  abbrev unlifted : (ℕ → ℕ) → ℕ → ℕ
  unlifted g = g

  unlifts : (meeting : Meeting) → makes_reset meeting (kbd_of held f ring) ≡ false → Lifts meeting unlifted
  unlifts meeting none = record {
    below = λ g i l. refl;
    above = λ g i l. refl;
    layers = λ g changes helds as_was.
        layers_same g f (λ i l u. as_was i (omega (arith, l)) (omega (arith, u)))
        ∙ sym (not_healed bytes meeting (kbd_of held f ring) (layers_of f) none);
  }

  -- a reset heals the layers
  sent_lifts : held ≡ held_by (λ c. f (HELD + c)) → Lifts Sent (lifted bytes)
  sent_lifts held_is = record {
    below = λ g i l. lifted_below bytes g i l;
    above = λ g i l. lifted_above bytes g i l;
    layers = λ g changes helds as_was.
        let due : g REPLYDUE ≡ f REPLYDUE = as_was REPLYDUE (omega arith) (omega arith) in
        lifted_layers bytes g (kbd_of held f ring) (f REPLY) (λ c. f (HELD + c))
        (ap (λ v. reply_of v (f REPLY)) (sym due)) held_is
        (λ c l. ap (λ v. bit_xor v (g (CHANGED + c))) (helds c l) ∙ ap (λ v. bit_xor (reads c) v) (changes c l)
        ∙ xor_back (f (HELD + c)) (reads c))
        ∙ ap (λ l. healed bytes Sent (kbd_of held f ring) l) (layers_same g f (λ i l u. as_was i (omega (arith, l)) (omega (arith, u))));
  }

  -- the byte that was offered was sent
  pub sent_works : (max : ℕ) (F : Stage d.State → Type 0) → held ≡ held_by (λ c. f (HELD + c)) → Inv f → (f TEST == 0) ≡ true
      → IsWhole (queue_of f ring)
      → FrameLaw SENT max F IsSent → Safe m (TICK + 3) f ring
      → Works d bytes hk alike small low held y m board f ring Sent
      (231 + (max + (9 + 98 + (56 + (2 + edges_most bytes (changes_now d bytes hk alike small low held y m board f
      ring)))))) F
  sent_works max F held_is inv no_test codes frame safe =
      framed Sent SENT max (9 + 98) F IsSent sent_step (lifted bytes) (sent_lifts held_is) refl frame (sends codes)
      (λ r4 r5 g offers is.
      let k : Keyboard = kbd_of held f ring in
      let b : offer k ≡ Some (g R4) = offered_byte r4 r5 (offer k) offers is.1 ∙ ap (λ v. Some v) (sym is.0) in
      sym (ap (λ t. tested_if (not t) (met Sent (image_keys bytes) k)) no_test
      ∙ ap (λ o. sent_byte o (image_keys bytes) k) b)) inv safe

  -- a byte was received
  pub got_works : (byte : ℕ) (good : Bool) (max : ℕ) (F : Stage d.State → Type 0) → Inv f → (f TEST == 0) ≡ true
      → FrameLaw COMMAND max F (IsGot byte good) → Safe m (TICK + 3) f ring
      → Works d bytes hk alike small low held y m board f ring (Got byte good)
      (231 + (max + (68 + (56 + (2 + edges_most bytes (changes_now d bytes hk alike small low held y m board f ring)))))) F
  got_works byte good max F inv no_test frame safe =
      framed (Got byte good) COMMAND max 68 F (IsGot byte good)
      (λ g. obeyed (image_keys bytes) (g R4) (not (g R5 == 0))) unlifted (unlifts (Got byte good) refl) refl frame
      (λ r4 r5 x m1 board1 g offers is as_was inv1 safe1. command_law d bytes hk small low held x m1 board1 g ring inv1
      safe1)
      (λ r4 r5 g offers is.
      let k : Keyboard = kbd_of held f ring in
      ap (λ b. obeyed (image_keys bytes) b (not (g R5 == 0)) k) is.0 ∙ ap (λ v. obeyed (image_keys bytes) byte v k) is.1
      ∙ sym (ap (λ t. tested_if (not t) (met (Got byte good) (image_keys bytes) k)) no_test)) inv safe

  -- the controller cut the frame off
  pub cut_works : (max : ℕ) (F : Stage d.State → Type 0) → Inv f → (f TEST == 0) ≡ true → FrameLaw SCAN max F IsCut
      → Safe m (TICK + 3) f ring
      → Works d bytes hk alike small low held y m board f ring Cut
      (231 + (max + (0 + (56 + (2 + edges_most bytes (changes_now d bytes hk alike small low held y m board f ring)))))) F
  cut_works max F inv no_test frame safe =
      framed Cut SCAN max 0 F IsCut (λ g k. k) unlifted (unlifts Cut refl) refl frame
      (λ r4 r5 x m1 board1 g offers is as_was inv1 safe1.
      here d (kernel_in true bytes) (has_rows true bytes hk) small low (Keeps held (λ k. k) g ring) x SCAN m1 board1 g
      ring safe1.0
      (record { kbd = refl; inv = inv1; cells = λ i l u. refl; layers = λ i l u. refl; stack = (refl, refl) }))
      (λ r4 r5 g offers is. sym (ap (λ t. tested_if (not t) (met Cut (image_keys bytes) (kbd_of held f ring))) no_test))
      inv safe
