-- The laws of frames at any working processor, in the words of the joint run.
use Rattle.std.proofs.Common.{◌≡◌, ◌<◌, ℕ, ◌+◌, ◌-◌, ◌*◌, ◌==◌, ◌||◌, List, Bool, true, false, drop, length}
use Rattle.std.proofs.Common.{slice_index}
use Rattle.std.proofs.Common.{refl, ap, sym, ◌∙◌, subst, arith}
use Rattle.mcs48_core.specs.Cpu.{Cpu}
use Rattle.board_terms.specs.declared.event.Edge.{Edge}
use Rattle.board_terms.specs.declared.event.HostEvent.{HostEvent}
use Rattle.board_terms.specs.declared.lines.Lines.{Lines}
use Rattle.ctl_wire.specs.Wire.{drive}
use Rattle.fw_kernel.specs.declared.cells.TheConstants.{R0, R1, R2, R3, R4, R5, R6}
use Rattle.fw_kernel.specs.Places.{HasKernel}
use Rattle.fw_kernel.specs.declared.labels.TheConstants.{TICK, SEND, SENT, SCAN, GOT, COMMAND}
use Rattle.law_fw_logic.proofs.Block.{memory, scratched, begin_at, At}
use Rattle.law_fw_logic.proofs.BlockLaws.{cells_of, others_are, from_world, at_end}
use Rattle.law_fw_logic.proofs.Cells.{cell}
use Rattle.law_fw_logic.proofs.TimerParts.{IsFree}
use Rattle.law_fw_logic.proofs.Kernel.{kernel_in}
use Rattle.law_fw_logic.proofs.Leads.{Leads}
use Rattle.law_fw_logic.proofs.Memory.{memory_is}
use Rattle.law_fw_link.specs.Frames.{is_sending, is_receiving, Passed, Offers, Awaits, Received, SentLaw, CutLaw, GotLaw}
use Rattle.law_fw_link.specs.Frames.{PulledLaw, at_again, at_edge, is_let}
use Rattle.law_fw_link.specs.Drives.{Drives}
use Rattle.law_fw_link.specs.Latch.{IsLook, sent_latch, cut_latch, cut_after, received_latch}
use Rattle.law_fw_link.proofs.Cut.{left_at_cut}
use Rattle.law_fw_link.proofs.Got.{got_frame}
use Rattle.law_fw_link.proofs.Got.{at_offset as got_offset}
use Rattle.law_fw_link.proofs.Latches.{driven}
use Rattle.law_fw_link.proofs.Lets.{lets_from, from_edge, pulled_lets}
use Rattle.law_fw_link.proofs.Over.{IsOver, under}
use Rattle.law_fw_link.proofs.Received.{got_cells}
use Rattle.law_fw_link.proofs.Sending.{sending}
use Rattle.law_fw_link.proofs.Sent.{sent_whole, sent_cut, at_cut}
use Rattle.law_fw_link.proofs.Sent.{at_offset as sent_offset}
use Rattle.law_fw_link.proofs.Watching.{watching, watched, drives_by, driven_good}
use Rattle.law_fw_link.proofs.Wired.{IsReleased}
use Rattle.ctl_link.specs.declared.link.Link.TheVariants.{Request}
use Rattle.joint_run.specs.Joint.{Beside, joint_board, latch_of}
use Rattle.joint_run.specs.Run.{Board, World}
use Rattle.joint_run.specs.Starts.{Comes}
use Rattle.law_wires_agree.specs.Cycles.{board_cycles}

-- where none of five tests holds, each fails
none_of_five : (a b c p q : Bool) → (a || b || c || p || q) ≡ false
    → (a ≡ false) × (b ≡ false) × (c ≡ false) × (p ≡ false) × (q ≡ false)
none_of_five false false false false false h = (refl, refl, refl, refl, refl)
none_of_five true b c p q h = absurd cc
none_of_five false true c p q h = absurd cc
none_of_five false false true p q h = absurd cc
none_of_five false false false true q h = absurd cc
none_of_five false false false false true h = absurd cc

-- cells that a frame leaves alone
sent_others : (f : ℕ → ℕ) (v byte k n r0 i : ℕ) → is_sending i ≡ false → sending f v byte k n r0 i ≡ f i
sent_others f v byte k n r0 i out =
    let h = none_of_five (i == R0) (i == R1) (i == R2) (i == R3) (i == R6) out in
    rw (h.0, h.1, h.2, h.3, h.4) refl

got_others : (f : ℕ → ℕ) (byte i : ℕ) → is_receiving i ≡ false → got_cells f byte true i ≡ f i
got_others f byte i out =
    let h = none_of_five (i == R0) (i == R1) (i == R3) (i == R4) (i == R5) out in
    rw (h.0, h.1, h.2, h.3, h.4) refl

abbrev released_of : (start byte : ℕ) (w : World Beside) → Offers start byte w → IsReleased w.cpu.p2
released_of start byte w h = record { byte = h.latch; clock = h.clock; data_wire = h.data_wire }

-- on any board above the joint board
module _ (bytes : List ℕ) (has : HasKernel bytes) (edges : List Edge) (events : List HostEvent) (d : Board)
    (to : d.State → Beside) (over : IsOver edges events d to) (start byte : ℕ) (w : World d.State)
    (lines : ℕ → Lines) where
  abbrev m : Cpu
  m = w.cpu

  abbrev f : ℕ → ℕ
  f = cells_of m.ram

  abbrev ring : List ℕ
  ring = drop 112 m.ram

  -- the state of the joint run
  abbrev u : World Beside
  u = under to w

  -- the board so many cycles on, over a latch; and what is beside the processor then
  abbrev out : (ℕ → ℕ) → ℕ → d.State
  out latch n = driven d w.cycle latch n 0 w.board

  abbrev beside : ℕ → ℕ → Beside
  beside n cycle = record { pc = board_cycles events lines n cycle (to w.board).pc; shown = (to w.board).shown }

  -- it is known at the cycle of the look at data
  at_start : (latch : ℕ → ℕ) (n : ℕ) → w.cycle ≡ 260 + start
      → to (driven d (260 + start) latch n 0 w.board) ≡ beside n (260 + start)
      → to (out latch n) ≡ beside n w.cycle
  at_start latch n at is = subst (λ c. to (driven d c latch n 0 w.board) ≡ beside n c) (sym at) is

  -- a frame has passed, and the board has gone on by its latch
  abbrev Goes : (ℕ → Bool) → ℕ → ℕ → (ℕ → ℕ) → World d.State → Type 0
  Goes written place n latch e =
      Passed events lines written place n u (under to e) × (e.board ≡ out latch n)

  -- what a block's end says in these words
  passed_by : (written : ℕ → Bool) (place n : ℕ) (g : ℕ → ℕ) (long : length w.cpu.ram ≡ 128) (e : World d.State)
      → ((i : ℕ) → i < 112 → written i ≡ false → g i ≡ f i)
      → e.cpu ≡ scratched m place (memory g ring) e.cpu → IsFree e.cpu → e.cycle ≡ w.cycle + n
      → to e.board ≡ beside n w.cycle
      → Passed events lines written place n u (under to e)
  passed_by written place n g long e same cpu free cycle board = record {
    to = at_end d bytes has w e m place g long cpu free;
    cycle = cycle;
    pc = ap (λ (b : Beside). b.pc) board;
    shown = ap (λ (b : Beside). b.shown) board;
    p1 = ap (λ (c : Cpu). c.p1) cpu;
    p2 = ap (λ (c : Cpu). c.p2) cpu;
    f1 = ap (λ (c : Cpu). c.f1) cpu;
    others = λ i out.
        ap (λ (c : Cpu). slice_index c.ram i) cpu ∙ others_are f g ring written same i out
        ∙ ap (λ r. slice_index r i) (sym (memory_is m.ram long));
  }

  -- the looks are reported from the state's cycle
  abbrev lets : ℕ → ℕ → Bool
  lets c o = (drive (board_cycles events lines o c (to w.board).pc).side.port.link).clk

  module _ (h : Offers start byte u) where
    abbrev released : IsReleased m.p2
    released = released_of start byte u h

    -- on any board above the joint one the kernel sends a whole frame if the controller leaves the clock alone
    pub sent_over : ((o : ℕ) → o < 368 → lines (260 + start + o) ≡ latch_of (sent_latch m.p2 byte o))
        → ((look : ℕ) → IsLook look → is_let events lines u look ≡ true)
        → Comes d TICK bytes w (Goes is_sending SENT 368 (sent_latch m.p2 byte))
    sent_over drives high =
        let latch : ℕ → ℕ = sent_latch m.p2 byte in
        let g : ℕ → ℕ = sending f m.p2 byte 10 0 0 in
        from_world d bytes has w SEND h.at f (memory_is m.ram h.at.memory) m SENT 368 g (out latch 368)
        (Goes is_sending SENT 368 latch)
        (subst (λ c. Leads d (kernel_in true bytes) c (begin_at d SEND f ring m w.board)
        (At d m SENT g ring 368 (driven d c latch 368 0 w.board))) (sym h.cycle)
        (sent_whole edges events d to over bytes has start m w.board f ring m.p2 byte released h.small lines h.shown
        refl h.data_low h.ready h.offered h.some drives
        (subst (λ c. (o : ℕ) → IsLook o → lets c o ≡ true) h.cycle high) h.at.free))
        (λ e cpu free cycle board. (
          passed_by is_sending SENT 368 g h.at.memory e (λ i l out. sent_others f m.p2 byte 10 0 0 i out) cpu free cycle
              (ap to board ∙ at_start latch 368 h.cycle
              (sent_offset edges events d to over bytes has start m w.board f ring m.p2 byte released h.small lines
              h.shown refl h.data_low h.ready h.offered h.some drives 368 (omega arith))),
          board,
        ))

    -- on any board above the joint one the kernel leaves a frame at the first look that finds the clock low
    pub cut_over : (look : ℕ) → IsLook look
        → ((o : ℕ) → o < cut_after look → lines (260 + start + o) ≡ latch_of (cut_latch m.p2 byte look o))
        → ((earlier : ℕ) → IsLook earlier → earlier < look → is_let events lines u earlier ≡ true)
        → is_let events lines u look ≡ false
        → Comes d TICK bytes w (Goes is_sending SCAN (cut_after look) (cut_latch m.p2 byte look))
    cut_over look is drives high low =
        let latch : ℕ → ℕ = cut_latch m.p2 byte look in
        let left : ℕ × ℕ × ℕ = left_at_cut f byte look is in
        let g : ℕ → ℕ = sending f m.p2 byte left.0 left.1 left.2 in
        let n : ℕ = cut_after look in
        from_world d bytes has w SEND h.at f (memory_is m.ram h.at.memory) m SCAN n g (out latch n)
        (Goes is_sending SCAN n latch)
        (subst (λ c. Leads d (kernel_in true bytes) c (begin_at d SEND f ring m w.board)
        (At d m SCAN g ring n (driven d c latch n 0 w.board))) (sym h.cycle)
        (sent_cut edges events d to over bytes has start m w.board f ring m.p2 byte released h.small lines h.shown refl
        h.data_low h.ready h.offered h.some look is drives
        (subst (λ c. (o : ℕ) → IsLook o → o < look → lets c o ≡ true) h.cycle high)
        (ap (λ c. lets c look) (sym h.cycle) ∙ low) h.at.free))
        (λ e cpu free cycle board. (
          passed_by is_sending SCAN n g h.at.memory e (λ i l out. sent_others f m.p2 byte left.0 left.1 left.2 i out)
              cpu free cycle
              (ap to board ∙ at_start latch n h.cycle
              (at_cut edges events d to over bytes has start m w.board f ring m.p2 byte released h.small lines h.shown
              refl h.data_low h.ready h.offered h.some look is drives n (omega arith))),
          board,
        ))

  -- on any board above the joint one the kernel reads the byte that the controller requests to send
  pub got_over : Awaits start u → byte < 256
      → ((o : ℕ) → o < 366 → lines (260 + start + o) ≡ latch_of (received_latch m.p2 o))
      → (at_again events lines u).side.port.link ≡ Request byte
      → (at_edge events lines u).side.port.link ≡ Request byte → (at_edge events lines u).clock ≡ true
      → Comes d TICK bytes w
      (λ e. Received events lines byte u (under to e) × (e.board ≡ out (received_latch m.p2) 366))
  got_over h small drives asks link clock =
      let latch : ℕ → ℕ = received_latch m.p2 in
      let g : ℕ → ℕ = got_cells f byte true in
      let free : IsReleased m.p2 = record { byte = h.latch; clock = h.clock; data_wire = h.data_wire } in
      from_world d bytes has w GOT h.at f (memory_is m.ram h.at.memory) m COMMAND 366 g (out latch 366)
      (λ e. Received events lines byte u (under to e) × (e.board ≡ out latch 366))
      (subst (λ c. Leads d (kernel_in true bytes) c (begin_at d GOT f ring m w.board)
      (At d m COMMAND g ring 366 (driven d c latch 366 0 w.board))) (sym h.cycle)
      (got_frame edges events d to over bytes has start m w.board f ring free h.acc lines byte small h.shown drives
      (ap (λ c. (board_cycles events lines 26 c (to w.board).pc).side.port.link) (sym h.cycle) ∙ asks)
      (ap (λ c. (board_cycles events lines 28 c (to w.board).pc).side.port.link) (sym h.cycle) ∙ link)
      (ap (λ c. (board_cycles events lines 28 c (to w.board).pc).clock) (sym h.cycle) ∙ clock) h.at.free))
      (λ e cpu ok cycle board. (
        record {
          passed =
              passed_by is_receiving COMMAND 366 g h.at.memory e (λ i l out. got_others f byte i out) cpu ok cycle
              (ap to board ∙ at_start latch 366 h.cycle
              (got_offset edges events d to over bytes has start m w.board f ring free h.acc lines byte small h.shown
              drives 366 (omega arith)));
          r4 = ap (λ (c : Cpu). slice_index c.ram R4) cpu ∙ cell g ring R4 (omega arith);
          r5 = ap (λ (c : Cpu). slice_index c.ram R5) cpu ∙ cell g ring R5 (omega arith);
        },
        board,
      ))

-- the joint board, watched: in each of n cycles the latch was this
module _ (edges : List Edge) (events : List HostEvent) (w : World Beside) (latch : ℕ → ℕ) where
  abbrev joint : Board
  joint = joint_board edges events

  abbrev by_cycle : ℕ → ℕ
  by_cycle c = latch (c - w.cycle)

  abbrev watch : Board
  watch = watching joint by_cycle

  abbrev beneath : watch.State → Beside
  beneath s = s.under

  watch_over : IsOver edges events watch beneath
  watch_over = record { pins = λ p1 p2 cycle s. refl; cycle = λ p2 cycle s. refl }

  watched_by : (bytes : List ℕ) (n : ℕ) (Q : World Beside → Type 0)
      → Comes watch TICK bytes (watched w)
      (λ e. Q (under beneath e) × (e.board ≡ driven watch w.cycle latch n 0 (watched w).board))
      → Drives joint TICK bytes w by_cycle Q
  watched_by bytes n Q come =
      drives_by joint by_cycle TICK bytes w
      (λ e. Q (under beneath e) × (e.board ≡ driven watch w.cycle latch n 0 (watched w).board)) Q
      (λ e g. (
        g.0,
        ap (λ (s : watch.State). s.good) g.1
            ∙ driven_good joint by_cycle w.cycle latch n 0 (watched w).board
            (λ o a u. let p : o ≡ w.cycle + o - w.cycle = omega arith in ap latch p) refl,
      ))
      come

-- while the controller leaves the clock alone, the kernel sends the byte that is offered as a whole frame
pub sent_law : SentLaw
sent_law bytes has edges events start byte w h lines drives high =
    let latch : ℕ → ℕ = sent_latch w.cpu.p2 byte in
    watched_by edges events w latch bytes 368 (Passed events lines is_sending SENT 368 w)
    (sent_over bytes has edges events (watch edges events w latch) (beneath edges events w latch)
    (watch_over edges events w latch) start byte (watched w) lines h drives high)

-- at the first look that finds the clock low, the kernel lets both wires go, and the frame is cut
pub cut_law : CutLaw
cut_law bytes has edges events start byte look w h is lines drives high low =
    let latch : ℕ → ℕ = cut_latch w.cpu.p2 byte look in
    watched_by edges events w latch bytes (cut_after look) (Passed events lines is_sending SCAN (cut_after look) w)
    (cut_over bytes has edges events (watch edges events w latch) (beneath edges events w latch)
    (watch_over edges events w latch) start byte (watched w) lines h look is drives high low)

-- the kernel reads the byte that the controller sends, with its parity
pub got_law : GotLaw
got_law bytes has edges events start byte w h small lines drives asks link clock =
    let latch : ℕ → ℕ = received_latch w.cpu.p2 in
    watched_by edges events w latch bytes 366 (Received events lines byte w)
    (got_over bytes has edges events (watch edges events w latch) (beneath edges events w latch)
    (watch_over edges events w latch) start byte (watched w) lines h small drives asks link clock)

-- the look in the first cell, by what is at the first edge
look_from_edge : (events : List HostEvent) (lines : ℕ → Lines) (start : ℕ) (w : World Beside) → w.cycle ≡ 260 + start
    → is_let events lines w 46 ≡ lets_from events lines start (at_edge events lines w) 0
look_from_edge events lines start w at =
    ap (λ c. (drive (board_cycles events lines (28 + 32 * 0 + 18) c w.board.pc).side.port.link).clk) at
    ∙ from_edge events lines start w.board.pc 0
    ∙ ap (λ c. lets_from events lines start (board_cycles events lines 28 c w.board.pc) 0) (sym at)

-- a pull that begins after the look at the clock is found at the latest by the look in the first cell
pub pulled_law : PulledLaw
pulled_law events start w at lines since from pulls =
    look_from_edge events lines start w at ∙ pulled_lets events lines start (at_edge events lines w) since from pulls
