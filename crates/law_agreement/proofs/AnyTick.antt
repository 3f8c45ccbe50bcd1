-- A tick on any board, by its frame and its meeting: what its looks find decides what it does.
use Rattle.std.proofs.Common.{◌≡◌, ◌≤◌, ◌<◌, ℕ, ◌+◌, ◌*◌, ◌/◌, ◌%◌, List, All, Bool, true, false, length, drop}
use Rattle.std.proofs.Common.{refl, ap, sym, ◌∙◌, subst, arith}
use Rattle.mcs48_core.specs.Cpu.{Cpu}
use Rattle.fw_kernel.specs.declared.cells.TheConstants.{LIGHTS}
use Rattle.fw_kernel.specs.Places.{HasKernel}
use Rattle.fw_kernel.specs.declared.labels.TheConstants.{TICK}
use Rattle.law_fw_keys.proofs.Begun.{IsAnyStart}
use Rattle.law_fw_keys.proofs.Block.{Safe}
use Rattle.law_fw_keys.proofs.Ended.{AtHead}
use Rattle.law_fw_keys.proofs.Frames.{sent_works, cut_works, got_works}
use Rattle.law_fw_keys.proofs.FramelessTick.{changed_in, columns_by, four, fine, inv, board3, held_before, cpu_at_head, Came, any_tick, works}
use Rattle.law_fw_keys.proofs.Scan.{columns_most, edges_most}
use Rattle.law_fw_keys.proofs.Settle.{settle_cycles, settle_short}
use Rattle.law_fw_keys.proofs.Serve.{Work, any_edges, fit}
use Rattle.law_fw_keys.specs.Edges.{image_keys, IsSilentAlike}
use Rattle.law_fw_keys.specs.Frameless.{cells_in, shown_by, layers_by, IsRepeating, IsFrameless, edges_now, latch_now}
use Rattle.law_fw_keys.specs.Frameless.{clock_now, data_now, data_again}
use Rattle.law_fw_keys.specs.State.{debounces, Inv}
use Rattle.law_fw_link.proofs.Latches.{driven}
use Rattle.law_fw_link.proofs.TickLatch.{before_data, within, afterwards, without_frame}
use Rattle.law_fw_link.proofs.Wired.{IsReleased, lights_leave, spans_on, spans_as}
use Rattle.law_fw_link.proofs.Wires.{look_within}
use Rattle.law_fw_link.specs.Latch.{Frame, NoFrame, SentFrame, CutFrame, ReceivedFrame, frame_latch, frame_cycles}
use Rattle.law_fw_link.specs.Latch.{IsLook, sent_latch, cut_after, tick_latch}
use Rattle.law_fw_link.specs.Reading.{byte_in, right_in}
use Rattle.law_fw_logic.proofs.Laws.{comes_as}
use Rattle.law_fw_logic.proofs.Path.{Stage}
use Rattle.law_fw_logic.proofs.Service.{stacked}
use Rattle.law_fw_logic.proofs.Timers.{TimerState, IsInRange, timer_of}
use Rattle.law_fw_logic.specs.Scan.{in_tick}
use Rattle.mcs48_ranges.specs.Sizes.{IsByte}
use Rattle.joint_run.specs.Run.{Board, World, after_cycles}
use Rattle.joint_run.specs.Starts.{Tick}
use Rattle.model_keyboard.specs.Keyboard.{Keyboard}
use Rattle.model_keyboard.specs.declared.meeting.Meeting.{Meeting}
use Rattle.model_keyboard.specs.declared.meeting.Meeting.TheVariants.{Sent, Cut, Got}
use Rattle.law_agreement.proofs.AtLook.{one_byte, sent_at, received_at}
use Rattle.law_agreement.proofs.Fitting.{Afterwards, clock, data_wire, data_second, clock_look, data_look}
use Rattle.law_agreement.proofs.Fitting.{sends_frame, cuts_frame, gets_frame}
use Rattle.law_agreement.proofs.Ran.{Ran}
use Rattle.law_agreement.proofs.Lit.{shine, from_lights, from_head}
use Rattle.law_agreement.proofs.Pressing.{pressed_at}
use Rattle.law_agreement.specs.AnyKeys.{longest_by, longest_tick, tick_by, tick_with}
use Rattle.law_agreement.specs.Firmware.{Finds, HasWholeCodes, Offers, IsOpen, clock_in, data_in, board_at}

module _ (d : Board) (bytes : List ℕ) (hk : HasKernel bytes) (alike : IsSilentAlike bytes) (small : All IsByte bytes)
    (low : (p1 p2 c : ℕ) (s : d.State) → (d.pins p1 p2 c s).bus < 256) (w : World d.State)
    (s : IsAnyStart w.cpu) (repeats : IsRepeating bytes w.cpu.ram) where
  -- the latch from the lights on, the tick's start, and the keyboard
  abbrev v : ℕ
  v = latch_now d w

  abbrev start : ℕ
  start = w.cycle

  abbrev kbd : Keyboard
  kbd = shown_by w.cpu.ram

  -- what the laws of a tick's work are reported: cells, ring and held keys; where the work begins; and its head's end
  abbrev f : ℕ → ℕ
  f = cells_in w.cpu.ram

  abbrev ring : List ℕ
  ring = drop 112 w.cpu.ram

  abbrev held : List Bool
  held = held_before d bytes hk alike small low w s

  abbrev first : TimerState → Cpu
  first l = cpu_at_head d bytes hk alike small low w s l

  abbrev third : d.State
  third = board3 d bytes hk alike small low w s

  abbrev begins : Inv (stacked f)
  begins = inv d bytes hk alike small low w s

  abbrev y : ℕ
  y = start + 3 + 231

  abbrev shines : TimerState → d.State
  shines l = shine d bytes hk alike small low w s l

  -- the lights are above the wires' bits
  pub released : IsReleased v
  released =
      let lamps : f LIGHTS ≡ 16 * (f LIGHTS / 16 % 8) = s.inv.lamps in
      lights_leave (f LIGHTS) (omega (arith, lamps)) (omega (arith, lamps))

  -- the latch of the tick, with a frame; and the board so many cycles past its start
  abbrev latch : Frame → ℕ → ℕ
  latch frame = tick_latch w.cpu.p2 v frame

  abbrev gone : Frame → ℕ → d.State
  gone frame n = board_at d w frame n

  abbrev Comes : Meeting → ℕ → (TimerState → Stage d.State → Type 0) → World d.State → Type 0
  Comes meeting last_off G u = Came d bytes hk alike small low w s meeting last_off G u

  abbrev So : Meeting → Frame → World d.State → Type 0
  So meeting frame u = Ran d bytes meeting frame w u

  abbrev debounce : Bool
  debounce = debounces bytes

  -- each bound is a tick's length at least
  room : (b : Bool) (keys : ℕ) → (2054 ≤ longest_by b) × (2054 ≤ tick_by b keys)
  room false keys = (omega arith, omega arith)
  room true keys = (omega arith, omega arith)

  -- and the longest is short enough for the timer
  under : (b : Bool) (k : ℕ) → k ≤ longest_by b → k ≤ 8314
  under false k l = omega (arith, l)
  under true k l = l

  -- the work of a tick fits: with four edges at most it is in time, and it is never longer than the longest
  record Fits (last_off : ℕ) : Type 0 where
    few : length (edges_now bytes d w) ≤ 4 → 3 + last_off ≤ 2000
    any : 7 + last_off ≤ longest_tick bytes
    keys : 7 + last_off ≤ tick_with bytes (length (edges_now bytes d w))

  -- a tick that came to its end, by the board there
  came_so : (meeting : Meeting) (last_off : ℕ) (G : TimerState → Stage d.State → Type 0) (frame : Frame)
      (u : World d.State) → Fits last_off → (c : Comes meeting last_off G u) → c.from.cpu.p2 ≡ v → ((n : ℕ) → u.cycle ≡ start + n → u.board ≡ gone frame n)
      → So meeting frame u
  came_so meeting last_off G frame u fits c p2 is = record {
    started = c.started (let any : 7 + last_off ≤ 8314 = under debounce (7 + last_off) fits.any in omega (arith, any));
    later = c.long;
    soon = c.within (longest_tick bytes) (room debounce (length (edges_now bytes d w))).0 fits.any;
    by_keys = c.within (tick_with bytes (length (edges_now bytes d w))) (room debounce (length (edges_now bytes d w))).1 fits.keys;
    prompt = λ started few. c.prompt started (let room : 3 + last_off ≤ 2000 = fits.few few in omega (arith, room));
    settles = λ few. c.settles (fits.few few);
    keyboard = c.keyboard;
    layers = c.layers;
    read = c.read;
    repeating = c.repeating;
    latch = c.p2 ∙ p2;
    passes = c.passes;
    board = is;
  }

  -- without a frame no port is written from the head's end on
  abbrev head : TimerState → Stage d.State → Type 0
  head l = AtHead d bytes hk alike small low held (start + 3) (first l) third (stacked f) ring

  still_came : (meeting : Meeting) (last_off : ℕ) (u : World d.State) → Fits last_off → Comes meeting last_off head u
      → So meeting NoFrame u
  still_came meeting last_off u fits c =
      came_so meeting last_off head NoFrame u fits c c.facts.p2
      (λ j e.
      let off : c.from.off ≡ 231 = c.facts.off in
      let at : u.cycle ≡ start + (3 + c.from.off) + c.n = c.cycle in
      let z : start + (3 + c.from.off) ≡ y = omega (arith, off) in
      let n : 234 + c.n ≡ j = omega (arith, off, at, e) in
      c.board_now ∙ ap (λ p. after_cycles c.n (start + (3 + c.from.off)) (d.cycle p) c.from.board) c.facts.p2
      ∙ ap (λ q. after_cycles c.n (start + (3 + c.from.off)) (d.cycle v) q) c.facts.board_is
      ∙ ap (λ x. after_cycles c.n x (d.cycle v) (shines c.l)) z
      ∙ from_head d bytes hk alike small low w s NoFrame c.l c.n
      (λ i l. without_frame w.cpu.p2 v (232 + i) (omega arith))
      ∙ ap (gone NoFrame) n)

  -- the board in a frame, by the latch of the tick
  abbrev framing : TimerState → d.State
  framing l = after_cycles 26 y (d.cycle v) (shines l)

  in_frame : (frame : Frame) (l : TimerState) (n : ℕ) → n ≤ frame_cycles frame
      → driven d (260 + start) (frame_latch frame v) n 0 (framing l) ≡ gone frame (260 + n)
  in_frame frame l n room =
      spans_as d start (latch frame) n 260 (260 + start) (frame_latch frame v) (framing l) w.board (omega arith)
      (λ i u. sym (within w.cpu.p2 v frame i (omega (arith, u, room))))
      (from_head d bytes hk alike small low w s frame l 26
      (λ i u. before_data w.cpu.p2 v frame i (omega (arith, u))))

  -- a frame of n cycles, after which the latch leaves both wires alone
  abbrev framed : Frame → TimerState → Stage d.State → Type 0
  framed frame l = Afterwards d v start (frame_latch frame v) (frame_cycles frame) (framing l)

  frame_came : (meeting : Meeting) (frame : Frame) (last_off : ℕ) (u : World d.State) → Fits last_off
      → Comes meeting last_off (framed frame) u → So meeting frame u
  frame_came meeting frame last_off u fits c =
      came_so meeting last_off (framed frame) frame u fits c c.facts.p2
      (λ j e.
      let n : ℕ = frame_cycles frame in
      let off : c.from.off ≡ 257 + n = c.facts.off in
      let at : u.cycle ≡ start + (3 + c.from.off) + c.n = c.cycle in
      let z : start + (3 + c.from.off) ≡ start + (260 + n) = omega (arith, off) in
      let i : 260 + n + c.n ≡ j = omega (arith, off, at, e) in
      c.board_now ∙ ap (λ p. after_cycles c.n (start + (3 + c.from.off)) (d.cycle p) c.from.board) c.facts.p2
      ∙ ap (λ q. after_cycles c.n (start + (3 + c.from.off)) (d.cycle v) q) c.facts.board_is
      ∙ spans_on d start (latch frame) c.n (260 + n) (start + (3 + c.from.off)) v
      (driven d (260 + start) (frame_latch frame v) n 0 (framing c.l)) w.board z (λ i l. afterwards w.cpu.p2 v frame i)
      (in_frame frame c.l n (omega arith))
      ∙ ap (gone frame) i)

  -- the looks of the tick
  clock_is : (l : TimerState)
      → clock d bytes hk alike small low held (start + 3) (first l) third (stacked f) ring start refl released
      ≡ clock_now d w
  clock_is l =
      let a : y + 22 ≡ start + 232 + 24 = omega arith in
      ap (λ q. (d.pins 44 v (y + 22) q).t0) (from_lights d bytes hk alike small low w s l 22 y (omega arith))
      ∙ ap (λ c. (d.pins 44 v c (after_cycles 24 (start + 232) (d.cycle v) (in_tick d w 232))).t0) a

  data_is : (l : TimerState)
      → data_wire d bytes hk alike small low held (start + 3) (first l) third (stacked f) ring start refl released
      ≡ data_now d w
  data_is l =
      let a : y + 24 ≡ start + 232 + 26 = omega arith in
      ap (λ q. (d.pins 44 v (y + 24) q).t1) (from_lights d bytes hk alike small low w s l 24 y (omega arith))
      ∙ ap (λ c. (d.pins 44 v c (after_cycles 26 (start + 232) (d.cycle v) (in_tick d w 232))).t1) a

  second_is : (l : TimerState)
      → data_second d bytes hk alike small low held (start + 3) (first l) third (stacked f) ring start refl released
      ≡ data_again d w
  second_is l =
      let a : y + 52 ≡ start + 232 + 54 = omega arith in
      ap (λ q. (d.pins 44 v (y + 52) q).t1) (from_lights d bytes hk alike small low w s l 52 y (omega arith))
      ∙ ap (λ c. (d.pins 44 v c (after_cycles 54 (start + 232) (d.cycle v) (in_tick d w 232))).t1) a

  -- those of a frame, by the offset from the look at data
  abbrev look_off : ℕ → ℕ
  look_off k = 28 + 32 * k + 18

  clock_look_is : (l : TimerState) (byte look : ℕ) → IsLook look
      → clock_look d bytes hk alike small low held (start + 3) (first l) third (stacked f) ring start refl released byte
      look
      ≡ clock_in d w byte look
  clock_look_is l byte look is =
      let frame : Frame = SentFrame byte in
      let far : look ≤ 334 = look_within look is in
      let a : 260 + start + look ≡ start + (260 + look) = omega arith in
      ap (λ b. (d.pins 44 (sent_latch v byte look) (260 + start + look) b).t0)
      (in_frame frame l look (omega (arith, far)))
      ∙ ap (λ u. (d.pins 44 u (260 + start + look) (gone frame (260 + look))).t0)
      (sym (sent_at w.cpu.p2 v byte look is))
      ∙ ap (λ c. (d.pins 44 (latch frame (260 + look)) c (gone frame (260 + look))).t0) a

  data_look_is : (l : TimerState) (k : ℕ) → k < 10
      → data_look d bytes hk alike small low held (start + 3) (first l) third (stacked f) ring start refl released k
      ≡ data_in d w k
  data_look_is l k few =
      let frame : Frame = ReceivedFrame in
      let o : 260 + look_off k ≡ 306 + 32 * k = omega arith in
      let a : 260 + start + look_off k ≡ start + (306 + 32 * k) = omega arith in
      ap (λ b. (d.pins 44 v (260 + start + look_off k) b).t1)
      (in_frame frame l (look_off k) (omega (arith, few)) ∙ ap (gone frame) o)
      ∙ ap (λ u. (d.pins 44 u (260 + start + look_off k) (gone frame (306 + 32 * k))).t1)
      (sym (received_at w.cpu.p2 v released k few))
      ∙ ap (λ c. (d.pins 44 (latch frame (306 + 32 * k)) c (gone frame (306 + 32 * k))).t1) a

  -- the work of a tick up to an offset
  abbrev Does : Meeting → ℕ → (TimerState → Stage d.State → Type 0) → Type 0
  Does meeting last_off G =
      (l : TimerState) → IsInRange l → Work d bytes hk alike small low start (timer_of w.cpu) f ring w.cpu w.board l meeting last_off (G l)

  abbrev most : ℕ
  most = edges_most bytes (changed_in d bytes hk alike small low w s)

  -- the bounds with the time in which keys settle
  long_enough : (b : Bool) (keys others columns : ℕ) → others ≤ 800 → columns ≤ 7176 → columns ≤ 1224 + 62 * keys
      → (7 + (others + (settle_cycles b + columns)) ≤ longest_by b)
      × (7 + (others + (settle_cycles b + columns)) ≤ tick_by b keys)
  long_enough false keys others columns l m n = (omega (arith, l, m), omega (arith, l, n))
  long_enough true keys others columns l m n = (omega (arith, l, m), omega (arith, l, n))

  -- all but the edges takes so many cycles
  fits_in : (others last_off : ℕ) → last_off ≡ others + most → others ≤ 800 → Fits last_off
  fits_in others last_off sum less =
      let ch : ℕ → ℕ = changed_in d bytes hk alike small low w s in
      let keys : ℕ = length (edges_now bytes d w) in
      let settle : settle_cycles (debounces bytes) ≤ 322 = settle_short (debounces bytes) in
      let by : columns_most ch ≤ 1224 + 62 * keys = columns_by d bytes hk alike small low w s in
      let long = long_enough debounce keys others (columns_most ch) less (any_edges ch) by in
      record {
        few = λ h.
            let edges : most ≤ settle_cycles (debounces bytes) + 728 = four d bytes hk alike small low w s h in
            omega (arith, edges, settle, sum, less);
        any = subst (λ o. 7 + o ≤ longest_tick bytes) (sym sum) long.0;
        keys = subst (λ o. 7 + o ≤ tick_with bytes keys) (sym sum) long.1;
      }

  by_way : (meeting : Meeting) (frame : Frame) (last_off : ℕ) (G : TimerState → Stage d.State → Type 0)
      → Fits last_off → Does meeting last_off G
      → ((u : World d.State) → Fits last_off → Comes meeting last_off G u → So meeting frame u)
      → Tick d TICK bytes w (So meeting frame)
  by_way meeting frame last_off G fits work turn =
      let t = any_tick d bytes hk alike small low w s meeting last_off
      (pressed_at (image_keys bytes) meeting (layers_by w.cpu.ram) kbd repeats) G work in
      record {
        at = t.at;
        first = t.first;
        step = t.step;
        rest = comes_as d TICK bytes (Comes meeting last_off G) (So meeting frame) t.first (λ u c. turn u fits c) t.rest;
      }

  safe : (l : TimerState) → IsInRange l → Safe (first l) 10 (stacked f) ring
  safe l range =
      fit d bytes hk alike small low start (timer_of w.cpu) f ring w.cpu w.board l range
      (fine d bytes hk alike small low w s)

  -- without a frame
  pub quiet : (meeting : Meeting) → IsFrameless d w meeting → Tick d TICK bytes w (So meeting NoFrame)
  quiet meeting q =
      let a = works d bytes hk alike small low w s meeting q in
      let max : a.0 ≤ 56 = a.1 in
      let last_off : ℕ = 231 + (a.0 + (56 + (2 + most))) in
      by_way meeting NoFrame last_off head (fits_in (231 + (a.0 + (56 + 2))) last_off (omega arith) (omega (arith, max))) a.2
      (still_came meeting last_off)

  -- what is offered is sent, or cut at a look
  pub sent : (byte : ℕ) → HasWholeCodes w.cpu.ram → Offers d w byte
      → ((look : ℕ) → IsLook look → clock_in d w byte look ≡ true) → Tick d TICK bytes w (So Sent (SentFrame byte))
  sent byte codes o looks =
      let frame : Frame = SentFrame byte in
      let last_off : ℕ = 231 + (394 + (9 + 98 + (56 + (2 + most)))) in
      by_way Sent frame last_off (framed frame)
      (fits_in (231 + (394 + (9 + 98 + (56 + 2)))) last_off (omega arith) (omega arith))
      (λ l range.
      sent_works d bytes hk alike small low held (start + 3) (first l) third (stacked f) ring 394 (framed frame l)
      refl begins o.0.0 codes
      (sends_frame d bytes hk alike small low held (start + 3) (first l) third (stacked f) ring start refl released
      o.0.0 (clock_is l ∙ o.0.1) byte o.2 (data_is l ∙ o.1)
      (λ look is. clock_look_is l byte look is ∙ looks look is)) (safe l range))
      (frame_came Sent frame last_off)

  -- a tick whose byte is cut at a look is the model's tick in which the byte was cut
  pub cut : (byte look : ℕ) → Offers d w byte → IsLook look
      → ((earlier : ℕ) → IsLook earlier → earlier < look → clock_in d w byte earlier ≡ true)
      → clock_in d w byte look ≡ false → Tick d TICK bytes w (So Cut (CutFrame byte look))
  cut byte look o is looks last =
      let far : look ≤ 334 = look_within look is in
      let frame : Frame = CutFrame byte look in
      let n : ℕ = cut_after look in
      let last_off : ℕ = 231 + (26 + n + (0 + (56 + (2 + most)))) in
      by_way Cut frame last_off (framed frame)
      (fits_in (231 + (26 + n + (0 + (56 + 2)))) last_off (omega arith) (omega (arith, far)))
      (λ l range.
      cut_works d bytes hk alike small low held (start + 3) (first l) third (stacked f) ring (26 + n) (framed frame l)
      begins o.0.0
      (cuts_frame d bytes hk alike small low held (start + 3) (first l) third (stacked f) ring start refl released
      o.0.0 (clock_is l ∙ o.0.1) byte o.2 (data_is l ∙ o.1) look is
      (λ earlier at u. clock_look_is l byte earlier at ∙ looks earlier at u) (clock_look_is l byte look is ∙ last))
      (safe l range))
      (frame_came Cut frame last_off)

  -- a byte is received: what the looks at data read
  pub got : (byte : ℕ) (good : Bool) → byte_in (data_in d w) ≡ byte → right_in (data_in d w) ≡ good → IsOpen d w
      → data_now d w ≡ false → data_again d w ≡ false → Tick d TICK bytes w (So (Got byte good) ReceivedFrame)
  got byte good is right ended pulled still =
      let last_off : ℕ = 231 + (392 + (68 + (56 + (2 + most)))) in
      by_way (Got byte good) ReceivedFrame last_off (framed ReceivedFrame)
      (fits_in (231 + (392 + (68 + (56 + 2)))) last_off (omega arith) (omega arith))
      (λ l range.
      let same = one_byte
      (data_look d bytes hk alike small low held (start + 3) (first l) third (stacked f) ring start refl released)
      (data_in d w) (λ k u. data_look_is l k (omega (arith, u))) in
      got_works d bytes hk alike small low held (start + 3) (first l) third (stacked f) ring byte good 392
      (framed ReceivedFrame l) begins ended.0
      (gets_frame d bytes hk alike small low held (start + 3) (first l) third (stacked f) ring start refl released
      ended.0 (clock_is l ∙ ended.1) byte good (data_is l ∙ pulled) (second_is l ∙ still) (same.0 ∙ is) (same.1 ∙ right)) (safe l range))
      (frame_came (Got byte good) ReceivedFrame last_off)

  -- by what the looks find
  pub every : (frame : Frame) (meeting : Meeting) → HasWholeCodes w.cpu.ram → Finds d w frame meeting
      → Tick d TICK bytes w (So meeting frame)
  every NoFrame meeting codes q = quiet meeting q
  every (SentFrame byte) meeting codes q =
      subst (λ m. Tick d TICK bytes w (So m (SentFrame byte))) (sym q.0) (sent byte codes q.1 q.2)
  every (CutFrame byte look) meeting codes q =
      subst (λ m. Tick d TICK bytes w (So m (CutFrame byte look))) (sym q.0) (cut byte look q.1 q.2 q.3 q.4)
  every ReceivedFrame meeting codes q =
      subst (λ m. Tick d TICK bytes w (So m ReceivedFrame)) (sym q.0)
      (got (byte_in (data_in d w)) (right_in (data_in d w)) refl refl q.1 q.2 q.3)
