-- Ticks without a frame in the words of the joint run.
use Rattle.std.proofs.Common.{◌≡◌, ◌≤◌, ◌<◌, ℕ, ◌+◌, ◌-◌, ◌*◌, Bool, true, false}
use Rattle.std.proofs.Common.{List, All, length, drop, bit_xor, refl, ap, sym, ◌∙◌, subst, arith}
use Rattle.std.proofs.Common.{inl, inr}
use Rattle.mcs48_core.specs.Cpu.{Cpu}
use Rattle.fw_kernel.specs.declared.cells.TheConstants.{HELD, PENDING}
use Rattle.fw_kernel.specs.declared.labels.TheConstants.{TICK, DONE}
use Rattle.fw_kernel.specs.Places.{HasKernel}
use Rattle.joint_run.specs.Run.{Board, World, after_cycles}
use Rattle.joint_run.specs.Starts.{Tick}
use Rattle.mcs48_ranges.specs.Sizes.{IsByte, IsFine}
use Rattle.law_fw_logic.proofs.Entered.{way_back, timer_is}
use Rattle.law_fw_logic.specs.Scan.{in_tick, levels_in}
use Rattle.law_fw_logic.specs.Ticks.{column_read}
use Rattle.law_fw_logic.proofs.Path.{Stage}
use Rattle.law_fw_logic.proofs.Block.{memory}
use Rattle.law_fw_logic.proofs.Blocks.{absolute, joined}
use Rattle.law_fw_logic.proofs.Chain.{ticks_from}
use Rattle.law_fw_logic.proofs.Laws.{comes_as}
use Rattle.law_fw_logic.proofs.Service.{serving, stacked, begun, entering}
use Rattle.law_fw_logic.proofs.Timers.{TimerState, IsInRange, timer_of}
use Rattle.law_fw_logic.proofs.Passing.{Passes}
use Rattle.law_fw_logic.proofs.Returning.{Next}
use Rattle.model_keyboard.specs.declared.meeting.Meeting.{Meeting}
use Rattle.model_keyboard.specs.declared.meeting.Meeting.TheVariants.{Idle, Inhibited, Sent, Cut, Got}
use Rattle.model_keyboard.specs.Codes.{Keys}
use Rattle.model_keyboard.specs.Layers.{Layers, layered, all_layers_after}
use Rattle.model_keyboard.specs.Tick.{ticked}
use Rattle.law_fw_keys.proofs.Keyboard.{IsPressedAt, frameless_pressed}
use Rattle.law_fw_keys.proofs.Patch.{still}
use Rattle.law_fw_keys.specs.State.{keyboard_of, held_by, debounces, read_of, Inv}
use Rattle.law_fw_keys.specs.Edges.{image_keys, tick_edges, IsSilentAlike}
use Rattle.law_fw_keys.specs.Frameless.{cells_in, shown_by, read_by, IsStarted, differing_now, edges_now, latch_now}
use Rattle.law_fw_keys.specs.Frameless.{IsFrameless, GoesOn, IsRepeating, layers_by, layers_met}
use Rattle.law_fw_keys.proofs.Step5.{all_edges}
use Rattle.law_fw_keys.proofs.Held.{held_same}
use Rattle.law_fw_keys.proofs.Scan.{columns_most, edges_most, changes_same, holds_same}
use Rattle.law_fw_keys.proofs.Settle.{changes_by, holds_by, settle_cycles, settle_short}
use Rattle.law_fw_keys.proofs.Settled.{changes_is, changed_small, settled_edges}
use Rattle.law_fw_keys.proofs.Ended.{AtHead, idle_works, glitch_works, inhibited_works, test_works}
use Rattle.std.proofs.lemmas.List.Elements.{All-get_or}
use Rattle.law_fw_keys.proofs.Serve.{found, kept_on, stacked_at, reads, down, changed, held, first, first_board, fit, Goes, Work, tick, tick_passes, edges_by, four_edges}
use Rattle.law_fw_keys.proofs.Begun.{IsAnyStart, columns_same, columns_count, start_entering, entering_start, started_is, xor_small}

-- what was read last, in data memory as the tick left it
read_entering : (b : Bool) (t : TimerState) (now : ℕ → ℕ) (ring : List ℕ) (m : Cpu)
    → read_of b (cells_in (entering t now ring m).ram) ≡ read_of b (stacked now)
read_entering true t now ring m = refl
read_entering false t now ring m = refl

module _ (d : Board) (bytes : List ℕ) (hk : HasKernel bytes) (alike : IsSilentAlike bytes) (small : All IsByte bytes)
    (low : (p1 p2 c : ℕ) (s : d.State) → (d.pins p1 p2 c s).bus < 256)
    (w : World d.State) (s : IsAnyStart w.cpu) where
  abbrev pub keys : Keys
  keys = image_keys bytes

  abbrev pub m : Cpu
  m = w.cpu

  abbrev pub f : ℕ → ℕ
  f = cells_in m.ram

  abbrev pub ring : List ℕ
  ring = drop 112 m.ram

  abbrev pub timer : TimerState
  timer = timer_of m

  abbrev reads_in : ℕ → ℕ
  reads_in = reads d bytes hk alike small low w.cycle timer f ring m w.board

  abbrev pub down_in : ℕ → ℕ
  down_in = down d bytes hk alike small low w.cycle timer f ring m w.board

  abbrev pub changed_in : ℕ → ℕ
  changed_in = changed d bytes hk alike small low w.cycle timer f ring m w.board

  abbrev old : ℕ → d.State → d.State
  old = d.cycle m.p2

  abbrev new : ℕ → d.State → d.State
  new = d.cycle (latch_now d w)

  reads_is : (c : ℕ) → reads_in c ≡ column_read d w c
  reads_is c =
      let x = w.cycle in
      let a : x + 3 + (13 + 16 * c) ≡ x + (16 + 16 * c) = omega arith in
      let n : 3 + (13 + 16 * c) ≡ 16 + 16 * c = omega arith in
      let state : after_cycles (13 + 16 * c) 0 (λ o. old (x + 3 + o)) (after_cycles 3 x old w.board) ≡ in_tick d w (16 + 16 * c) =
      absolute (13 + 16 * c) (x + 3) old (after_cycles 3 x old w.board) ∙ joined 3 (13 + 16 * c) x (x + 3) old w.board refl
      ∙ ap (λ k. after_cycles k x old w.board) n in
      ap (λ b. 255 - (d.pins (32 + c) m.p2 (x + 3 + (13 + 16 * c)) b).bus) state
      ∙ ap (λ k. 255 - (d.pins (32 + c) m.p2 k (in_tick d w (16 + 16 * c))).bus) a

  differing_is : (c : ℕ) → bit_xor (stacked f (HELD + c)) (reads_in c) ≡ differing_now d w c
  differing_is c = ap (λ v. bit_xor v (reads_in c)) (kept_on f c) ∙ ap (λ v. bit_xor (f (HELD + c)) v) (reads_is c)

  pending_is : (c : ℕ) → stacked f (PENDING + c) ≡ f (PENDING + c)
  pending_is c = stacked_at f (PENDING + c) (omega arith)

  abbrev debounce : Bool
  debounce = debounces bytes

  changed_is : (c : ℕ) → changed_in c ≡ changes_by debounce (f (PENDING + c)) (differing_now d w c)
  changed_is c =
      changes_same debounce (stacked f (PENDING + c)) (f (PENDING + c)) (bit_xor (stacked f (HELD + c)) (reads_in c))
      (differing_now d w c) (pending_is c) (differing_is c)

  down_is : (c : ℕ) → down_in c ≡ holds_by debounce (f (PENDING + c)) (differing_now d w c) (column_read d w c)
  down_is c =
      holds_same debounce (stacked f (PENDING + c)) (f (PENDING + c)) (bit_xor (stacked f (HELD + c)) (reads_in c))
      (differing_now d w c) (reads_in c) (column_read d w c) (pending_is c) (differing_is c) (reads_is c)

  cell_small : (i : ℕ) → i < 112 → f i < 256
  cell_small i l =
      All-get_or IsByte m.ram i 0 (let n : length m.ram ≡ 128 = s.fine.long in omega (arith, n, l)) s.fine.ram

  differing_small : (c : ℕ) → c < 12 → differing_now d w c < 256
  differing_small c l = xor_small (f (HELD + c)) (column_read d w c) (cell_small (HELD + c) (omega (arith, l))) (omega arith)

  edges_is : tick_edges changed_in down_in ≡ edges_now bytes d w
  edges_is =
      columns_same changed_in (λ c. changes_by debounce (f (PENDING + c)) (differing_now d w c)) down_in
      (λ c. holds_by debounce (f (PENDING + c)) (differing_now d w c) (column_read d w c)) 0 12 refl (λ i l. changed_is i)
      (λ i l. down_is i)
      ∙ settled_edges debounce (λ c. f (PENDING + c)) (differing_now d w) (column_read d w)
      (λ i l. cell_small (PENDING + i) (omega (arith, l))) differing_small

  read_is : held_by reads_in ≡ held_by (column_read d w)
  read_is = held_same reads_in (column_read d w) (λ c l. reads_is c)

  counted : all_edges changed_in 0 12 ≡ length (edges_now bytes d w)
  counted = sym (columns_count changed_in down_in 0 12) ∙ ap length edges_is

  -- the time of the edges, by how many they are
  pub columns_by : columns_most changed_in ≤ 1224 + 62 * length (edges_now bytes d w)
  columns_by = subst (λ n. columns_most changed_in ≤ 1224 + 62 * n) counted (edges_by changed_in)

  -- a tick with four edges at most has its time
  pub four : length (edges_now bytes d w) ≤ 4 → edges_most bytes changed_in ≤ settle_cycles (debounces bytes) + 728
  four few =
      let count : all_edges changed_in 0 12 ≡ length (edges_now bytes d w) = counted in
      let most : columns_most changed_in ≤ 728 =
      four_edges changed_in (λ i l.
      subst (λ v. v < 256)
      (sym (changed_is i
      ∙ changes_is debounce (f (PENDING + i)) (differing_now d w i) (cell_small (PENDING + i) (omega (arith, l)))
      (differing_small i l)))
      (changed_small debounce (f (PENDING + i)) (differing_now d w i) (differing_small i l)))
      (omega (arith, count, few)) in
      more (settle_cycles (debounces bytes)) (columns_most changed_in) most
    where
      more : (k a : ℕ) → a ≤ 728 → k + a ≤ k + 728
      more k a l = omega (arith, l)

  is : m ≡ entering timer f ring m
  is = start_entering m s

  -- at a tick start all parts of the processor are in their ranges
  pub fine : IsFine (entering timer f ring m)
  fine = subst (λ c. IsFine c) is s.fine

  -- at a tick start the cells are as they are between blocks
  pub inv : Inv (stacked f)
  inv = still (refl, refl, refl, refl, refl) s.inv

  abbrev pub board3 : d.State
  board3 = first_board d bytes hk alike small low w.cycle timer f ring m w.board

  abbrev pub held_before : List Bool
  held_before = held d bytes hk alike small low w.cycle timer f ring m w.board

  abbrev pub cpu_at_head : TimerState → Cpu
  cpu_at_head l = first d bytes hk alike small low w.cycle timer f ring m w.board l

  abbrev from_layers : Meeting → Layers
  from_layers meeting = found d bytes hk alike small low w.cycle timer f ring m w.board meeting

  abbrev IsAtHead : TimerState → Stage d.State → Type 0
  IsAtHead l = AtHead d bytes hk alike small low held_before (w.cycle + 3) (cpu_at_head l) board3 (stacked f) ring

  abbrev shone : d.State
  shone = after_cycles 2 229 (λ o. new (w.cycle + 3 + o)) (after_cycles 229 0 (λ o. old (w.cycle + 3 + o)) board3)

  -- the board at the head's end is that after the lights are put, by the cycle
  pub shone_is : shone ≡ after_cycles 2 (w.cycle + 232) new (in_tick d w 232)
  shone_is =
      let x = w.cycle in
      let a : x + 3 + 229 ≡ x + 232 = omega arith in
      ap (λ b. after_cycles 2 229 (λ o. new (x + 3 + o)) b) (absolute 229 (x + 3) old board3
      ∙ joined 3 229 x (x + 3) old w.board refl)
      ∙ sym (ticks_from 2 229 (x + 3) new (in_tick d w 232)) ∙ ap (λ c. after_cycles 2 c new (in_tick d w 232)) a

  look_is : (n : ℕ) → d.pins 44 (latch_now d w) (w.cycle + 3 + 231 + n)
      (after_cycles n 0 (λ o. new (w.cycle + 3 + 231 + o)) shone) ≡ levels_in d (w.cycle + 232) 44 (latch_now d w)
      (in_tick d w 232) (2 + n)
  look_is n =
      let x = w.cycle in
      let a : x + 3 + 231 + n ≡ x + 232 + (2 + n) = omega arith in
      ap (λ b. d.pins 44 (latch_now d w) (x + 3 + 231 + n) b)
      (absolute n (x + 3 + 231) new shone ∙ ap (λ b. after_cycles n (x + 3 + 231) new b) shone_is
      ∙ joined 2 n (x + 232) (x + 3 + 231) new (in_tick d w 232) (omega arith))
      ∙ ap (λ c. d.pins 44 (latch_now d w) c (after_cycles (2 + n) (x + 232) new (in_tick d w 232))) a

  -- a tick without a frame does the model's work, whatever its meeting is
  pub works : (meeting : Meeting) → IsFrameless d w meeting
      → (max : ℕ) × (max ≤ 56) × ((l : TimerState) → IsInRange l → Work d bytes hk alike small low w.cycle timer f ring m
      w.board l meeting (231 + (max + (56 + (2 + edges_most bytes changed_in)))) (IsAtHead l))
  works Idle (inl runs) = (
    36,
    omega arith,
    λ l range. test_works d bytes hk alike small low held_before (w.cycle + 3) (cpu_at_head l) board3 (stacked f) ring inv runs
        (fit d bytes hk alike small low w.cycle timer f ring m w.board l range fine),
  )
  works Idle (inr (inl q)) = (
    31,
    omega arith,
    λ l range. idle_works d bytes hk alike small low held_before (w.cycle + 3) (cpu_at_head l) board3 (stacked f) ring inv q.0 q.3 (
      ap (λ p. p.t0) (look_is 22) ∙ q.1,
      ap (λ p. p.t1) (look_is 24) ∙ q.2,
    ) (fit d bytes hk alike small low w.cycle timer f ring m w.board l range fine),
  )
  works Idle (inr (inr q)) = (
    56,
    omega arith,
    λ l range. glitch_works d bytes hk alike small low held_before (w.cycle + 3) (cpu_at_head l) board3 (stacked f) ring inv q.0 (
      ap (λ p. p.t0) (look_is 22) ∙ q.1,
      ap (λ p. p.t1) (look_is 24) ∙ q.2,
      ap (λ p. p.t1) (look_is 52) ∙ q.3,
    ) (fit d bytes hk alike small low w.cycle timer f ring m w.board l range fine),
  )
  works Inhibited q = (
    31,
    omega arith,
    λ l range. inhibited_works d bytes hk alike small low held_before (w.cycle + 3) (cpu_at_head l) board3 (stacked f) ring inv q.0
        (ap (λ p. p.t0) (look_is 22)
        ∙ q.1) (fit d bytes hk alike small low w.cycle timer f ring m w.board l range fine),
  )
  works (Got byte good) q = elim q [ ]
  works Sent q = elim q [ ]
  works Cut q = elim q [ ]

  -- a tick of any kind, by its work: the next start, the keyboard a tick later, and the board and the port since a
  -- stage
  -- of which G is known
  pub record Came (meeting : Meeting) (last_off : ℕ) (G : TimerState → Stage d.State → Type 0) (v : World d.State)
      : Type 0 where
    pub started : 3 + last_off ≤ 8400 → IsAnyStart v.cpu
    pub long : w.cycle + 2016 ≤ v.cycle
    pub settles : 3 + last_off ≤ 2000 → IsStarted v.cpu
    pub within : (n : ℕ) → 2054 ≤ n → 7 + last_off ≤ n → v.cycle ≤ w.cycle + n
    pub prompt : IsStarted m → 3 + last_off ≤ 2040
        → IsStarted v.cpu × (v.cycle + m.pre ≡ w.cycle + 2048 + v.cpu.pre)
    pub keyboard : shown_by v.cpu.ram
        ≡ ticked keys meeting (layered keys.is_fn (edges_now bytes d w) (layers_met bytes meeting m.ram)) (shown_by m.ram)
    pub layers : layers_by v.cpu.ram ≡ all_layers_after keys.is_fn (edges_now bytes d w) (layers_met bytes meeting m.ram)
    pub read : read_by bytes v.cpu.ram ≡ held_by (column_read d w)
    pub repeating : IsRepeating bytes v.cpu.ram
    pub passes : Passes d bytes w
    pub l : TimerState
    pub from : Stage d.State
    pub n : ℕ
    pub facts : G l from
    pub cycle : v.cycle ≡ w.cycle + (3 + from.off) + n
    pub p2 : v.cpu.p2 ≡ from.cpu.p2
    pub board_now : v.board ≡ after_cycles n (w.cycle + (3 + from.off)) (d.cycle from.cpu.p2) from.board

  comes_to : (meeting : Meeting) (last_off : ℕ) (G : TimerState → Stage d.State → Type 0) (v : World d.State)
      → Passes d bytes w
      → Next d w.cycle timer (3 + last_off)
      (Goes d bytes hk alike small low w.cycle timer f ring m w.board meeting G) v
      → Came meeting last_off G v
  comes_to meeting last_off G v passes n =
      let g = n.does in
      let e = n.end in
      let x = w.cycle in
      let B : Cpu = entering n.timer n.now n.ring e.cpu in
      let vcpu : v.cpu ≡ B = ap (λ (u : World d.State). u.cpu) n.is in
      let h : IsFine (serving DONE n.now n.ring e.cpu) = subst (λ c. IsFine c) n.cpu g.fine in
      let same : memory n.now n.ring ≡ memory (stacked n.now) n.ring = way_back n.now n.ring g.stack.0 g.stack.1 in
      let fineB : IsFine B = record {
        pc = omega arith;
        a = h.a;
        ram = subst (λ u. All IsByte u) same h.ram;
        long = subst (λ u. length u ≡ 128) same h.long;
        t = n.range.t;
        pre = n.range.pre;
        p1 = h.p1;
        p2 = h.p2;
        bus = h.bus;
        sp = omega arith;
      } in
      let cycle : v.cycle ≡ x + e.off + n.waited = ap (λ (u : World d.State). u.cycle) n.is in
      let off : e.off ≡ 3 + (g.from.off + g.n) = g.off in
      let here : x + e.off ≡ x + 3 + g.from.off + g.n = omega (arith, off) in
      let at : x + 3 + g.from.off ≡ x + (3 + g.from.off) = omega arith in
      let step : ℕ → d.State → d.State = d.cycle g.from.cpu.p2 in
      record {
        started = λ room.
            subst (λ c. IsAnyStart c) (sym vcpu)
            (entering_start n.timer n.now n.ring e.cpu fineB (still (refl, refl, refl, refl, refl) g.inv)
            (n.rested s.rested room));
        long = (let passed : 2016 ≤ e.off + n.waited = n.long s.rested in omega (arith, cycle, passed));
        settles = λ room.
            let p = n.settles s.rested room in
            let there : v.cpu ≡ begun p.0 n.timer.tf n.timer.last n.now n.ring e.cpu =
            vcpu ∙ ap (λ b. entering b n.now n.ring e.cpu) p.2 in
            subst (λ c. IsStarted c) (sym there)
            (started_is p.0 p.1 n.timer.tf n.timer.last n.now n.ring e.cpu
            (subst (λ b. IsFine (entering b n.now n.ring e.cpu)) p.2 fineB)
            (still (refl, refl, refl, refl, refl) g.inv));
        within = λ k least most.
            let short : e.off + n.waited ≤ k = n.within k least (omega (arith, most)) in omega (arith, cycle, short);
        prompt = λ started room.
            let early : 2 ≤ m.pre = started.entered.early in
            let late : m.pre ≤ 3 = started.entered.late in
            let p = n.prompt (m.pre - 2) (omega (arith, late)) (timer_is m started.entered) room in
            let there : v.cpu ≡ begun p.late' n.timer.tf n.timer.last n.now n.ring e.cpu =
            vcpu ∙ ap (λ b. entering b n.now n.ring e.cpu) p.timer' in
            let pre : v.cpu.pre ≡ p.late' + 2 = ap (λ (c : Cpu). c.pre) there in
            let time : e.off + n.waited + (m.pre - 2) ≡ 2048 + p.late' = p.time in (
              subst (λ c. IsStarted c) (sym there)
                  (started_is p.late' p.most n.timer.tf n.timer.last n.now n.ring e.cpu
                  (subst (λ b. IsFine (entering b n.now n.ring e.cpu)) p.timer' fineB)
                  (still (refl, refl, refl, refl, refl) g.inv)),
              omega (arith, cycle, time, pre, early),
            );
        keyboard =
            ap (λ (c : Cpu). shown_by c.ram) vcpu ∙ g.kbd.keyboard
            ∙ ap (λ es. ticked keys meeting (layered keys.is_fn es (from_layers meeting)) (keyboard_of (stacked f)
            ring)) edges_is;
        layers =
            ap (λ (c : Cpu). layers_by c.ram) vcpu ∙ g.kbd.layers
            ∙ ap (λ es. all_layers_after keys.is_fn es (from_layers meeting)) edges_is;
        read =
            ap (λ (c : Cpu). read_by bytes c.ram) vcpu ∙ read_entering (debounces bytes) n.timer n.now n.ring e.cpu ∙ g.read
            ∙ read_is;
        repeating = subst (λ (c : Cpu). IsRepeating bytes c.ram) (sym vcpu) g.kbd.pressed;
        passes = passes;
        l = g.l;
        from = g.from;
        n = g.n + n.waited;
        facts = g.facts;
        cycle = omega (arith, cycle, off);
        p2 = ap (λ (c : Cpu). c.p2) vcpu ∙ g.p2;
        board_now =
            ap (λ (u : World d.State). u.board) n.is
            ∙ ap (λ b. after_cycles n.waited (x + e.off) (d.cycle e.cpu.p2) b) g.board_now
            ∙ ap (λ p. after_cycles n.waited (x + e.off) (d.cycle p) (after_cycles g.n (x + 3 + g.from.off) step g.from.board)) g.p2
            ∙ joined g.n n.waited (x + 3 + g.from.off) (x + e.off) step g.from.board here
            ∙ ap (λ c. after_cycles (g.n + n.waited) c step g.from.board) at;
      }

  -- if a tick does the model's work, it leads to the next start, with the model's keyboard in memory
  pub any_tick : (meeting : Meeting) (last_off : ℕ) → IsPressedAt keys meeting (layers_by m.ram) (shown_by m.ram)
      → (G : TimerState → Stage d.State → Type 0)
      → ((l : TimerState) → IsInRange l
      → Work d bytes hk alike small low w.cycle timer f ring m w.board l meeting last_off (G l))
      → Tick d TICK bytes w (Came meeting last_off G)
  any_tick meeting last_off pressed G work =
      let t = tick d bytes hk alike small low w.cycle timer f ring m w.board fine meeting last_off pressed G work in
      let p = tick_passes d bytes hk alike small low w.cycle timer f ring m w.board fine meeting last_off pressed G work in
      let same : record { cpu = entering timer f ring m; board = w.board; cycle = w.cycle } ≡ w =
      ap (λ c. record { cpu = c; board = w.board; cycle = w.cycle }) (sym is) in
      let done : Tick d TICK bytes
      (record { cpu = entering timer f ring m; board = w.board; cycle = w.cycle }) (Came meeting last_off G) =
      record {
        at = t.at;
        first = t.first;
        step = t.step;
        rest = comes_as d TICK bytes
            (Next d w.cycle timer (3 + last_off)
            (Goes d bytes hk alike small low w.cycle timer f ring m w.board meeting G)) (Came meeting last_off G) t.first
            (λ v n. comes_to meeting last_off G v (subst (λ u. Passes d bytes u) same p) n) t.rest;
      } in
      subst (λ u. Tick d TICK bytes u (Came meeting last_off G)) same done

  -- a tick without a frame goes on as the model's, and with four edges at most the next start is in time
  pub frameless_tick : IsStarted m → length (edges_now bytes d w) ≤ 4 → IsRepeating bytes m.ram → (meeting : Meeting)
      → IsFrameless d w meeting → Tick d TICK bytes w (GoesOn d bytes meeting w)
  frameless_tick started few repeats meeting q =
      let a = works meeting q in
      let max : a.0 ≤ 56 = a.1 in
      let edges : edges_most bytes changed_in ≤ settle_cycles (debounces bytes) + 728 = four few in
      let settle : settle_cycles (debounces bytes) ≤ 322 = settle_short (debounces bytes) in
      let last_off : ℕ = 231 + (a.0 + (56 + (2 + edges_most bytes changed_in))) in
      let t = any_tick meeting last_off (frameless_pressed d w keys meeting q repeats) IsAtHead a.2 in
      record {
        at = t.at;
        first = t.first;
        step = t.step;
        rest = comes_as d TICK bytes (Came meeting last_off IsAtHead) (GoesOn d bytes meeting w) t.first
            (λ v c.
            let p = c.prompt started (omega (arith, max, edges, settle)) in
            record {
              started = p.0;
              time = p.1;
              keyboard = c.keyboard;
              layers = c.layers;
              read = c.read;
              repeating = c.repeating;
              latch = c.p2 ∙ c.facts.p2;
            })
            t.rest;
      }
