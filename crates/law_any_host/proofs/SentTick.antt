-- A tick in which a byte is sent: a host that keeps the rules takes it once and right, if it counts eleven falls.
use Rattle.std.proofs.Common.{◌≡◌, ◌≤◌, ◌<◌, ℕ, zero, suc, ◌+◌, ◌-◌, ◌*◌, Bool, true, false, nat_le, nat_lt, ◌==◌}
use Rattle.std.proofs.Common.{List, [], ◌∷◌, ◌++◌, length, Some, if◌then◌else◌, refl, ap, sym, ◌∙◌, subst, arith, inl}
use Rattle.std.proofs.lemmas.Bool.Decides.{nat_tests}
use Rattle.std.proofs.lemmas.List.{length-append}
use Rattle.board_terms.proofs.Frames.{read_back}
use Rattle.board_terms.specs.Frame.{byte_of, frame_bits}
use Rattle.law_fw_link.specs.Latch.{SentFrame, IsLook, frame_bit}
use Rattle.law_any_host.proofs.Alone.{leaves, lets_data, lets_data_on, taking_there}
use Rattle.law_any_host.proofs.CellClock.{DrivesCells, falls_in_cell, none_after, none_in_cell}
use Rattle.law_any_host.proofs.Ears.{Kept, NoFall, keeps_on, no_fall, went}
use Rattle.law_any_host.proofs.FrameLines.{sent_clock, sent_data, sent_late, sent_start, sent_up}
use Rattle.law_any_host.proofs.Offsets.{high_at, same_on}
use Rattle.law_any_host.proofs.Still.{to_next}
use Rattle.law_any_host.specs.Ears.{Ear, Eleventh, Takes, ear_to, fell, with_bit}
use Rattle.law_any_host.specs.Rules.{Ends, IsRuleful}
use Rattle.law_any_host.specs.Ticks.{frame_lines}
use Rattle.law_any_host.specs.Wires.{AreWires, Wiring}

-- the first bits of a frame, in order
abbrev pub bits_to : (ℕ → Bool) → ℕ → List Bool
bits_to bits zero = []
bits_to bits (suc k) = bits_to bits k ++ bits k ∷ []

-- the first k bits of a frame are k bits
pub length_bits : (bits : ℕ → Bool) (k : ℕ) → length (bits_to bits k) ≡ k
length_bits bits zero = refl
length_bits bits (suc k) =
    let e = length_bits bits k in
    let l : length (bits_to bits k ++ bits k ∷ []) ≡ length (bits_to bits k) + 1 = length-append (bits_to bits k) (bits k ∷ []) in
    omega (arith, e, l)

-- data is the cell's bit from two cycles before the fall to 16 after it
pub data_level : (byte k i : ℕ) → k ≤ 10 → i < 19 → (frame_lines (SentFrame byte) (286 + 32 * k + i)).dat ≡ frame_bit byte k
data_level byte k i few l = by k few (nat_lt i 2) refl
  where
    by : (k : ℕ) → k ≤ 10 → (b : Bool) → nat_lt i 2 ≡ b
        → (frame_lines (SentFrame byte) (286 + 32 * k + i)).dat ≡ frame_bit byte k
    by zero few true s =
        let m : i < 2 = grind (arith, nat_tests, s) in
        let p : 286 + 32 * 0 + i ≡ 270 + (16 + i) = omega arith in
        ap (λ o. (frame_lines (SentFrame byte) o).dat) p ∙ sent_start byte (16 + i) (omega (arith, m))
    by (suc j) few true s =
        let m : i < 2 = grind (arith, nat_tests, s) in
        let p : 286 + 32 * suc j + i ≡ 288 + 32 * j + (30 + i) = omega arith in
        let past : nat_lt (30 + i) 21 ≡ false = grind (arith, nat_tests) in
        ap (λ o. (frame_lines (SentFrame byte) o).dat) p
        ∙ sent_data byte j (30 + i) (omega (arith, m)) (omega (arith, m, few))
        ∙ ap (λ b. frame_bit byte (if b then j else suc j)) past
    by k few false s =
        let m : 2 ≤ i = grind (arith, nat_tests, s) in
        let p : 286 + 32 * k + i ≡ 288 + 32 * k + (i - 2) = omega (arith, m) in
        let soon : nat_lt (i - 2) 21 ≡ true = grind (arith, nat_tests, l) in
        ap (λ o. (frame_lines (SentFrame byte) o).dat) p
        ∙ sent_data byte k (i - 2) (omega (arith, l)) (omega (arith, l, few))
        ∙ ap (λ b. frame_bit byte (if b then k else suc k)) soon

module _ (w : Wiring) (wires : AreWires w) (rules : IsRuleful w) (x y : ℕ) (long : x + 2016 ≤ y) (byte : ℕ) (small : byte < 256)
    (drives : (o : ℕ) → x + o < y → w.keyboard (x + o) ≡ frame_lines (SentFrame byte) o)
    (looks : (look : ℕ) → IsLook look → (w.pins (x + (260 + look))).clk ≡ true)
    (at_clock : (w.pins (x + 256)).clk ≡ true) (at_data : (w.pins (x + 258)).dat ≡ true) (first : Ear)
    (rests : Kept 0 first (ear_to w x)) where
  abbrev E : ℕ → Ear
  E o = ear_to w (x + o)

  -- in a tick with a sent frame the keyboard drives the clock as the frame says
  pub clk : (o : ℕ) → o < 628 → (w.keyboard (x + o)).clk ≡ (frame_lines (SentFrame byte) o).clk
  clk o l = ap (λ l. l.clk) (drives o (omega (arith, long, l)))

  dat : (o : ℕ) → o < 628 → (w.keyboard (x + o)).dat ≡ (frame_lines (SentFrame byte) o).dat
  dat o l = ap (λ l. l.dat) (drives o (omega (arith, long, l)))

  cells : DrivesCells w x y
  cells = record {
    most = 340;
    long = omega arith;
    short = omega arith;
    up = λ o l. clk o (omega (arith, l)) ∙ sent_up byte o l;
    clock = λ k i l m. clk (288 + 32 * k + i) (omega (arith, m)) ∙ sent_clock byte k i l m;
    late = λ o l m. ap (λ l. l.clk) (drives o m) ∙ sent_late byte o l;
  }

  there : Kept 0 first (E 257)
  there = keeps_on w wires 0 257 x first (λ i u. inl (clk i (omega (arith, u)) ∙ sent_up byte i (omega (arith, u)))) rests

  let_go_there : (w.keyboard (x + 257)).clk ≡ true
  let_go_there = clk 257 (omega arith) ∙ sent_up byte 257 (omega arith)

  -- from the look at data up to the last look the host lets data go
  pub host_dat : (o : ℕ) → 257 ≤ o → o ≤ 614 → (w.host (x + o)).dat ≡ true
  host_dat = lets_data w wires rules x looks at_clock at_data first there let_go_there

  -- from the look at the clock up to the last look the host lets the clock go
  pub host_clk : (o : ℕ) → 256 ≤ o → o ≤ 593 → (w.host (x + o)).clk ≡ true
  host_clk = leaves w wires rules x looks at_clock at_data

  -- a cycle that changes nothing
  quiet : (o : ℕ) (bits : List Bool) → 257 ≤ o → o ≤ 614 → NoFall w wires (x + o) → (w.host (x + o)).clk ≡ true
      → (E o).mode ≡ Takes bits → ear_to w (suc (x + o)) ≡ E o
  quiet o bits l m none go is =
      went w wires (x + o) (Takes bits) true false go is (host_dat o l m) (no_fall w wires (x + o) none go)

  abbrev pub bits : ℕ → List Bool
  bits k = bits_to (frame_bit byte) k

  -- the fall of a cell is next: so many bits are taken, the host has let the clock go, and lets data go as it reads
  pub record At (k : ℕ) : Type 0 where
    pub mode : (E (288 + 32 * k)).mode ≡ Takes (bits k)
    pub taken : (E (288 + 32 * k)).taken ≡ first.taken
    pub given : (E (288 + 32 * k)).given ≡ first.given
    pub host : (i : ℕ) → i < 4 → (w.host (x + (285 + 32 * k + i))).clk ≡ true
    pub lets : (o : ℕ) → 257 ≤ o → o ≤ 304 + 32 * k → (w.host (x + o)).dat ≡ true

  begins : At 0
  begins =
      let is = taking_there w wires rules x looks at_clock at_data first there let_go_there in
      let same : E (257 + 31) ≡ E 257 =
      same_on w wires x 31 257
      (λ i l before.
      quiet (257 + i) [] (omega arith) (omega (arith, l))
      (inl (clk (257 + i) (omega (arith, l)) ∙ sent_up byte (257 + i) (omega (arith, l))))
      (host_clk (257 + i) (omega arith) (omega (arith, l))) (ap (λ (v : Ear). v.mode) before ∙ is)
      ∙ refl) in
      let z : 288 + 32 * 0 ≡ 257 + 31 = omega arith in
      let all : E (288 + 32 * 0) ≡ E 257 = ap E z ∙ same in
      record {
        mode = ap (λ (v : Ear). v.mode) all ∙ is;
        taken = ap (λ (v : Ear). v.taken) all ∙ there.taken;
        given = ap (λ (v : Ear). v.given) all ∙ there.given;
        host = λ i l. host_clk (285 + 32 * 0 + i) (omega arith) (omega (arith, l));
        lets = λ o l m. host_dat o l (omega (arith, m));
      }

  module _ (k : ℕ) (few : k ≤ 10) (h : At k) where
    -- at each cell's begin the host sees the clock fall
    pub falls : fell w (x + (288 + 32 * k)) ≡ true
    falls = falls_in_cell w wires x y cells k few h.host

    -- the bit of the cell is read
    module _ (i : ℕ) (l : i ≤ 16) where
      abbrev q : ℕ
      q = 286 + 32 * k + i

      to : x + suc (suc q) ≡ x + (288 + 32 * k) + i
      to = omega arith

      driven : (j : ℕ) → j < 3 → (w.keyboard (x + (q + j))).dat ≡ frame_bit byte k
      driven j m =
          let r : q + j ≡ 286 + 32 * k + (i + j) = omega arith in
          ap (λ v. (w.keyboard (x + v)).dat) r ∙ dat (286 + 32 * k + (i + j)) (omega (arith, few, l, m))
          ∙ data_level byte k (i + j) few (omega (arith, l, m))

      q0 : q + 0 ≡ q
      q0 = omega arith

      q1 : q + 1 ≡ suc q
      q1 = omega arith

      q2 : q + 2 ≡ suc (suc q)
      q2 = omega arith

      by_level : (b : Bool) → frame_bit byte k ≡ b → (w.seen (x + (288 + 32 * k) + i)).dat ≡ frame_bit byte k
      by_level true is =
          ap (λ c. (w.seen c).dat) (sym to)
          ∙ high_at (λ c. (w.keyboard c).dat) (λ c. (w.host c).dat) (λ c. (w.pins c).dat) (λ c. (w.seen c).dat)
          wires.data_wire x q
          (ap (λ v. (w.keyboard (x + v)).dat) (sym q0) ∙ driven 0 (omega arith) ∙ is)
          (h.lets q (omega arith) (omega (arith, l)))
          (ap (λ v. (w.keyboard (x + v)).dat) (sym q1) ∙ driven 1 (omega arith) ∙ is)
          (h.lets (suc q) (omega arith) (omega (arith, l)))
          (ap (λ v. (w.keyboard (x + v)).dat) (sym q2) ∙ driven 2 (omega arith) ∙ is)
          (h.lets (suc (suc q)) (omega arith) (omega (arith, l)))
          ∙ sym is
      by_level false is =
          ap (λ c. (w.seen c).dat) (sym to)
          ∙ wires.data_wire.low (x + suc (suc q))
          (ap (λ v. (w.keyboard (x + v)).dat) (sym q2) ∙ driven 2 (omega arith) ∙ is)
          ∙ sym is

    level : (i : ℕ) → i ≤ 16 → (w.seen (x + (288 + 32 * k) + i)).dat ≡ frame_bit byte k
    level i l = by_level i l (frame_bit byte k) refl

    -- with a cell's fall the host reads the cell's bit
    pub read : w.reads (x + (288 + 32 * k)) ≡ frame_bit byte k
    read = rules.reads (x + (288 + 32 * k)) (frame_bit byte k) falls level

    -- with a cell's fall the host takes the cell's bit
    pub fallen : ear_to w (suc (x + (288 + 32 * k))) ≡ with_bit (bits k) (frame_bit byte k) (E (288 + 32 * k))
    fallen =
        let z : 285 + 32 * k + 3 ≡ 288 + 32 * k = omega arith in
        went w wires (x + (288 + 32 * k)) (Takes (bits k)) true true
        (ap (λ v. (w.host (x + v)).clk) (sym z) ∙ h.host 3 (omega arith)) h.mode
        (host_dat (288 + 32 * k) (omega arith) (omega (arith, few))) falls
        ∙ ap (λ b. with_bit (bits k) b (E (288 + 32 * k))) read

  -- past the last look the host lets the clock go in a cell, as long as it has taken the cell's bit
  abbrev pub LetsGo : ℕ → Type 0
  LetsGo k =
      (i : ℕ) → i ≤ 31 → 593 < 289 + 32 * k + i → E (289 + 32 * k + i) ≡ E (289 + 32 * k)
      → (w.host (x + (289 + 32 * k + i))).clk ≡ true

  module _ (k : ℕ) (few : k ≤ 9) (h : At k) where
    long_bits : length (bits k) ≡ k
    long_bits = length_bits (frame_bit byte) k

    not_ten : (length (bits k) == 10) ≡ false
    not_ten = grind (arith, nat_tests, long_bits, few)

    -- after a cell's fall the host has taken the cell's bit
    pub fell_is : E (289 + 32 * k) ≡ record (E (288 + 32 * k)) { mode = Takes (bits (suc k)) }
    fell_is =
        let z : x + (289 + 32 * k) ≡ suc (x + (288 + 32 * k)) = omega arith in
        ap (ear_to w) z ∙ fallen k (omega (arith, few)) h ∙ rw not_ten refl

    -- in the rest of a cell the keyboard lets no clock fall
    pub no_fall_in : (i : ℕ) → i < 31 → NoFall w wires (x + (289 + 32 * k + i))
    no_fall_in = none_in_cell w wires x y cells k few

  -- from one cell to the next
  pub next : (k : ℕ) → k ≤ 9 → At k → LetsGo k → At (suc k)
  next k few h past = record {
    mode = ap (λ (v : Ear). v.mode) there_all ∙ is;
    taken = ap (λ (v : Ear). v.taken) (there_all ∙ fell_is k few h) ∙ h.taken;
    given = ap (λ (v : Ear). v.given) (there_all ∙ fell_is k few h) ∙ h.given;
    host = λ i l.
        let p : 285 + 32 * suc k + i ≡ 289 + 32 * k + (28 + i) = omega arith in
        ap (λ v. (w.host (x + v)).clk) p
        ∙ go (28 + i) (omega (arith, l)) (stay (28 + i) (omega (arith, l)));
    lets = lets_next;
  }
    where
      is : (E (289 + 32 * k)).mode ≡ Takes (bits (suc k))
      is = ap (λ (v : Ear). v.mode) (fell_is k few h)

      -- the host lets the clock go in the cell
      go : (i : ℕ) → i ≤ 31 → E (289 + 32 * k + i) ≡ E (289 + 32 * k) → (w.host (x + (289 + 32 * k + i))).clk ≡ true
      go i l same = by (nat_le (289 + 32 * k + i) 593) refl
        where
          by : (b : Bool) → nat_le (289 + 32 * k + i) 593 ≡ b → (w.host (x + (289 + 32 * k + i))).clk ≡ true
          by true s = host_clk (289 + 32 * k + i) (omega arith) (grind (arith, nat_tests, s))
          by false s =
              let far : 593 < 289 + 32 * k + i = grind (arith, nat_tests, s) in past i l far same

      stay : (i : ℕ) → i ≤ 31 → E (289 + 32 * k + i) ≡ E (289 + 32 * k)
      stay i l =
          same_on w wires x i (289 + 32 * k)
          (λ j m before.
          quiet (289 + 32 * k + j) (bits (suc k)) (omega arith) (omega (arith, few, l, m)) (no_fall_in k few h j (omega (arith, l, m)))
          (go j (omega (arith, l, m)) before) (ap (λ (v : Ear). v.mode) before ∙ is))

      lets_next : (o : ℕ) → 257 ≤ o → o ≤ 304 + 32 * suc k → (w.host (x + o)).dat ≡ true
      lets_next o l m = by (nat_le o 614) refl
        where
          by : (b : Bool) → nat_le o 614 ≡ b → (w.host (x + o)).dat ≡ true
          by true s = host_dat o l (grind (arith, nat_tests, s))
          by false s =
              let far : 614 < o = grind (arith, nat_tests, s) in
              let last : k ≡ 9 = omega (arith, far, few, m) in
              let z : 603 ≡ 289 + 32 * k + 26 = omega (arith, last) in
              lets_data_on w wires rules x looks at_clock at_data first there let_go_there
              (ap (λ v. (w.host (x + v)).clk) z ∙ go 26 (omega arith) (stay 26 (omega arith))) o far (omega (arith, m, few))

      there_all : E (288 + 32 * suc k) ≡ E (289 + 32 * k)
      there_all =
          let z : 288 + 32 * suc k ≡ 289 + 32 * k + 31 = omega arith in ap E z ∙ stay 31 (omega arith)

  -- up to the tenth fall
  pub at_cell : (k : ℕ) → k ≤ 9 → At k
  at_cell zero l = begins
  at_cell (suc k) l =
      next k (omega (arith, l)) (at_cell k (omega (arith, l))) (λ i m far same. absurd (omega (arith, l, m, far)))

  -- the byte of the frame
  whole_frame : bits 10 ++ frame_bit byte 10 ∷ [] ≡ frame_bits byte
  whole_frame = refl

  abbrev pub then_has : Ear
  then_has = record { mode = Takes []; taken = first.taken ++ Some byte ∷ []; given = first.given }

  -- the eleventh fall ends it
  pub ended : At 10 → Kept 0 then_has (E 609)
  ended h =
      let ten : (length (bits 10) == 10) ≡ true = refl in
      let z : x + 609 ≡ suc (x + (288 + 32 * 10)) = omega arith in
      let v : Ear = E (288 + 32 * 10) in
      let is : E 609 ≡ record v { mode = Takes []; taken = v.taken ++ byte_of (bits 10 ++ frame_bit byte 10 ∷ []) ∷ [] } =
      ap (ear_to w) z ∙ fallen 10 (omega arith) h ∙ rw ten refl in
      subst (λ u. Kept 0 then_has u) (sym is)
      (record {
        most = omega arith;
        taken = ap (λ t. t ++ byte_of (bits 10 ++ frame_bit byte 10 ∷ []) ∷ []) h.taken
            ∙ ap (λ b. first.taken ++ byte_of b ∷ []) whole_frame ∙ ap (λ b. first.taken ++ b ∷ []) (read_back byte small);
        given = h.given;
      })

  -- after the eleventh fall the clock falls no more in the tick
  pub no_more : (o : ℕ) → 609 ≤ o → x + o < y → NoFall w wires (x + o)
  no_more = none_after w wires x y cells

  -- a host that counts eleven falls lets the clock go up to the eleventh
  module _ (ends : Ends Eleventh w) where
    lets_go : LetsGo 9
    lets_go i l far same =
        let h = at_cell 9 (omega arith) in
        let z : x + (289 + 32 * 9 + i) ≡ x + (288 + 32 * 9) + suc i = omega arith in
        ap (λ c. (w.host c).clk) z
        ∙ ends (x + (288 + 32 * 9)) (suc i) (bits 9) (bits 10) h.mode (length_bits (frame_bit byte) 9)
        (falls 9 (omega arith) h) (omega (arith, far))
        (ap (λ c. (ear_to w c).mode) (sym z) ∙ ap (λ (v : Ear). v.mode) (same ∙ fell_is 9 (omega arith) h))
        (length_bits (frame_bit byte) 10)

    -- at the next tick start a host that counts eleven falls has taken the byte, and nothing is under way
    pub sent : Kept 0 then_has (ear_to w y)
    sent =
        to_next w wires x y (SentFrame byte) long drives 0 609 then_has (omega (arith, long)) no_more
        (ended (next 9 (omega arith) (at_cell 9 (omega arith)) lets_go))
