-- A tick in which a byte is received: the keyboard gets the byte that a host sends which keeps the rules, once and right.
use Rattle.std.proofs.Common.{◌≡◌, ◌≤◌, ◌<◌, ℕ, zero, suc, ◌+◌, ◌-◌, ◌*◌, Bool, true, false, ◌==◌}
use Rattle.std.proofs.Common.{List, [], ◌∷◌, ◌++◌, length, refl, ap, sym, ◌∙◌, subst, arith, inl, inr}
use Rattle.std.proofs.lemmas.Bool.Decides.{nat_tests}
use Rattle.bits.proofs.Every.{by_byte, tests_by}
use Rattle.law_fw_link.specs.Latch.{ReceivedFrame, frame_bit}
use Rattle.law_fw_link.specs.Reading.{byte_in, right_in}
use Rattle.law_agreement.proofs.AtLook.{one_byte}
use Rattle.law_any_host.proofs.CellClock.{DrivesCells, falls_in_cell, none_after, none_in_cell}
use Rattle.law_any_host.proofs.Ears.{AtMost, Kept, NoFall, held, keeps_on, no_fall, went}
use Rattle.law_any_host.proofs.FrameLines.{got_clock, got_data, got_late, got_up}
use Rattle.law_any_host.proofs.Offsets.{not_both, pulled_by, risen_at, same_on}
use Rattle.law_any_host.proofs.Still.{to_next}
use Rattle.law_any_host.specs.Ears.{Ear, Gives, Mode, Takes, ear_to, fell, moved, with_bit, with_fall}
use Rattle.law_any_host.specs.Rules.{IsRuleful}
use Rattle.law_any_host.specs.Ticks.{frame_lines}
use Rattle.law_any_host.specs.Wires.{AreWires, Wiring}

-- what the host sends are bytes
abbrev IsSmall : Mode → Type 0
IsSmall (Takes bits) = Unit {0}
IsSmall (Gives byte falls) = byte < 256

bit_small : (bits : List Bool) (bit : Bool) (e : Ear) (b : Bool) → (length bits == 10) ≡ b → IsSmall (with_bit bits bit e).mode
bit_small bits bit e true is = rw is tt
bit_small bits bit e false is = rw is tt

fall_small : (byte falls : ℕ) (e : Ear) (b : Bool) → byte < 256 → (falls == 10) ≡ b → IsSmall (with_fall byte falls e).mode
fall_small byte falls e true l is = rw is tt
fall_small byte falls e false l is = rw is l

moved_small : (m : Mode) (dat f bit : Bool) (want : ℕ) (e : Ear) → want < 256 → e.mode ≡ m → IsSmall e.mode
    → IsSmall (moved m dat f bit want e).mode
moved_small (Takes bits) false f bit want e l is h = l
moved_small (Takes bits) true false bit want e l is h = h
moved_small (Takes bits) true true bit want e l is h = bit_small bits bit e (length bits == 10) refl
moved_small (Gives byte falls) dat false bit want e l is h = h
moved_small (Gives byte falls) dat true bit want e l is h =
    fall_small byte falls e (falls == 10) (subst (λ m. IsSmall m) is h) refl

-- the bits after the start bit are the byte, with its parity
bits_are : (byte : ℕ) → byte < 256
    → (byte_in (λ k. frame_bit byte (suc k)) ≡ byte) × (right_in (λ k. frame_bit byte (suc k)) ≡ true)
bits_are byte l = (
  by_byte (λ b. byte_in (λ k. frame_bit b (suc k))) (λ b. b) refl byte l,
  tests_by 256 (λ b. right_in (λ k. frame_bit b (suc k))) (λ b. true) refl byte l,
)

module _ (w : Wiring) (wires : AreWires w) (rules : IsRuleful w) where
  next_small : (c : ℕ) → IsSmall (ear_to w c).mode → (b : Bool) → (w.host c).clk ≡ b → IsSmall (ear_to w (suc c)).mode
  next_small c h false pulls = subst (λ (v : Ear). IsSmall v.mode) (sym (held w wires c pulls)) tt
  next_small c h true go =
      subst (λ (v : Ear). IsSmall v.mode)
      (sym (went w wires c (ear_to w c).mode (w.host c).dat (fell w c) go refl refl refl))
      (moved_small (ear_to w c).mode (w.host c).dat (fell w c) (w.reads c) (w.wants c) (ear_to w c) (rules.bytes c) refl h)

  all_small : (c : ℕ) → IsSmall (ear_to w c).mode
  all_small zero = tt
  all_small (suc c) = next_small c (all_small c) (w.host c).clk refl

  module _ (x y : ℕ) (long : x + 2016 ≤ y)
      (drives : (o : ℕ) → x + o < y → w.keyboard (x + o) ≡ frame_lines ReceivedFrame o)
      (at_clock : (w.pins (x + 256)).clk ≡ true) (at_data : (w.pins (x + 258)).dat ≡ false) (first : Ear)
      (rests : Kept 0 first (ear_to w x)) where
    abbrev E : ℕ → Ear
    E o = ear_to w (x + o)

    clk : (o : ℕ) → o < 626 → (w.keyboard (x + o)).clk ≡ (frame_lines ReceivedFrame o).clk
    clk o l = ap (λ l. l.clk) (drives o (omega (arith, long, l)))

    dat : (o : ℕ) → o < 626 → (w.keyboard (x + o)).dat ≡ (frame_lines ReceivedFrame o).dat
    dat o l = ap (λ l. l.dat) (drives o (omega (arith, long, l)))

    -- before the first fall of a received frame the keyboard lets the clock go
    pub up_clk : (o : ℕ) → o < 288 → (w.keyboard (x + o)).clk ≡ true
    up_clk o l = clk o (omega (arith, l)) ∙ ap (λ l. l.clk) (got_up o l)

    cells : DrivesCells w x y
    cells = record {
      most = 338;
      long = omega arith;
      short = omega arith;
      up = up_clk;
      clock = λ k i l m. clk (288 + 32 * k + i) (omega (arith, m)) ∙ got_clock k i l m;
      late = λ o l m. ap (λ l. l.clk) (drives o m) ∙ got_late o l;
    }

    up_dat : (o : ℕ) → o < 288 → (w.keyboard (x + o)).dat ≡ true
    up_dat o l = dat o (omega (arith, l)) ∙ ap (λ l. l.dat) (got_up o l)

    -- the host sends at the look at data
    pub record Begun : Type 0 where
      pub o : ℕ
      pub early : o ≤ 258
      pub later : 256 ≤ o
      pub byte : ℕ
      pub mode : (E o).mode ≡ Gives byte 0
      pub taken : (E o).taken ≡ first.taken
      pub given : (E o).given ≡ first.given

    there : (o : ℕ) → o ≤ 288 → Kept 0 first (E o)
    there o l = keeps_on w wires 0 o x first (λ i u. inl (up_clk i (omega (arith, u, l)))) rests

    -- the clock wasn't pulled at the look at it and before
    free : {A : Type 0} → (w.host (x + 255)).clk ≡ false → (w.host (x + 256)).clk ≡ false → A
    free a b =
        not_both (λ c. (w.keyboard c).clk) (λ c. (w.host c).clk) (λ c. (w.pins c).clk) (λ c. (w.seen c).clk) wires.clock x
        255 at_clock a b

    giving : (o : ℕ) → o ≤ 258 → 256 ≤ o → (byte falls : ℕ) → (E o).mode ≡ Gives byte falls → Begun
    giving o l m byte falls is =
        let k = there o (omega (arith, l)) in
        let none : falls ≡ 0 = subst (λ m. AtMost 0 m → falls ≡ 0) (sym is) (λ most. omega (arith, most)) k.most in
        record {
          o = o;
          early = l;
          later = m;
          byte = byte;
          mode = is ∙ ap (λ n. Gives byte n) none;
          taken = k.taken;
          given = k.given;
        }

    -- a request that begins at the look at the clock
    begun_first : (w.host (x + 256)).dat ≡ false → Begun
    begun_first low = by (E 256).mode refl (w.host (x + 256)).clk refl
      where
        by : (v : Mode) → (E 256).mode ≡ v → (b : Bool) → (w.host (x + 256)).clk ≡ b → Begun
        by (Gives byte falls) is b go = giving 256 (omega arith) (omega arith) byte falls is
        by (Takes bits) is false pulls =
            free (rules.asks (x + 256) bits is low (x + 255) (omega arith) (omega arith)) pulls
        by (Takes bits) is true go =
            let z : x + 257 ≡ suc (x + 256) = omega arith in
            let next : (E 257).mode ≡ Gives (w.wants (x + 256)) 0 =
            ap (λ c. (ear_to w c).mode) z
            ∙ ap (λ (v : Ear). v.mode)
            (went w wires (x + 256) (Takes bits) false (fell w (x + 256)) go is low refl) in
            giving 257 (omega arith) (omega arith) (w.wants (x + 256)) 0 next

    begun_at : (o : ℕ) → o ≤ 258 → 257 ≤ o → (w.host (x + o)).dat ≡ false → Begun
    begun_at o l m low = by (E o).mode refl
      where
        by : (v : Mode) → (E o).mode ≡ v → Begun
        by (Takes bits) is =
            free (rules.asks (x + o) bits is low (x + 255) (omega (arith, m)) (omega (arith, l)))
            (rules.asks (x + o) bits is low (x + 256) (omega (arith, m)) (omega (arith, l)))
        by (Gives byte falls) is = giving o l (omega (arith, m)) byte falls is

    -- at the look at data the host has begun to send a byte, and no fall is counted
    pub begun : Begun
    begun =
        elim (pulled_by (λ c. (w.keyboard c).dat) (λ c. (w.host c).dat) (λ c. (w.pins c).dat) (λ c. (w.seen c).dat)
        wires.data_wire x 256 (up_dat 256 (omega arith)) (up_dat 257 (omega arith)) (up_dat 258 (omega arith)) at_data) [
          | inl low ↦ begun_first low
          | inr either ↦ elim either [
            | inl low ↦ begun_at 257 (omega arith) (omega arith) low
            | inr low ↦ begun_at 258 (omega arith) (omega arith) low
          ]
        ]

    abbrev byte : ℕ
    byte = begun.byte

    small : byte < 256
    small = subst (λ m. IsSmall m) begun.mode (all_small (x + begun.o))

    -- a cycle that changes nothing
    quiet : (o falls : ℕ) → NoFall w wires (x + o) → (E o).mode ≡ Gives byte falls → ear_to w (suc (x + o)) ≡ E o
    quiet o falls none is =
        let go : (w.host (x + o)).clk ≡ true = rules.sends (x + o) byte falls is in
        went w wires (x + o) (Gives byte falls) (w.host (x + o)).dat false go is refl (no_fall w wires (x + o) none go)

    from_begun : (j : ℕ) → begun.o + j ≤ 288 → E (begun.o + j) ≡ E begun.o
    from_begun j l =
        same_on w wires x j begun.o
        (λ i m before.
        quiet (begun.o + i) 0 (inl (up_clk (begun.o + i) (omega (arith, l, m))))
        (ap (λ (v : Ear). v.mode) before ∙ begun.mode))

    upto : (o : ℕ) → 258 ≤ o → o ≤ 288 → E o ≡ E begun.o
    upto o l m =
        let early : begun.o ≤ 258 = begun.early in
        let p : begun.o + (o - begun.o) ≡ o = omega (arith, l, early) in
        ap E (sym p) ∙ from_begun (o - begun.o) (omega (arith, m, early, l))

    -- the fall of a cell is next
    pub record At (k : ℕ) : Type 0 where
      pub mode : (E (288 + 32 * k)).mode ≡ Gives byte k
      pub taken : (E (288 + 32 * k)).taken ≡ first.taken
      pub given : (E (288 + 32 * k)).given ≡ first.given
      pub host : (i : ℕ) → i < 4 → (w.host (x + (285 + 32 * k + i))).clk ≡ true

    begins : At 0
    begins =
        let all = upto (288 + 32 * 0) (omega arith) (omega arith) in
        record {
          mode = ap (λ (v : Ear). v.mode) all ∙ begun.mode;
          taken = ap (λ (v : Ear). v.taken) all ∙ begun.taken;
          given = ap (λ (v : Ear). v.given) all ∙ begun.given;
          host = λ i l.
              rules.sends (x + (285 + 32 * 0 + i)) byte 0
              (ap (λ (v : Ear). v.mode) (upto (285 + 32 * 0 + i) (omega arith) (omega (arith, l))) ∙ begun.mode);
        }

    module _ (k : ℕ) (few : k ≤ 10) (h : At k) where
      -- at each cell's begin the host sees the clock fall
      pub falls : fell w (x + (288 + 32 * k)) ≡ true
      falls = falls_in_cell w wires x y cells k few h.host

      -- with a cell's fall the host counts one more
      pub fallen : ear_to w (suc (x + (288 + 32 * k))) ≡ with_fall byte k (E (288 + 32 * k))
      fallen =
          let z : 285 + 32 * k + 3 ≡ 288 + 32 * k = omega arith in
          went w wires (x + (288 + 32 * k)) (Gives byte k) (w.host (x + (288 + 32 * k))).dat true
          (ap (λ v. (w.host (x + v)).clk) (sym z) ∙ h.host 3 (omega arith)) h.mode refl falls

    -- from one cell to the next
    module _ (k : ℕ) (few : k ≤ 9) (h : At k) where
      not_ten : (k == 10) ≡ false
      not_ten = grind (arith, nat_tests, few)

      fell_is : E (289 + 32 * k) ≡ record (E (288 + 32 * k)) { mode = Gives byte (suc k) }
      fell_is =
          let z : x + (289 + 32 * k) ≡ suc (x + (288 + 32 * k)) = omega arith in
          ap (ear_to w) z ∙ fallen k (omega (arith, few)) h ∙ rw not_ten refl

      is : (E (289 + 32 * k)).mode ≡ Gives byte (suc k)
      is = ap (λ (v : Ear). v.mode) fell_is

      -- in the rest of a cell the keyboard lets no clock fall
      pub no_fall_in : (i : ℕ) → i < 31 → NoFall w wires (x + (289 + 32 * k + i))
      no_fall_in = none_in_cell w wires x y cells k few

      stay : (i : ℕ) → i ≤ 31 → E (289 + 32 * k + i) ≡ E (289 + 32 * k)
      stay i l =
          same_on w wires x i (289 + 32 * k)
          (λ j m before.
          quiet (289 + 32 * k + j) (suc k) (no_fall_in j (omega (arith, l, m))) (ap (λ (v : Ear). v.mode) before ∙ is))

      there_all : E (288 + 32 * suc k) ≡ E (289 + 32 * k)
      there_all = let z : 288 + 32 * suc k ≡ 289 + 32 * k + 31 = omega arith in ap E z ∙ stay 31 (omega arith)

      -- the fall of one cell leads the host to that of the next, with one fall more
      pub next : At (suc k)
      next = record {
        mode = ap (λ (v : Ear). v.mode) there_all ∙ is;
        taken = ap (λ (v : Ear). v.taken) (there_all ∙ fell_is) ∙ h.taken;
        given = ap (λ (v : Ear). v.given) (there_all ∙ fell_is) ∙ h.given;
        host = λ i l.
            let p : 285 + 32 * suc k + i ≡ 289 + 32 * k + (28 + i) = omega arith in
            ap (λ v. (w.host (x + v)).clk) p
            ∙ rules.sends (x + (289 + 32 * k + (28 + i))) byte (suc k)
            (ap (λ (v : Ear). v.mode) (stay (28 + i) (omega (arith, l))) ∙ is);
      }

      -- what the host puts after the fall
      put : (i : ℕ) → 14 ≤ i → i ≤ 20 → (w.host (x + (288 + 32 * k + i))).dat ≡ frame_bit byte (suc k)
      put i l m =
          let c : ℕ = x + (288 + 32 * k) in
          let p : c + i ≡ x + (289 + 32 * k + (i - 1)) = omega (arith, l) in
          let q : c + i ≡ x + (288 + 32 * k + i) = omega arith in
          ap (λ v. (w.host v).dat) (sym q)
          ∙ rules.puts c byte k i h.mode (falls k (omega (arith, few)) h) l
          (ap (λ v. (ear_to w v).mode) p ∙ ap (λ (v : Ear). v.mode) (stay (i - 1) (omega (arith, m))) ∙ is)

      -- is what the keyboard reads
      pub read : (w.pins (x + (306 + 32 * k))).dat ≡ frame_bit byte (suc k)
      read = by (frame_bit byte (suc k)) refl
        where
          p : 306 + 32 * k ≡ suc (suc (288 + 32 * k + 16))
          p = omega arith

          q1 : 288 + 32 * k + 17 ≡ suc (288 + 32 * k + 16)
          q1 = omega arith

          q2 : 288 + 32 * k + 18 ≡ suc (suc (288 + 32 * k + 16))
          q2 = omega arith

          let_go : (i : ℕ) → i < 20 → (w.keyboard (x + (288 + 32 * k + i))).dat ≡ true
          let_go i l = dat (288 + 32 * k + i) (omega (arith, few, l)) ∙ got_data k i (omega (arith, few)) l

          by : (b : Bool) → frame_bit byte (suc k) ≡ b → (w.pins (x + (306 + 32 * k))).dat ≡ frame_bit byte (suc k)
          by true is =
              ap (λ v. (w.pins (x + v)).dat) p
              ∙ risen_at (λ c. (w.keyboard c).dat) (λ c. (w.host c).dat) (λ c. (w.pins c).dat) (λ c. (w.seen c).dat)
              wires.data_wire x (288 + 32 * k + 16) (let_go 16 (omega arith))
              (put 16 (omega arith) (omega arith) ∙ is)
              (ap (λ v. (w.keyboard (x + v)).dat) (sym q1) ∙ let_go 17 (omega arith))
              (ap (λ v. (w.host (x + v)).dat) (sym q1) ∙ put 17 (omega arith) (omega arith) ∙ is)
              (ap (λ v. (w.keyboard (x + v)).dat) (sym q2) ∙ let_go 18 (omega arith))
              (ap (λ v. (w.host (x + v)).dat) (sym q2) ∙ put 18 (omega arith) (omega arith) ∙ is)
              ∙ sym is
          by false is =
              let r : x + (306 + 32 * k) ≡ suc (x + (288 + 32 * k + 17)) = omega arith in
              ap (λ v. (w.pins v).dat) r
              ∙ wires.data_wire.pulled (x + (288 + 32 * k + 17)) (put 17 (omega arith) (omega arith) ∙ is)
              (let t : suc (x + (288 + 32 * k + 17)) ≡ x + (288 + 32 * k + 18) = omega arith in
              ap (λ v. (w.host v).dat) t ∙ put 18 (omega arith) (omega arith) ∙ is)
              ∙ sym is

    -- at the k-th cell's fall the host has counted k falls
    pub at_cell : (k : ℕ) → k ≤ 10 → At k
    at_cell zero l = begins
    at_cell (suc k) l = next k (omega (arith, l)) (at_cell k (omega (arith, l)))

    -- the byte that the keyboard reads, and its parity
    pub received : (byte_in (λ k. (w.pins (x + (306 + 32 * k))).dat) ≡ byte)
        × (right_in (λ k. (w.pins (x + (306 + 32 * k))).dat) ≡ true)
    received =
        let same = one_byte (λ k. (w.pins (x + (306 + 32 * k))).dat) (λ k. frame_bit byte (suc k))
        (λ k l. read k (omega (arith, l)) (at_cell k (omega (arith, l)))) in
        let are = bits_are byte small in
        (same.0 ∙ are.0, same.1 ∙ are.1)

    abbrev pub then_has : Ear
    then_has = record { mode = Takes []; taken = first.taken; given = first.given ++ byte ∷ [] }

    ended : Kept 0 then_has (E 609)
    ended =
        let h = at_cell 10 (omega arith) in
        let z : x + 609 ≡ suc (x + (288 + 32 * 10)) = omega arith in
        let v : Ear = E (288 + 32 * 10) in
        let is : E 609 ≡ record v { mode = Takes []; given = v.given ++ byte ∷ [] } =
        ap (ear_to w) z ∙ fallen 10 (omega arith) h in
        subst (λ u. Kept 0 then_has u) (sym is)
        (record { most = omega arith; taken = h.taken; given = ap (λ t. t ++ byte ∷ []) h.given })

    -- after the eleventh fall the clock falls no more in the tick
    pub no_more : (o : ℕ) → 609 ≤ o → x + o < y → NoFall w wires (x + o)
    no_more = none_after w wires x y cells

    -- at the next tick start the host has given its byte, and nothing is under way
    pub given_there : Kept 0 then_has (ear_to w y)
    given_there = to_next w wires x y ReceivedFrame long drives 0 609 then_has (omega (arith, long)) no_more ended
