-- A tick in which a byte is sent: a host that counts ten falls takes it at the tenth, once and right.
use Rattle.std.proofs.Common.{◌≡◌, ◌≤◌, ◌<◌, ℕ, zero, suc, ◌+◌, ◌-◌, ◌*◌, ◌/◌, ◌%◌, ◌==◌, Bool, true, false, nat_le, nat_lt}
use Rattle.std.proofs.Common.{List, [], ◌∷◌, ◌++◌, length, Some, refl, ap, sym, ◌∙◌, subst, arith, inl}
use Rattle.std.proofs.lemmas.Bool.Decides.{nat_tests}
use Rattle.std.specs.declared.option.Option.{Option}
use Rattle.board_terms.proofs.Frames.{read_back}
use Rattle.board_terms.specs.Frame.{byte_of, frame_bits}
use Rattle.law_fw_link.specs.Latch.{SentFrame, IsLook, frame_bit}
use Rattle.law_any_host.proofs.Ears.{AtMost, Kept, NoFall, drops, keeps_on, never}
use Rattle.law_any_host.proofs.FrameLines.{sent_up}
use Rattle.law_any_host.proofs.SentTick.{At, LetsGo, at_cell, bits_to, clk, ended, falls, fell_is, host_clk, host_dat}
use Rattle.law_any_host.proofs.SentTick.{length_bits, next, no_fall_in, no_more, read}
use Rattle.law_any_host.proofs.Still.{to_next}
use Rattle.law_any_host.proofs.Tenth.{other, pulling, quiet, same_to, tenth, too_few}
use Rattle.law_any_host.specs.Ears.{Ear, ear_to, taken_at_tenth}
use Rattle.law_any_host.specs.Rules.{IsRuleful}
use Rattle.law_any_host.specs.Ticks.{frame_lines}
use Rattle.law_any_host.specs.Wires.{AreWires, Wiring}

module _ (w : Wiring) (wires : AreWires w) (rules : IsRuleful w) (x y : ℕ) (long : x + 2016 ≤ y) (byte : ℕ) (small : byte < 256)
    (drives : (o : ℕ) → x + o < y → w.keyboard (x + o) ≡ frame_lines (SentFrame byte) o)
    (looks : (look : ℕ) → IsLook look → (w.pins (x + (260 + look))).clk ≡ true)
    (at_clock : (w.pins (x + 256)).clk ≡ true) (at_data : (w.pins (x + 258)).dat ≡ true) (first : Ear)
    (rests : Kept 0 first (ear_to w x)) where
  abbrev E : ℕ → Ear
  E o = ear_to w (x + o)

  abbrev t : ℕ → List (Option ℕ)
  t = taken_at_tenth w

  abbrev Cell : ℕ → Type 0
  Cell = At w wires rules x y long byte small drives looks at_clock at_data first rests

  cell : (k : ℕ) → k ≤ 9 → Cell k
  cell = at_cell w wires rules x y long byte small drives looks at_clock at_data first rests

  abbrev frame_to : ℕ → List Bool
  frame_to k = bits_to (frame_bit byte) k

  long_to : (k : ℕ) → length (frame_to k) ≡ k
  long_to k = length_bits (frame_bit byte) k

  none_in : (k : ℕ) (few : k ≤ 9) (i : ℕ) → i < 31 → t (suc (x + (289 + 32 * k + i))) ≡ t (x + (289 + 32 * k + i))
  none_in k few i l =
      quiet w wires (x + (289 + 32 * k + i))
      (no_fall_in w wires rules x y long byte small drives looks at_clock at_data first rests k few (cell k few) i l)

  -- up to the tenth fall it takes nothing
  in_cell : (k i : ℕ) → k ≤ 8 → i < 32 → t (suc (x + (288 + 32 * k + i))) ≡ t (x + (288 + 32 * k + i))
  in_cell k zero few l =
      let z : 288 + 32 * k ≡ 288 + 32 * k + 0 = omega arith in
      let h = cell k (omega (arith, few)) in
      let n : length (frame_to k) ≡ k = long_to k in
      let short : length (frame_to k) ≤ 8 = omega (arith, n, few) in
      subst (λ o. t (suc (x + o)) ≡ t (x + o)) z
      (too_few w wires (x + (288 + 32 * k)) (subst (λ m. AtMost 8 m) (sym h.mode) short))
  in_cell k (suc i) few l =
      let z : 289 + 32 * k + i ≡ 288 + 32 * k + suc i = omega arith in
      subst (λ o. t (suc (x + o)) ≡ t (x + o)) z (none_in k (omega (arith, few)) i (omega (arith, l)))

  early : (o : ℕ) → 0 ≤ o → o < 576 → t (suc (x + o)) ≡ t (x + o)
  early o _ l = by (nat_lt o 288) refl
    where
      by : (b : Bool) → nat_lt o 288 ≡ b → t (suc (x + o)) ≡ t (x + o)
      by true s =
          let m : o < 288 = grind (arith, nat_tests, s) in
          quiet w wires (x + o)
          (inl (clk w wires rules x y long byte small drives looks at_clock at_data first rests o (omega (arith, l))
          ∙ sent_up byte o m))
      by false s =
          let m : 288 ≤ o = grind (arith, nat_tests, s) in
          let k : ℕ = (o - 288) / 32 in
          let i : ℕ = (o - 288) % 32 in
          let p : 288 + 32 * k + i ≡ o = omega (arith, m) in
          subst (λ o. t (suc (x + o)) ≡ t (x + o)) p (in_cell k i (omega (arith, p, l)) (omega arith))

  -- there it takes the byte
  nine : Cell 9
  nine = cell 9 (omega arith)

  whole_frame : frame_to 9 ++ frame_bit byte 9 ∷ true ∷ [] ≡ frame_bits byte
  whole_frame = refl

  -- after the tenth fall a host that counts ten falls has taken the byte, once and right
  pub at_tenth : t (x + 577) ≡ t x ++ Some byte ∷ []
  at_tenth =
      let p : x + 0 ≡ x = omega arith in
      let z : x + 577 ≡ suc (x + 576) = omega arith in
      let is_nine : (length (frame_to 9) == 9) ≡ true = refl in
      let clock : (w.host (x + 576)).clk ≡ true = nine.host 3 (omega arith) in
      ap t z
      ∙ tenth w wires (x + 576) (frame_to 9) clock
      (host_dat w wires rules x y long byte small drives looks at_clock at_data first rests 576 (omega arith) (omega arith))
      (falls w wires rules x y long byte small drives looks at_clock at_data first rests 9 (omega arith) nine) nine.mode
      is_nine
      ∙ ap (λ b. t (x + 576) ++ byte_of (frame_to 9 ++ b ∷ true ∷ []) ∷ [])
      (read w wires rules x y long byte small drives looks at_clock at_data first rests 9 (omega arith) nine)
      ∙ ap (λ v. t (x + 576) ++ byte_of v ∷ []) whole_frame ∙ ap (λ b. t (x + 576) ++ b ∷ []) (read_back byte small)
      ∙ ap (λ v. v ++ Some byte ∷ []) (same_to w wires x 0 576 (omega arith) early ∙ ap t p)

  -- from there on it has ten bits at most, up to the eleventh fall
  ten : Kept 10 first (E 577)
  ten =
      let is = fell_is w wires rules x y long byte small drives looks at_clock at_data first rests 9 (omega arith) nine in
      let n : length (frame_to 10) ≡ 10 = long_to 10 in
      subst (λ u. Kept 10 first u) (sym is)
      (record { most = omega (arith, n); taken = nine.taken; given = nine.given })

  none_past : (i : ℕ) → i < 31 → NoFall w wires (x + 577 + i)
  none_past i l =
      let p : x + (289 + 32 * 9 + i) ≡ x + 577 + i = omega arith in
      subst (λ c. NoFall w wires c) p
      (no_fall_in w wires rules x y long byte small drives looks at_clock at_data first rests 9 (omega arith) nine i l)

  -- before the eleventh fall ten falls are counted at most
  pub ten_there : Kept 10 first (E 608)
  ten_there =
      let z : x + 577 + 31 ≡ x + 608 = omega arith in
      subst (λ c. Kept 10 first (ear_to w c)) z (keeps_on w wires 10 31 (x + 577) first none_past ten)

  to_eleventh : t (x + 608) ≡ t (x + 577)
  to_eleventh =
      same_to w wires x 577 608 (omega arith)
      (λ o l m.
      let p : 289 + 32 * 9 + (o - 577) ≡ o = omega (arith, l) in
      subst (λ o. t (suc (x + o)) ≡ t (x + o)) p (none_in 9 (omega arith) (o - 577) (omega (arith, l, m))))

  -- if it doesn't pull the clock at the eleventh fall, it has let it go from the tenth on
  no_start : (w.host (x + 608)).clk ≡ true → (o : ℕ) → 593 < o → o ≤ 608 → (a : ℕ) → a ≤ x + o → x + o < a + 24
      → ((i : ℕ) → a ≤ i → i < a + 24 → (w.host i).clk ≡ false) → (b : Bool) → nat_le a (x + 593) ≡ b → true ≡ false
  no_start go o far l a from to low true s =
      let m : a ≤ x + 593 = grind (arith, nat_tests, s) in
      sym (host_clk w wires rules x y long byte small drives looks at_clock at_data first rests 593 (omega arith) (omega arith))
      ∙ low (x + 593) m (omega (arith, to, far))
  no_start go o far l a from to low false s =
      let m : x + 593 < a = grind (arith, nat_tests, s) in
      sym go ∙ low (x + 608) (omega (arith, from, l)) (omega (arith, m))

  clear : (w.host (x + 608)).clk ≡ true → (o : ℕ) → 593 < o → o ≤ 608 → (w.host (x + o)).clk ≡ true
  clear go o far l = by (w.host (x + o)).clk refl
    where
      by : (b : Bool) → (w.host (x + o)).clk ≡ b → (w.host (x + o)).clk ≡ true
      by true goes = goes
      by false pulls =
          let p = rules.long (x + o) pulls in never (no_start go o far l p.0 p.1 p.2 p.3 (nat_le p.0 (x + 593)) refl)

  -- what it has after the eleventh fall
  record After (o : ℕ) : Type 0 where
    most : AtMost 0 (E o).mode
    given : (E o).given ≡ first.given
    taken : t (x + o) ≡ t x ++ Some byte ∷ []

  after : After 609
  after = by (w.host (x + 608)).clk refl
    where
      z : x + 609 ≡ suc (x + 608)
      z = omega arith

      before : t (x + 608) ≡ t x ++ Some byte ∷ []
      before = to_eleventh ∙ at_tenth

      by : (b : Bool) → (w.host (x + 608)).clk ≡ b → After 609
      by false pulls =
          let k : Kept 0 first (E 609) =
          subst (λ c. Kept 0 first (ear_to w c)) (sym z) (drops w wires 10 (x + 608) first pulls ten_there) in
          record { most = k.most; given = k.given; taken = ap t z ∙ pulling w wires (x + 608) pulls ∙ before }
      by true go =
          let past : LetsGo w wires rules x y long byte small drives looks at_clock at_data first rests 9 =
          λ i l far same. clear go (289 + 32 * 9 + i) far (omega (arith, l)) in
          let h : Cell 10 =
          next w wires rules x y long byte small drives looks at_clock at_data first rests 9 (omega arith) nine past in
          let k = ended w wires rules x y long byte small drives looks at_clock at_data first rests h in
          let not_nine : (length (frame_to 10) == 9) ≡ false = refl in
          record {
            most = k.most;
            given = k.given;
            taken = ap t z ∙ other w wires (x + 608) (frame_to 10) h.mode not_nine ∙ before;
          }

  -- at the next tick start
  pub record Took : Type 0 where
    pub most : AtMost 0 (ear_to w y).mode
    pub given : (ear_to w y).given ≡ first.given
    pub taken : t y ≡ t x ++ Some byte ∷ []

  -- at the next tick start a host that counts ten falls has taken the byte, and nothing is under way
  pub took : Took
  took =
      let k : Kept 0 (E 609) (ear_to w y) =
      to_next w wires x y (SentFrame byte) long drives 0 609 (E 609) (omega (arith, long))
      (no_more w wires rules x y long byte small drives looks at_clock at_data first rests)
      (record { most = after.most; taken = refl; given = refl }) in
      let p : x + (y - x) ≡ y = omega (arith, long) in
      let late : t (x + (y - x)) ≡ t (x + 609) =
      same_to w wires x 609 (y - x) (omega (arith, long))
      (λ o l m. quiet w wires (x + o)
      (no_more w wires rules x y long byte small drives looks at_clock at_data first rests o l (omega (arith, m, long)))) in
      record { most = k.most; given = k.given ∙ after.given; taken = ap t (sym p) ∙ late ∙ after.taken }
