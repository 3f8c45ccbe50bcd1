-- Ticks in which no byte passes: without a frame, and with one that is cut.
use Rattle.std.proofs.Common.{◌≡◌, ◌≤◌, ◌<◌, ◌⊎◌, ℕ, zero, suc, ◌+◌, ◌-◌, ◌*◌, Bool, true, false, nat_le, nat_lt, refl, ap, sym, ◌∙◌}
use Rattle.std.proofs.Common.{subst, arith, inl, inr}
use Rattle.std.proofs.lemmas.Bool.Decides.{nat_tests}
use Rattle.law_fw_link.specs.Latch.{Frame, NoFrame, CutFrame, SentFrame, IsLook}
use Rattle.law_any_host.proofs.Ears.{Kept, NoFall, adds, drops, keeps, keeps_on}
use Rattle.law_any_host.proofs.FrameLines.{cut_as_sent, cut_late, none, sent_clock, sent_up}
use Rattle.law_any_host.proofs.Offsets.{after, pulled_by}
use Rattle.law_any_host.specs.Ears.{Ear, ear_to}
use Rattle.law_any_host.specs.Ticks.{frame_lines}
use Rattle.law_any_host.specs.Wires.{AreWires, Wiring}

module _ (w : Wiring) (wires : AreWires w) (x y : ℕ) (frame : Frame) (long : x + 2016 ≤ y)
    (drives : (o : ℕ) → x + o < y → w.keyboard (x + o) ≡ frame_lines frame o) where
  abbrev e : ℕ → Ear
  e = ear_to w

  -- a span in which the clock doesn't fall, up to the next start
  pub to_next : (n o : ℕ) (first : Ear) → x + o ≤ y → ((i : ℕ) → o ≤ i → x + i < y → NoFall w wires (x + i))
      → Kept n first (e (x + o)) → Kept n first (e y)
  to_next n o first l h k =
      let j : ℕ = y - (x + o) in
      let z : x + o + j ≡ y = omega (arith, long, l) in
      subst (λ c. Kept n first (e c)) z
      (keeps_on w wires n j (x + o) first
      (λ i m. let p : x + (o + i) ≡ x + o + i = omega arith in
      subst (λ c. NoFall w wires c) p (h (o + i) (omega arith) (omega (arith, m)))) k)

  -- in a tick without a frame the host takes and gives nothing
  pub still : (first : Ear) → frame ≡ NoFrame → Kept 0 first (e x) → Kept 0 first (e y)
  still first is k =
      let z : x ≡ x + 0 = omega arith in
      to_next 0 0 first (omega (arith, long))
      (λ i l m. inl (ap (λ l. l.clk) (drives i m) ∙ ap (λ f. (frame_lines f i).clk) is ∙ none i))
      (subst (λ c. Kept 0 first (e c)) z k)

  -- a frame that is cut at a look
  module _ (byte look : ℕ) (is : frame ≡ CutFrame byte look) (at : IsLook look) (far : look ≤ 334)
      (low : (w.pins (x + (260 + look))).clk ≡ false) (first : Ear) (rests : Kept 0 first (e x)) where
    -- a frame is cut before the next tick start
    pub room : x + (266 + look) ≤ y
    room = omega (arith, long, far)

    clk : (o : ℕ) → o < 266 + look → (w.keyboard (x + o)).clk ≡ (frame_lines (CutFrame byte look) o).clk
    clk o l = ap (λ l. l.clk) (drives o (omega (arith, room, l))) ∙ ap (λ f. (frame_lines f o).clk) is

    -- up to two cycles after the look the clock is that of a sent frame
    pub as_sent : (o : ℕ) → o < 262 + look → (w.keyboard (x + o)).clk ≡ (frame_lines (SentFrame byte) o).clk
    as_sent o l = clk o (omega (arith, l, far)) ∙ ap (λ l. l.clk) (cut_as_sent byte look at o l)

    -- the clock is let go from two cycles before the look on
    by_look : IsLook look → (i : ℕ) → i < 4 → (frame_lines (SentFrame byte) (258 + look + i)).clk ≡ true
    by_look (inl e) i l = sent_up byte (258 + look + i) (omega (arith, e, l))
    by_look (inr (inl e)) i l = sent_up byte (258 + look + i) (omega (arith, e, l))
    by_look (inr (inr (k, few, inl e))) i l =
        let p : 258 + look + i ≡ 288 + 32 * k + (16 + i) = omega (arith, e) in
        let up : nat_le 16 (16 + i) ≡ true = grind (arith, nat_tests) in
        ap (λ o. (frame_lines (SentFrame byte) o).clk) p
        ∙ sent_clock byte k (16 + i) (omega (arith, l)) (omega (arith, l, few)) ∙ up
    by_look (inr (inr (k, few, inr e))) i l =
        let p : 258 + look + i ≡ 288 + 32 * k + (26 + i) = omega (arith, e.0) in
        let up : nat_le 16 (26 + i) ≡ true = grind (arith, nat_tests) in
        ap (λ o. (frame_lines (SentFrame byte) o).clk) p
        ∙ sent_clock byte k (26 + i) (omega (arith, l)) (omega (arith, l, few)) ∙ up

    -- from two cycles before the look on the keyboard lets the clock go
    pub up_late : (o : ℕ) → 258 + look ≤ o → x + o < y → (w.keyboard (x + o)).clk ≡ true
    up_late o l m = ap (λ l. l.clk) (drives o m) ∙ ap (λ f. (frame_lines f o).clk) is ∙ by (nat_lt o (262 + look)) refl
      where
        by : (b : Bool) → nat_lt o (262 + look) ≡ b → (frame_lines (CutFrame byte look) o).clk ≡ true
        by true e =
            let u : o < 262 + look = grind (arith, nat_tests, e) in
            let i : ℕ = o - (258 + look) in
            let p : o ≡ 258 + look + i = omega (arith, l) in
            ap (λ l. l.clk) (cut_as_sent byte look at o u) ∙ ap (λ o. (frame_lines (SentFrame byte) o).clk) p
            ∙ by_look at i (omega (arith, u, l))
        by false e = cut_late byte look at o (grind (arith, nat_tests, e))

    -- up to the first fall, and through the cells
    up_early : (j : ℕ) → j ≤ 288 → j ≤ 262 + look → Kept 0 first (e (x + j))
    up_early j l m =
        keeps_on w wires 0 j x first (λ i u. inl (as_sent i (omega (arith, u, m)) ∙ sent_up byte i (omega (arith, u, l)))) rests

    -- i cycles into cell k, after its fall
    in_cell : (k i : ℕ) → k < 10 → i < 31 → 288 + 32 * k + i < 261 + look → Kept k first (e (x + (288 + 32 * k)))
        → Kept (suc k) first (e (x + (288 + 32 * k) + suc i))
    in_cell k zero few l m h =
        let z : suc (x + (288 + 32 * k)) ≡ x + (288 + 32 * k) + 1 = omega arith in
        subst (λ c. Kept (suc k) first (e c)) z (adds w wires k (x + (288 + 32 * k)) first few h)
    in_cell k (suc i) few l m h =
        let z : suc (x + (288 + 32 * k) + suc i) ≡ x + (288 + 32 * k) + suc (suc i) = omega arith in
        subst (λ c. Kept (suc k) first (e c)) z
        (keeps w wires (suc k) (x + (288 + 32 * k) + suc i) first (by (nat_le 16 (suc i)) refl)
        (in_cell k i few (omega (arith, l)) (omega (arith, m)) h))
      where
        by : (b : Bool) → nat_le 16 (suc i) ≡ b → NoFall w wires (x + (288 + 32 * k) + suc i)
        by true up =
            let p : x + (288 + 32 * k) + suc i ≡ x + (288 + 32 * k + suc i) = omega arith in
            inl (ap (λ c. (w.keyboard c).clk) p ∙ as_sent (288 + 32 * k + suc i) (omega (arith, m))
            ∙ sent_clock byte k (suc i) (omega (arith, l)) (omega (arith, l, few)) ∙ up)
        by false down =
            let i16 : suc i < 16 = grind (arith, nat_tests, down) in
            let below : nat_le 16 i ≡ false = grind (arith, nat_tests, i16) in
            let p : x + (288 + 32 * k) + suc i ≡ suc (x + (288 + 32 * k + i)) = omega arith in
            inr (
              x + (288 + 32 * k + i),
              p,
              as_sent (288 + 32 * k + i) (omega (arith, m))
                  ∙ sent_clock byte k i (omega (arith, l)) (omega (arith, l, few)) ∙ below,
            )

    -- at a cell's fall before the look the host has counted at most the cells before it, and no byte more
    pub cells : (k : ℕ) → k ≤ 10 → 288 + 32 * k ≤ 260 + look → Kept k first (e (x + (288 + 32 * k)))
    cells zero l m =
        let z : 288 ≡ 288 + 32 * 0 = omega arith in
        subst (λ o. Kept 0 first (e (x + o))) z (up_early 288 (omega arith) (omega (arith, m)))
    cells (suc k) l m =
        let z : x + (288 + 32 * k) + 32 ≡ x + (288 + 32 * suc k) = omega arith in
        let p : x + (288 + 32 * k) + 31 ≡ x + (288 + 32 * k + 31) = omega arith in
        let up : nat_le 16 31 ≡ true = refl in
        subst (λ c. Kept (suc k) first (e c)) z
        (subst (λ c. Kept (suc k) first (e c)) (let q : suc (x + (288 + 32 * k) + 31) ≡ x + (288 + 32 * k) + 32 = omega arith in q)
        (keeps w wires (suc k) (x + (288 + 32 * k) + 31) first
        (inl (ap (λ c. (w.keyboard c).clk) p ∙ as_sent (288 + 32 * k + 31) (omega (arith, m))
        ∙ sent_clock byte k 31 (omega arith) (omega (arith, l)) ∙ up))
        (in_cell k 30 (omega (arith, l)) (omega arith) (omega (arith, m)) (cells k (omega (arith, l)) (omega (arith, m))))))

    -- two cycles before the look
    before_look : IsLook look → (n : ℕ) × Kept n first (e (x + (258 + look)))
    before_look (inl e) = (0, up_early (258 + look) (omega (arith, e)) (omega arith))
    before_look (inr (inl e)) = (0, up_early (258 + look) (omega (arith, e)) (omega arith))
    before_look (inr (inr (k, few, inl is))) =
        let z : x + (288 + 32 * k) + suc 15 ≡ x + (258 + look) = omega (arith, is) in (
          suc k,
          subst (λ c. Kept (suc k) first (e c)) z
              (in_cell k 15 few (omega arith) (omega (arith, is)) (cells k (omega (arith, few)) (omega (arith, is)))),
        )
    before_look (inr (inr (k, few, inr (is, more)))) =
        let z : x + (288 + 32 * k) + suc 25 ≡ x + (258 + look) = omega (arith, is) in (
          suc k,
          subst (λ c. Kept (suc k) first (e c)) z
              (in_cell k 25 few (omega arith) (omega (arith, is)) (cells k (omega (arith, few)) (omega (arith, is)))),
        )

    -- the host pulled the clock there, and so took no byte
    pub cut : Kept 0 first (e y)
    cut =
        let o : ℕ = 258 + look in
        let k = before_look at in
        let up : (i : ℕ) → i < 3 → (w.keyboard (x + (o + i))).clk ≡ true =
        λ i l. up_late (o + i) (omega arith) (omega (arith, l, room, far)) in
        let z : o + 0 ≡ o = omega arith in
        let s1 : o + 1 ≡ suc o = omega arith in
        let s2 : o + 2 ≡ suc (suc o) = omega arith in
        let p : suc (suc o) ≡ 260 + look = omega arith in
        let k0 : (w.keyboard (x + o)).clk ≡ true = ap (λ i. (w.keyboard (x + i)).clk) (sym z) ∙ up 0 (omega arith) in
        let k1 : (w.keyboard (x + suc o)).clk ≡ true = ap (λ i. (w.keyboard (x + i)).clk) (sym s1) ∙ up 1 (omega arith) in
        let k2 : (w.keyboard (x + suc (suc o))).clk ≡ true = ap (λ i. (w.keyboard (x + i)).clk) (sym s2) ∙ up 2 (omega arith) in
        let found : (w.pins (x + suc (suc o))).clk ≡ false = ap (λ i. (w.pins (x + i)).clk) p ∙ low in
        by o k.0 k.1
        (pulled_by (λ c. (w.keyboard c).clk) (λ c. (w.host c).clk) (λ c. (w.pins c).clk) (λ c. (w.seen c).clk) wires.clock x
        o k0 k1 k2 found) refl
      where
        rest : (o : ℕ) → 258 + look ≤ o → o ≤ 266 + look → Kept 0 first (e (x + o)) → Kept 0 first (e y)
        rest o l m h = to_next 0 o first (omega (arith, m, room)) (λ i a b. inl (up_late i (omega (arith, a, l)) b)) h

        on : (o n : ℕ) → 258 + look ≤ o → o ≤ 265 + look → Kept n first (e (x + o)) → Kept n first (e (x + suc o))
        on o n l m k =
            subst (λ c. Kept n first (e c)) (after x o)
            (keeps w wires n (x + o) first (inl (up_late o l (omega (arith, m, room)))) k)

        pulls_at : (o n : ℕ) → 258 + look ≤ o → o ≤ 265 + look → (w.host (x + o)).clk ≡ false → Kept n first (e (x + o))
            → Kept 0 first (e y)
        pulls_at o n l m pulls k =
            rest (suc o) (omega (arith, l)) (omega (arith, m))
            (subst (λ c. Kept 0 first (e c)) (after x o) (drops w wires n (x + o) first pulls k))

        by : (o n : ℕ) → Kept n first (e (x + o))
            → ((w.host (x + o)).clk ≡ false)
            ⊎ (((w.host (x + suc o)).clk ≡ false) ⊎ ((w.host (x + suc (suc o))).clk ≡ false)) → o ≡ 258 + look
            → Kept 0 first (e y)
        by o n k (inl pulls) same = pulls_at o n (omega (arith, same)) (omega (arith, same, far)) pulls k
        by o n k (inr (inl pulls)) same =
            pulls_at (suc o) n (omega (arith, same)) (omega (arith, same, far)) pulls
            (on o n (omega (arith, same)) (omega (arith, same, far)) k)
        by o n k (inr (inr pulls)) same =
            pulls_at (suc (suc o)) n (omega (arith, same)) (omega (arith, same, far)) pulls
            (on (suc o) n (omega (arith, same)) (omega (arith, same, far))
            (on o n (omega (arith, same)) (omega (arith, same, far)) k))
