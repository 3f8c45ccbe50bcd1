-- The rules of a host: what it must do on the two wires.
use Rattle.std.specs.Prelude.{◌≡◌, ◌≤◌, ◌<◌, ℕ, suc, ◌+◌, Bool, true, false, List, length}
use Rattle.law_fw_link.specs.Latch.{frame_bit}
use Rattle.law_any_host.specs.Ears.{Counting, Eleventh, Gives, Takes, Tenth, ear_to, fell}
use Rattle.law_any_host.specs.Wires.{Wiring}

-- a host keeps the rules, field by field: each pull of the clock lasts 24 cycles, 60 microseconds; there is none while it
-- sends. To request to send it pulls data once a pull of the clock has lasted 21 cycles, 52.5 microseconds, and holds it
-- until the first fall. From 14 cycles, 35 microseconds, after each fall on it puts the next bit. It reads each bit of the
-- keyboard in the 16 cycles, 40 microseconds, after the fall. What it sends are bytes
pub record IsRuleful (w : Wiring) : Type 0 where
  pub long : (c : ℕ) → (w.host c).clk ≡ false
      → (a : ℕ) × (a ≤ c) × (c < a + 24) × ((i : ℕ) → a ≤ i → i < a + 24 → (w.host i).clk ≡ false)
  pub sends : (c byte falls : ℕ) → (ear_to w c).mode ≡ Gives byte falls → (w.host c).clk ≡ true
  pub asks : (c : ℕ) (bits : List Bool) → (ear_to w c).mode ≡ Takes bits → (w.host c).dat ≡ false
      → (i : ℕ) → i < c → c ≤ i + 21 → (w.host i).clk ≡ false
  pub holds : (c byte : ℕ) → (ear_to w c).mode ≡ Gives byte 0 → (w.host c).dat ≡ false
  pub puts : (c byte falls i : ℕ) → (ear_to w c).mode ≡ Gives byte falls → fell w c ≡ true → 14 ≤ i
      → (ear_to w (c + i)).mode ≡ Gives byte (suc falls) → (w.host (c + i)).dat ≡ frame_bit byte (suc falls)
  pub reads : (c : ℕ) (level : Bool) → fell w c ≡ true
      → ((i : ℕ) → i ≤ 16 → (w.seen (c + i)).dat ≡ level) → w.reads c ≡ level
  pub bytes : (c : ℕ) → w.wants c < 256

-- and at the end of a byte, by the fall that it counts, if the keyboard looks at the clock for the last time so many cycles
-- after the tenth fall. One that counts the eleventh begins no pull of the clock from there on up to the eleventh: the
-- keyboard wouldn't see it. One that counts the tenth begins none from that fall up to there: the keyboard might see it.
-- Later it is free to
abbrev pub EndsBy : ℕ → Counting → Wiring → Type 0
EndsBy last Tenth w =
    (c i : ℕ) (nine : List Bool) → (ear_to w c).mode ≡ Takes nine → length nine ≡ 9 → fell w c ≡ true
    → (w.host c).clk ≡ true → i ≤ last → (w.host (c + i)).clk ≡ true
EndsBy last Eleventh w =
    (c i : ℕ) (nine ten : List Bool) → (ear_to w c).mode ≡ Takes nine → length nine ≡ 9 → fell w c ≡ true → last ≤ i
    → (ear_to w (c + i)).mode ≡ Takes ten → length ten ≡ 10 → (w.host (c + i)).clk ≡ true

-- that is 18 cycles, 45 microseconds, after it
abbrev pub Ends : Counting → Wiring → Type 0
Ends counts w = EndsBy 18 counts w
