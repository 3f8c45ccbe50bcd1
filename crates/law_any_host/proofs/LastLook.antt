-- A host that pulls the clock once, from the cycle of the first tick's last look on. The look finds that, or misses it.
use Rattle.std.proofs.Common.{◌≡◌, ◌≤◌, ◌<◌, ℕ, zero, suc, ◌+◌, ◌*◌, ◌==◌, Bool, true, false, nat_le, nat_lt}
use Rattle.std.proofs.Common.{◌&&◌, ◌||◌, List, [], length, if◌then◌else◌, refl, ap, sym, ◌∙◌, subst, arith, inl, inr}
use Rattle.std.proofs.lemmas.Bool.Decides.{nat_tests}
use Rattle.board_terms.specs.declared.lines.Lines.{Lines}
use Rattle.law_fw_link.proofs.Wires.{look_within}
use Rattle.law_fw_link.specs.Latch.{Frame, NoFrame, SentFrame, CutFrame, IsLook}
use Rattle.joint_run.specs.Joint.{latch_of}
use Rattle.model_keyboard.specs.declared.meeting.Meeting.{Meeting}
use Rattle.model_keyboard.specs.declared.meeting.Meeting.TheVariants.{Idle, Sent, Cut}
use Rattle.law_any_host.proofs.Alone.{IsTaking, bit_taken}
use Rattle.law_any_host.proofs.Ears.{Kept, held, never, went}
use Rattle.law_any_host.proofs.FrameLines.{at_look, cut_as_sent, early, late}
use Rattle.law_any_host.specs.Ears.{Ear, Gives, Takes, ear_to, fell, no_byte}
use Rattle.law_any_host.specs.Rules.{IsRuleful}
use Rattle.law_any_host.specs.Ticks.{AreTicks, IsFound, frame_lines}
use Rattle.law_any_host.specs.Wires.{AreWires, Wiring}
use Rattle.law_agreement.specs.AnyKeys.{shortest_tick}

-- a number isn't both 1 and 0
pub one_isnt_none : (n : ℕ) → n ≡ 1 → n ≡ 0 → true ≡ false
one_isnt_none n one none = absurd (omega (arith, one, none))

-- a number that is at least another, which is 1, isn't 0
pub one_or_more : (n m : ℕ) → n ≡ 1 → n ≤ m → m ≡ 0 → true ≡ false
one_or_more n m one more none = absurd (omega (arith, one, more, none))

-- an and of two that are true is true
pub both : (a b : Bool) → a ≡ true → b ≡ true → (a && b) ≡ true
both a b p q = rw (p, q) refl

-- an and whose second part is false is false
pub not_second : (a b : Bool) → b ≡ false → (a && b) ≡ false
not_second true b p = p
not_second false b p = refl

-- the host lets the clock go but for 24 cycles, from the last look of the first tick on
abbrev pub goes : ℕ → Bool
goes c = nat_lt c 594 || nat_le 618 c

-- before the pull this host lets the clock go
pub goes_early : (c : ℕ) → c < 594 → goes c ≡ true
goes_early c l = let a : nat_lt c 594 ≡ true = grind (arith, nat_tests, l) in rw a refl

-- after the pull this host lets the clock go
pub goes_late : (c : ℕ) → 618 ≤ c → goes c ≡ true
goes_late c l =
    let a : nat_lt c 594 ≡ false = grind (arith, nat_tests, l) in
    let b : nat_le 618 c ≡ true = grind (arith, nat_tests, l) in
    rw (a, b) refl

-- this host pulls the clock for 24 cycles, from the cycle of the last look on
pub pulls : (c : ℕ) → 594 ≤ c → c < 618 → goes c ≡ false
pulls c l m =
    let a : nat_lt c 594 ≡ false = grind (arith, nat_tests, l) in
    let b : nat_le 618 c ≡ false = grind (arith, nat_tests, m) in
    rw (a, b) refl

-- if this host pulls the clock, its pull has begun
pub pulled_from : (c : ℕ) → goes c ≡ false → 594 ≤ c
pulled_from c is = by (nat_lt c 594) refl
  where
    by : (b : Bool) → nat_lt c 594 ≡ b → 594 ≤ c
    by true s = never (sym (goes_early c (grind (arith, nat_tests, s))) ∙ is)
    by false s = grind (arith, nat_tests, s)

-- if this host pulls the clock, its pull isn't over
pub pulled_to : (c : ℕ) → goes c ≡ false → c < 618
pulled_to c is = by (nat_le 618 c) refl
  where
    by : (b : Bool) → nat_le 618 c ≡ b → c < 618
    by true s = never (sym (goes_late c (grind (arith, nat_tests, s))) ∙ is)
    by false s = grind (arith, nat_tests, s)

-- one tick with a frame, and then ticks without
abbrev pub driven : Frame → ℕ → Lines
driven frame c = if nat_lt c 3000 then frame_lines frame c else latch_of 255

-- in the first tick the keyboard drives its frame
pub in_first : (frame : Frame) (c : ℕ) → c < 3000 → driven frame c ≡ frame_lines frame c
in_first frame c l = let a : nat_lt c 3000 ≡ true = grind (arith, nat_tests, l) in rw a refl

past_first : (frame : Frame) (c : ℕ) → 3000 ≤ c → driven frame c ≡ latch_of 255
past_first frame c l = let a : nat_lt c 3000 ≡ false = grind (arith, nat_tests, l) in rw a refl

no_frame : (o : ℕ) → frame_lines NoFrame o ≡ latch_of 255
no_frame o = by (nat_lt o 260) refl
  where
    by : (b : Bool) → nat_lt o 260 ≡ b → frame_lines NoFrame o ≡ latch_of 255
    by true s = early NoFrame o (grind (arith, nat_tests, s))
    by false s = let l : 260 ≤ o = grind (arith, nat_tests, s) in late NoFrame o (omega (arith, l))

-- a look in the first cycle of the pull finds it, or misses it
abbrev pub found : Bool → ℕ → Bool
found missed c = goes c || (missed && (c == 594))

-- if the host lets the clock go, a look finds it let go
pub found_high : (missed : Bool) (c : ℕ) → goes c ≡ true → found missed c ≡ true
found_high missed c is = rw is refl

abbrev pub wiring : Frame → Bool → Wiring
wiring frame missed = record {
  keyboard = driven frame;
  host = λ c. record { clk = goes c; dat = true };
  pins = λ c. record { clk = (driven frame c).clk && found missed c; dat = (driven frame c).dat };
  seen = λ c. record { clk = (driven frame c).clk && goes c; dat = (driven frame c).dat };
  reads = λ c. (driven frame c).dat;
  wants = λ c. 0;
}

abbrev pub starts : ℕ → ℕ
starts n = 3000 * n

abbrev pub frames : Frame → ℕ → Frame
frames frame zero = frame
frames frame (suc n) = NoFrame

abbrev pub meetings : Meeting → ℕ → Meeting
meetings met zero = met
meetings met (suc n) = Idle

module _ (frame : Frame) (missed : Bool) where
  abbrev w : Wiring
  w = wiring frame missed

  pulled : (c : ℕ) → goes c ≡ false → goes (suc c) ≡ false → ((driven frame (suc c)).clk && found missed (suc c)) ≡ false
  pulled c a b =
      let l : 594 ≤ c = pulled_from c a in
      let other : (suc c == 594) ≡ false = grind (arith, nat_tests, l) in
      not_second (driven frame (suc c)).clk (found missed (suc c))
      (ap (λ v. v || (missed && (suc c == 594))) b ∙ not_second missed (suc c == 594) other)

  -- the wires of this host keep the rules of wires: a look finds a pull in its second cycle at the latest
  pub wires : AreWires w
  wires = record {
    clock = record {
      pulled = pulled;
      risen = λ c a b d e f g. both (driven frame (suc (suc c))).clk (found missed (suc (suc c))) f (found_high missed (suc (suc c)) g);
      low = λ c a. ap (λ v. v && goes c) a;
      high = λ c a b d e f g. both (driven frame (suc (suc c))).clk (goes (suc (suc c))) f g;
      stays = λ c s k h. both (driven frame (suc c)).clk (goes (suc c)) k h;
    };
    data_wire = record {
      pulled = λ c a b. never a;
      risen = λ c a b d e f g. f;
      low = λ c a. a;
      high = λ c a b d e f g. f;
      stays = λ c s k h. k;
    };
  }

  -- it never sends
  takes : (c : ℕ) → IsTaking (ear_to w c).mode
  takes zero = ([], refl)
  takes (suc c) = let t = takes c in by t.0 t.1 (goes c) refl (fell w c) refl
    where
      by : (bits : List Bool) → (ear_to w c).mode ≡ Takes bits → (b : Bool) → goes c ≡ b → (f : Bool) → fell w c ≡ f
          → IsTaking (ear_to w (suc c)).mode
      by bits is false low f falls = subst (λ (e : Ear). IsTaking e.mode) (sym (held w wires c low)) ([], refl)
      by bits is true go false falls =
          subst (λ (e : Ear). IsTaking e.mode) (sym (went w wires c (Takes bits) true false go is refl falls)) (bits, is)
      by bits is true go true falls =
          subst (λ (e : Ear). IsTaking e.mode) (sym (went w wires c (Takes bits) true true go is refl falls))
          (bit_taken bits (w.reads c) (ear_to w c) (length bits == 10) refl)

  other_mode : {A : Type 0} → (bits : List Bool) (byte falls : ℕ) → Takes bits ≡ Gives byte falls → A
  other_mode bits byte falls is = absurd cc

  never_gives : {A : Type 0} → (c byte falls : ℕ) → (ear_to w c).mode ≡ Gives byte falls → A
  never_gives c byte falls is = let t = takes c in other_mode t.0 byte falls (sym t.1 ∙ is)

  -- this host keeps all rules but the one for a byte's end
  pub rules : IsRuleful w
  rules = record {
    long = λ c low.
        let l : 594 ≤ c = pulled_from c low in
        let m : c < 618 = pulled_to c low in
        (594, l, omega (arith, m), λ i a b. pulls i a (omega (arith, b)));
    sends = λ c byte falls is. never_gives c byte falls is;
    asks = λ c bits is low. never low;
    holds = λ c byte is. never_gives c byte 0 is;
    puts = λ c byte falls i is f l next. never_gives c byte falls is;
    reads = λ c level falls h. let z : c ≡ c + 0 = omega arith in ap (λ i. (w.seen i).dat) z ∙ h 0 (omega arith);
    bytes = λ c. omega arith;
  }

  -- the ticks of this host are as ticks must be: the first drives its frame, and the others none
  pub ticks : (met : Meeting) → IsFound w.pins 0 frame met → AreTicks w starts (frames frame) (meetings met)
  ticks met is = record { before = λ c l. absurd (omega (arith, l)); long = long; drives = drives; found = finds }
    where
      long : (n : ℕ) → starts n + shortest_tick ≤ starts (suc n)
      long zero = omega arith
      long (suc n) = omega arith

      drives : (n o : ℕ) → starts n + o < starts (suc n) → driven frame (starts n + o) ≡ frame_lines (frames frame n) o
      drives zero o l =
          let z : starts 0 + o ≡ o = omega arith in ap (driven frame) z ∙ in_first frame o (omega (arith, l))
      drives (suc n) o l = past_first frame (starts (suc n) + o) (omega arith) ∙ sym (no_frame o)

      finds : (n : ℕ) → IsFound w.pins (starts n) (frames frame n) (meetings met n)
      finds zero = is
      finds (suc n) = inl refl

-- the same first byte in both: it is cut at the last look, or that misses the pull
abbrev pub cut : Frame
cut = CutFrame 0 334

abbrev pub sent : Frame
sent = SentFrame 0

abbrev pub C : Wiring
C = wiring cut false

abbrev pub S : Wiring
S = wiring sent true

-- the last look at the clock is at offset 334 of the frame
pub last_look : IsLook 334
last_look = inr (inr (9, omega arith, inl refl))

up_at : (look : ℕ) → IsLook look → (frame_lines sent (260 + look)).clk ≡ true
up_at look is =
    let p : 260 + look ≡ 260 + look + 0 = omega arith in
    ap (λ o. (frame_lines sent o).clk) p
    ∙ ap (λ (l : Lines). l.clk) (sym (cut_as_sent 0 look is (260 + look + 0) (omega arith)))
    ∙ at_look 0 look is 0 (omega arith)

-- if the last look misses the pull, each look of the sent frame finds the clock high
pub looks : (look : ℕ) → IsLook look → (S.pins (0 + (260 + look))).clk ≡ true
looks look is =
    both (driven sent (0 + (260 + look))).clk (found true (0 + (260 + look)))
    (ap (λ c. (driven sent c).clk) z ∙ ap (λ (l : Lines). l.clk) (in_first sent (260 + look) (omega (arith, far))) ∙ up_at look is)
    (ap (found true) z ∙ by (nat_lt (260 + look) 594) refl)
  where
    far : look ≤ 334
    far = look_within look is

    z : 0 + (260 + look) ≡ 260 + look
    z = omega arith

    by : (b : Bool) → nat_lt (260 + look) 594 ≡ b → found true (260 + look) ≡ true
    by true s = found_high true (260 + look) (goes_early (260 + look) (grind (arith, nat_tests, s)))
    by false s =
        let m : 594 ≤ 260 + look = grind (arith, nat_tests, s) in
        let p : 260 + look ≡ 594 = omega (arith, m, far) in ap (found true) p

-- if the last look misses the pull, the first tick sends its byte, and the other ticks are idle
pub s_ticks : AreTicks S starts (frames sent) (meetings Sent)
s_ticks = ticks sent true Sent (refl, omega arith, refl, refl, looks)

-- if the last look finds the pull, the first tick's frame is cut, and the other ticks are idle
pub c_ticks : AreTicks C starts (frames cut) (meetings Cut)
c_ticks = ticks cut false Cut (refl, last_look, not_second (driven cut 594).clk (found false 594) refl)

-- in the first tick the keyboard drives a sent frame
pub s_drives : (o : ℕ) → 0 + o < 3000 → S.keyboard (0 + o) ≡ frame_lines sent o
s_drives o l = let z : 0 + o ≡ o = omega arith in ap (driven sent) z ∙ in_first sent o (omega (arith, l))

-- the first tick is long enough for the frame
pub room : 0 + 2016 ≤ 3000
room = omega arith

-- the byte that is sent, 00, is a byte
pub small : 0 < 256
small = omega arith

-- before the first tick the host has nothing under way
pub rests : Kept 0 no_byte (ear_to S 0)
rests = record { most = omega arith; taken = refl; given = refl }
