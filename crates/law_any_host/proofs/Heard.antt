-- From tick to tick: a host that keeps the rules takes each byte that is sent, and the keyboard gets each byte that it sends.
use Rattle.std.proofs.Common.{◌≡◌, ◌≤◌, ◌<◌, ℕ, zero, suc, ◌+◌, ◌*◌, Bool, true, List, [], ◌∷◌, ◌++◌, Some}
use Rattle.std.proofs.Common.{refl, ap, sym, ◌∙◌, subst, arith, inl, inr}
use Rattle.std.proofs.lemmas.List.{append-nil}
use Rattle.std.specs.declared.option.Option.{Option}
use Rattle.law_fw_link.proofs.Wires.{look_within}
use Rattle.law_fw_link.specs.Latch.{Frame, NoFrame, SentFrame, CutFrame, ReceivedFrame, IsLook}
use Rattle.law_fw_link.specs.Reading.{byte_in, right_in}
use Rattle.model_keyboard.specs.declared.meeting.Meeting.{Meeting}
use Rattle.model_keyboard.specs.declared.meeting.Meeting.TheVariants.{Got, Idle, Inhibited, Cut}
use Rattle.law_any_host.proofs.Ears.{AtMost, Kept, keeps_on}
use Rattle.law_any_host.proofs.GotTick as got
use Rattle.law_any_host.proofs.SentTick as sent
use Rattle.law_any_host.proofs.Still.{cut, still}
use Rattle.law_any_host.proofs.Tenth.{quiet, same_over}
use Rattle.law_any_host.proofs.TenthGot as got_tenth
use Rattle.law_any_host.proofs.TenthSent as sent_tenth
use Rattle.law_any_host.proofs.TenthTick as tenth
use Rattle.law_any_host.specs.Ears.{Counting, Ear, Eleventh, Tenth, ear_to, no_byte, taken_by}
use Rattle.law_any_host.specs.Hearing.{HearsEach, IsRight, RulefulLaw, got_before, got_by, sent_before, sent_by}
use Rattle.law_any_host.specs.Rules.{Ends, IsRuleful}
use Rattle.law_any_host.specs.Ticks.{AreTicks, IsFound, frame_lines}
use Rattle.law_any_host.specs.Wires.{AreWires, Wiring}

-- what is taken by either host, if both take the same
either : (counts : Counting) (w : Wiring) (x y : ℕ) → taken_by Eleventh w y ≡ taken_by Eleventh w x
    → taken_by Tenth w y ≡ taken_by Tenth w x → taken_by counts w y ≡ taken_by counts w x
either Tenth w x y eleven ten = ten
either Eleventh w x y eleven ten = eleven

-- a frame that is cut
cut_by : (counts : Counting) (w : Wiring) → Ends counts w → (x y : ℕ) → taken_by Eleventh w y ≡ taken_by Eleventh w x
    → (Ends Tenth w → taken_by Tenth w y ≡ taken_by Tenth w x) → taken_by counts w y ≡ taken_by counts w x
cut_by Tenth w ends x y eleven ten = ten ends
cut_by Eleventh w ends x y eleven ten = eleven

-- one that is sent
module _ (w : Wiring) (wires : AreWires w) (rules : IsRuleful w) (x y : ℕ) (long : x + 2016 ≤ y) (byte : ℕ) (small : byte < 256)
    (drives : (o : ℕ) → x + o < y → w.keyboard (x + o) ≡ frame_lines (SentFrame byte) o)
    (looks : (look : ℕ) → IsLook look → (w.pins (x + (260 + look))).clk ≡ true)
    (at_clock : (w.pins (x + 256)).clk ≡ true) (at_data : (w.pins (x + 258)).dat ≡ true) (first : Ear)
    (rests : Kept 0 first (ear_to w x)) (same : first.taken ≡ taken_by Eleventh w x) where
  record Took (counts : Counting) : Type 0 where
    most : AtMost 0 (ear_to w y).mode
    given : (ear_to w y).given ≡ first.given
    taken : taken_by counts w y ≡ taken_by counts w x ++ Some byte ∷ []

  took : (counts : Counting) → Ends counts w → Took counts
  took Tenth ends =
      let k = sent_tenth.took w wires rules x y long byte small drives looks at_clock at_data first rests in
      record { most = k.most; given = k.given; taken = k.taken }
  took Eleventh ends =
      let k = sent.sent w wires rules x y long byte small drives looks at_clock at_data first rests ends in
      record { most = k.most; given = k.given; taken = k.taken ∙ ap (λ v. v ++ Some byte ∷ []) same }

module _ (counts : Counting) (w : Wiring) (wires : AreWires w) (rules : IsRuleful w) (ends : Ends counts w) (starts : ℕ → ℕ)
    (frames : ℕ → Frame) (meetings : ℕ → Meeting) (ticks : AreTicks w starts frames meetings) where
  abbrev e : ℕ → Ear
  e n = ear_to w (starts n)

  abbrev t : ℕ → List (Option ℕ)
  t n = taken_by counts w (starts n)

  -- what a tick adds
  record Adds (n : ℕ) : Type 0 where
    most : AtMost 0 (e (suc n)).mode
    taken : t (suc n) ≡ t n ++ sent_by (frames n)
    given : (e (suc n)).given ≡ (e n).given ++ got_by (meetings n)
    right : IsRight (meetings n)

  adds : (n : ℕ) → AtMost 0 (e n).mode → Adds n
  adds n most = by (frames n) refl (ticks.found n)
    where
      rests : Kept 0 (e n) (e n)
      rests = record { most = most; taken = refl; given = refl }

      nothing : (f : Frame) → frames n ≡ f → sent_by f ≡ [] → (m : Meeting) → meetings n ≡ m → got_by m ≡ [] → IsRight m
          → Kept 0 (e n) (e (suc n)) → t (suc n) ≡ t n → Adds n
      nothing f is none m met nil right k same = record {
        most = k.most;
        taken = same ∙ sym (append-nil (t n)) ∙ ap (λ v. t n ++ v) (sym (ap sent_by is ∙ none));
        given = k.given ∙ sym (append-nil (e n).given) ∙ ap (λ v. (e n).given ++ v) (sym (ap got_by met ∙ nil));
        right = subst (λ m. IsRight m) (sym met) right;
      }

      idle : frames n ≡ NoFrame → Kept 0 (e n) (e (suc n))
      idle is = still w wires (starts n) (starts (suc n)) (frames n) (ticks.long n) (ticks.drives n) (e n) is rests

      no_byte_in : frames n ≡ NoFrame → t (suc n) ≡ t n
      no_byte_in is =
          either counts w (starts n) (starts (suc n)) (idle is).taken
          (tenth.still w wires (starts n) (starts (suc n)) (frames n) (ticks.long n) (ticks.drives n) is)

      by : (f : Frame) → frames n ≡ f → IsFound w.pins (starts n) f (meetings n) → Adds n
      by NoFrame is (inl met) =
          nothing NoFrame is refl Idle met refl tt (idle is) (no_byte_in is)
      by NoFrame is (inr met) =
          nothing NoFrame is refl Inhibited met refl tt (idle is) (no_byte_in is)
      by (CutFrame byte look) is h =
          let k = cut w wires (starts n) (starts (suc n)) (frames n) (ticks.long n) (ticks.drives n) byte look is h.1
          (look_within look h.1) h.2 (e n) rests in
          nothing (CutFrame byte look) is refl Cut h.0 refl tt k
          (cut_by counts w ends (starts n) (starts (suc n)) k.taken
          (λ ends. tenth.cut w wires (starts n) (starts (suc n)) (frames n) (ticks.long n) (ticks.drives n) byte look is h.1
          (look_within look h.1) h.2 (e n) rests ends))
      by (SentFrame byte) is h =
          let k = took w wires rules (starts n) (starts (suc n)) (ticks.long n) byte h.1
          (λ o l. ticks.drives n o l ∙ ap (λ f. frame_lines f o) is) h.4 h.3 h.2 (e n) rests refl counts ends in
          record {
            most = k.most;
            taken = k.taken ∙ ap (λ v. t n ++ v) (sym (ap sent_by is));
            given = k.given ∙ sym (append-nil (e n).given) ∙ ap (λ v. (e n).given ++ v) (sym (ap got_by h.0));
            right = subst (λ m. IsRight m) (sym h.0) tt;
          }
      by ReceivedFrame is h =
          let drives : (o : ℕ) → starts n + o < starts (suc n) → w.keyboard (starts n + o) ≡ frame_lines ReceivedFrame o =
          λ o l. ticks.drives n o l ∙ ap (λ f. frame_lines f o) is in
          let k = got.given_there w wires rules (starts n) (starts (suc n)) (ticks.long n) drives h.1 h.2 (e n) rests in
          let r = got.received w wires rules (starts n) (starts (suc n)) (ticks.long n) drives h.1 h.2 (e n) rests in
          let none : t (suc n) ≡ t n =
          either counts w (starts n) (starts (suc n)) k.taken
          (got_tenth.received w wires rules (starts n) (starts (suc n)) (ticks.long n) drives h.1 h.2 (e n) rests) in
          let byte : ℕ = byte_in (λ k. (w.pins (starts n + (306 + 32 * k))).dat) in
          let good : Bool = right_in (λ k. (w.pins (starts n + (306 + 32 * k))).dat) in
          let met : meetings n ≡ Got byte good = h.0 in
          record {
            most = k.most;
            taken = none ∙ sym (append-nil (t n)) ∙ ap (λ v. t n ++ v) (sym (ap sent_by is));
            given = k.given ∙ ap (λ b. (e n).given ++ b ∷ []) (sym r.0) ∙ ap (λ v. (e n).given ++ v) (sym (ap got_by met));
            right = subst (λ m. IsRight m) (sym met) r.1;
          }

  -- up to the first tick
  first : Kept 0 no_byte (e 0)
  first =
      let z : 0 + starts 0 ≡ starts 0 = omega arith in
      subst (λ c. Kept 0 no_byte (ear_to w c)) z
      (keeps_on w wires 0 (starts 0) 0 no_byte
      (λ i l. let p : i ≡ 0 + i = omega arith in
      inl (subst (λ c. (w.keyboard c).clk ≡ true) p (ticks.before i l)))
      (record { most = omega arith; taken = refl; given = refl }))

  rests_at : (n : ℕ) → AtMost 0 (e n).mode
  rests_at zero = first.most
  rests_at (suc n) = (adds n (rests_at n)).most

  none_before : (counts : Counting) → taken_by counts w (starts 0) ≡ []
  none_before Eleventh = first.taken
  none_before Tenth =
      let z : 0 + starts 0 ≡ starts 0 = omega arith in
      ap (taken_by Tenth w) (sym z)
      ∙ same_over w wires (starts 0) 0
      (λ i l. quiet w wires (0 + i)
      (inl (let p : i ≡ 0 + i = omega arith in subst (λ c. (w.keyboard c).clk ≡ true) p (ticks.before i l))))

  taken_at : (n : ℕ) → t n ≡ sent_before frames n
  taken_at zero = none_before counts
  taken_at (suc n) = (adds n (rests_at n)).taken ∙ ap (λ v. v ++ sent_by (frames n)) (taken_at n)

  given_at : (n : ℕ) → (e n).given ≡ got_before meetings n
  given_at zero = first.given
  given_at (suc n) = (adds n (rests_at n)).given ∙ ap (λ v. v ++ got_by (meetings n)) (given_at n)

  -- over all ticks the host takes each byte that is sent, and the keyboard each byte of the host, once and right
  pub hears_each : HearsEach counts w starts frames meetings
  hears_each = record { taken = taken_at; given = given_at; right = λ n. (adds n (rests_at n)).right }

-- a host that keeps the rules takes each byte that is sent once and right, and the keyboard each byte of the host
pub ruleful : RulefulLaw
ruleful counts w wires rules ends starts frames meetings ticks = hears_each counts w wires rules ends starts frames meetings ticks
