-- Over the lines of a tick with a frame, board and byte time do the same; and what the first edge meets.
use Rattle.std.proofs.Common.{◌≡◌, ◌≤◌, ◌<◌, ℕ, suc, ◌+◌, ◌-◌, ◌*◌, List, Bool, true, false, nat_lt, Some, refl}
use Rattle.std.proofs.Common.{ap, sym, ◌∙◌, arith}
use Rattle.std.specs.declared.option.Option.{Option}
use Rattle.std.proofs.lemmas.Bool.Decides.{nat_tests}
use Rattle.board_terms.specs.declared.event.HostEvent.{HostEvent}
use Rattle.board_terms.specs.declared.lines.Lines.{Lines}
use Rattle.model_controller.specs.ByteTime.{meeting_in}
use Rattle.model_controller.specs.declared.meeting.Meeting.{Meeting}
use Rattle.model_controller.specs.declared.meeting.Meeting.TheVariants.{Got, Sent, Cut}
use Rattle.ctl_link.specs.Link.{is_busy}
use Rattle.ctl_wire.specs.Wire.{drive}
use Rattle.ctl_link.specs.declared.link.Link.TheVariants.{Free, Request}
use Rattle.law_fw_link.specs.Latch.{IsLook, frame_bit, sent_latch, cut_latch, cut_after, received_latch}
use Rattle.law_fw_link.proofs.Cut.{as_sent}
use Rattle.law_fw_link.proofs.Outside.{before_frame, in_frame, lines_of, sent_lines, received_lines, cut_lines, cut_afterwards}
use Rattle.law_fw_link.proofs.Wired.{IsReleased}
use Rattle.law_fw_link.proofs.Wires.{look_within}
use Rattle.law_fw_link.proofs.Lets.{lets_at}
use Rattle.law_fw_link.proofs.WiresGot.{received_bit}
use Rattle.joint_run.specs.Joint.{latch_of}
use Rattle.ctl_wire.specs.Wires.{Pc}
use Rattle.law_wires_agree.proofs.Looked.{all_sent, all_got, all_cut, all_still}
use Rattle.law_wires_agree.proofs.Start.{byte_of_bits}
use Rattle.law_wires_agree.specs.Cells.{IsUp}
use Rattle.law_wires_agree.specs.Cycles.{board_cycles}
use Rattle.law_wires_agree.specs.Flips.{IsFlip}
use Rattle.law_wires_agree.specs.Ticks.{Ticked, IsNone, at_meeting, leaves_clock, leaves_cycle}
use Rattle.law_wires_agree.proofs.Lines.{same_lines}
use Rattle.law_wires_agree.proofs.Off.{all_broken}
use Rattle.law_wires_agree.specs.Without.{seen_in_bytes}

module _ (v start byte : ℕ) (released : IsReleased v) where
  abbrev sent : ℕ → Lines
  sent = lines_of v start released (sent_latch v byte) 368

  abbrev cut : ℕ → ℕ → Lines
  cut look = lines_of v start released (cut_latch v byte look) (cut_after look)

  -- up to where it is cut a frame drives what one that is sent does
  pub cut_is_sent : (look o : ℕ) → IsLook look → o < 262 + look + start → cut look o ≡ sent o
  cut_is_sent look o is u = by_case (nat_lt o (260 + start)) refl
    where
      by_case : (c : Bool) → nat_lt o (260 + start) ≡ c → cut look o ≡ sent o
      by_case true e =
          let l : o < 260 + start = grind (arith, nat_tests, e) in
          ap latch_of (before_frame (cut_latch v byte look) v start (cut_after look) o l)
          ∙ ap latch_of (sym (before_frame (sent_latch v byte) v start 368 o l))
      by_case false e =
          let m : 260 + start ≤ o = grind (arith, nat_tests, e) in
          let far : look ≤ 334 = look_within look is in
          let i = o - (260 + start) in
          let p : o ≡ 260 + start + i = omega (arith, m) in
          let k : i < cut_after look = omega (arith, m, u) in
          let n : i < 368 = omega (arith, k, far) in
          let q : i < look + 2 = omega (arith, m, u) in
          ap (cut look) p
          ∙ ap latch_of (in_frame (cut_latch v byte look) v start (cut_after look) i k ∙ as_sent v byte look i q)
          ∙ ap latch_of (sym (in_frame (sent_latch v byte) v start 368 i n)) ∙ ap sent (sym p)

  -- so the PC's side is one up to there
  pub cut_sides : (events : List HostEvent) (look n now : ℕ) (b : Pc) → IsLook look → now + n ≤ 262 + look + start
      → board_cycles events (cut look) n now b ≡ board_cycles events sent n now b
  cut_sides events look n now b is l =
      same_lines events (cut look) sent n now b (λ o a u. cut_is_sent look o is (omega (arith, u, l)))

  -- also at the looks up to that of the cut
  pub cut_lets : (events : List HostEvent) (look earlier : ℕ) (b : Pc) → IsLook look → earlier ≤ look
      → lets_at events (cut look) start b earlier ≡ lets_at events sent start b earlier
  cut_lets events look earlier b is l =
      ap (λ (c : Pc). (drive c.side.port.link).clk)
      (cut_sides events look (4 + earlier) (256 + start) b is (omega (arith, l)))

  -- it leaves the clock alone up to the first edge
  pub cut_up : (look : ℕ) → IsLook look → IsUp (cut look) (256 + start) (288 + start)
  cut_up look is o a u = by_case (nat_lt o (262 + look + start)) refl
    where
      by_case : (c : Bool) → nat_lt o (262 + look + start) ≡ c → (cut look o).clk ≡ true
      by_case true e =
          let l : o < 262 + look + start = grind (arith, nat_tests, e) in
          ap (λ (z : Lines). z.clk) (cut_is_sent look o is l)
          ∙ (sent_lines v start released byte 0).0 o a u
      by_case false e =
          let l : 262 + look + start ≤ o = grind (arith, nat_tests, e) in
          ap (λ q. (latch_of q).clk) (cut_afterwards v start byte look o l) ∙ released.clock

module _ (events : List HostEvent) (v start : ℕ) (released : IsReleased v) (rest k : ℕ) (b : Pc)
    (all : k ≡ 353 + rest) where
  -- a tick that sends: the controller leaves the clock alone at all ten looks
  pub sent_ticked : (byte more : ℕ) → byte < 256 → rest ≡ 15 + more → b.side.port.link ≡ Free
      → (at_meeting events (lines_of v start released (sent_latch v byte) 368) start b).side.port.link ≡ Free
      → IsFlip (at_meeting events (lines_of v start released (sent_latch v byte) 368) start b).side.port.flip
      → ((i : ℕ) → i < 10
      → leaves_clock events (lines_of v start released (sent_latch v byte) 368) start b i ≡ true)
      → Ticked events (lines_of v start released (sent_latch v byte) 368) start rest b true (Some byte) (Sent byte) k
  sent_ticked byte more small long here there flip leaves =
      let h = sent_lines v start released byte rest in
      all_sent events (lines_of v start released (sent_latch v byte) 368) start rest more byte k
      (frame_bit byte) b h.0 here there flip h.1
      (byte_of_bits byte small) leaves h.2 long all

  -- one that receives
  pub got_ticked : (byte more : ℕ) (offer : Option ℕ) → rest ≡ 15 + more → b.side.port.link ≡ Request byte
      → Ticked events (lines_of v start released (received_latch v) 366) start rest b true offer (Got byte) k
  got_ticked byte more offer long here =
      let h = received_lines v start released rest in
      all_got events (lines_of v start released (received_latch v) 366) start rest more byte k offer received_bit b h.0
      here h.1 h.2 long all

  -- one that is cut as the controller pulls the clock before the first edge
  pub cut_ticked : (byte look : ℕ) (is : IsLook look) → look ≤ 46 → b.side.port.link ≡ Free
      → ((at_meeting events (lines_of v start released (cut_latch v byte look) (cut_after look)) start b).side.port.link ≡ Free → ⊥)
      → Ticked events (lines_of v start released (cut_latch v byte look) (cut_after look)) start rest b true (Some byte) Cut k
  cut_ticked byte look is early here there =
      all_cut events (lines_of v start released (cut_latch v byte look) (cut_after look)) start rest byte k b
      (cut_up v start byte released look is) here there
      (λ o a u. cut_lines v start released byte look rest is o (omega (arith, a, early)) u) all

  -- and one that is cut in cell j, as the controller breaks off the byte
  pub broken_ticked : (byte j n look : ℕ) (is : IsLook look) → look ≡ 32 * j + (29 + n) → j < 10 → 17 ≤ n → n ≤ 31
      → b.side.port.link ≡ Free
      → (at_meeting events (lines_of v start released (cut_latch v byte look) (cut_after look)) start b).side.port.link
      ≡ Free
      → ((i : ℕ) → i < j
      → leaves_clock events (lines_of v start released (cut_latch v byte look) (cut_after look)) start b i ≡ true)
      → leaves_cycle events (lines_of v start released (cut_latch v byte look) (cut_after look)) start b (32 * j + suc n)
      ≡ false
      → Ticked events (lines_of v start released (cut_latch v byte look) (cut_after look)) start rest b true (Some byte) Cut k
  broken_ticked byte j n look is at few late short here there leaves pulls =
      all_broken events (lines_of v start released (cut_latch v byte look) (cut_after look))
      (lines_of v start released (sent_latch v byte) 368) start rest byte j n k (frame_bit byte) b
      (cut_up v start byte released look is) here there (sent_lines v start released byte rest).1 few late short
      (λ o a u. cut_is_sent v start byte released look o is (omega (arith, u, at))) leaves pulls
      (λ o a u. cut_lines v start released byte look rest is o (omega (arith, a, at)) u) all

  -- and one without a frame
  pub still_ticked : (tested : Bool) (offer : Option ℕ) (meeting : Meeting) → is_busy b.side.port.link ≡ false
      → meeting_in tested offer (seen_in_bytes b.side)
      (seen_in_bytes (at_meeting events (λ o. latch_of v) start b).side) ≡ meeting
      → IsNone meeting → Ticked events (λ o. latch_of v) start rest b tested offer meeting k
  still_ticked tested offer meeting idle met none =
      all_still events (λ o. latch_of v) start rest k tested offer meeting b (λ o a u. released.clock) idle met none
      (λ o a u. released.clock) all
