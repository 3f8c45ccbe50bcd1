-- Before stamp 0 nothing happens, and the bits of a frame are those of its byte.
use Rattle.std.proofs.Common.{◌≡◌, ℕ, suc, zero, ◌+◌, ◌<◌, ◌≤◌, List, ◌++◌, Bool, true, false, not, ◌&&◌, Some, None, refl, ap, ◌∙◌, arith}
use Rattle.std.specs.Prelude.{if◌then◌else◌, nat_le, slice_get, slice_index_or}
use Rattle.std.specs.declared.option.Option.{Option}
use Rattle.std.proofs.lemmas.Bool.Decides.{nat_tests}
use Rattle.ctl_core.specs.Controller.{at_start}
use Rattle.board_terms.specs.declared.event.HostEvent.{HostEvent}
use Rattle.host_turn.specs.Host.{Host, Turn, is_done, turn, waits, event_turn, bios_turn, in_silence, acted}
use Rattle.ctl_link.specs.Link.{settled}
use Rattle.host_turn.specs.Run.{Side, side_at_start, goes_on, with_cycled, desk_of}
use Rattle.host_turn.specs.Cycle.{cycled, ends_cycle, host_of}
use Rattle.board_terms.specs.declared.lines.Lines.{Lines}
use Rattle.board_terms.specs.Frame.{frame_bits, byte_of}
use Rattle.board_terms.proofs.Frames.{read_back}
use Rattle.ctl_wire.specs.declared.wire.Wire.{Wire}
use Rattle.ctl_wire.specs.Wires.{board_cycle, pc_at_start}
use Rattle.ctl_wire.specs.Wire.{is_breakable}
use Rattle.law_wires_agree.specs.Cycles.{board_cycles}
use Rattle.law_wires_agree.proofs.Spans.{board_by, clock_by}
use Rattle.law_wires_agree.proofs.Between.{looks_still}
use Rattle.law_wires_agree.specs.Cells.{bits_to}

too_early : (stamp now : ℕ) → now < 4096 → nat_le (stamp + 4096) now ≡ false
too_early stamp now l = grind (arith, nat_tests)

module _ (F : Type 0) (opens : F → Bool) where
  after : (now : ℕ) → Bool → Turn → Side F
  after now done t = with_cycled now
      (ends_cycle t done (settled now (Rattle.host_turn.specs.Cycle.port_by t (side_at_start F).port))) (side_at_start F)

  rests_by : (now : ℕ) (next : Option HostEvent) → now < 4096
      → with_cycled now (cycled opens now next (desk_of (side_at_start F))) (side_at_start F) ≡ side_at_start F
  unfolding after
  rests_by now None l = refl
  rests_by now (Some event) l =
      let h : Host = host_of (desk_of (side_at_start F)) in
      let early : nat_le (event.stamp + 4096) now ≡ false = too_early event.stamp now l in
      let no : is_done now (Some event) at_start ≡ false = ap (λ c. c && not (waits event.act at_start)) early in
      let silent : event_turn now (Some event) h ≡ in_silence h = ap (λ c. if c then acted event.act h else in_silence h) no in
      let all : turn now 0 (Some event) h
      ≡ in_silence h = ap (λ
      (t : Turn). record { host = (bios_turn now 0 t.host).host; items = t.items ++ (bios_turn now 0 t.host).items }) silent in
      ap (λ c. after now c (turn now 0 (Some event) h)) no ∙ ap (λ t. after now false t) all

  -- before stamp 0 a cycle changes nothing on the PC's side
  pub rests : (events : List HostEvent) (now : ℕ) → now < 4096 → goes_on opens events now (side_at_start F) ≡ side_at_start F
  unfolding goes_on
  rests events now l = rests_by now (slice_get events 0) l

-- with the clock left alone, the board stays at its start up to stamp 0
pub waits_for_stamp_0 : (events : List HostEvent) (latch : ℕ → Lines) (n now : ℕ) → now + n ≤ 4096
    → ((o : ℕ) → now ≤ o → o < now + n → (latch o).clk ≡ true)
    → board_cycles events latch n now pc_at_start ≡ pc_at_start
waits_for_stamp_0 events latch zero now l up = refl
waits_for_stamp_0 events latch (suc n) now l up =
    let high : (latch now).clk ≡ true = up now (omega arith) (omega arith) in
    let side : (board_cycle events now (latch now) pc_at_start).side ≡ side_at_start Wire =
    board_by events now (latch now) pc_at_start (side_at_start Wire)
    (looks_still now (latch now) pc_at_start high refl) ∙ rests Wire is_breakable events now (omega (arith, l)) in
    let clock : (board_cycle events now (latch now) pc_at_start).clock
    ≡ true = clock_by events now (latch now) pc_at_start ∙ ap (λ c. c && true) high in
    let same : board_cycle events now (latch now) pc_at_start
    ≡ pc_at_start = ap (λ s. record { side = s; clock = (board_cycle events now (latch now) pc_at_start).clock })
    side ∙ ap (λ c. record { side = side_at_start Wire; clock = c }) clock in
    ap (λ b. board_cycles events latch n (suc now) b) same
    ∙ waits_for_stamp_0 events latch n (suc now) (omega (arith, l)) (λ o l u. up o (omega (arith, l)) (omega (arith, u)))

-- the bits of a frame, as the controller takes them, are those of its byte
pub byte_of_bits : (byte : ℕ) → byte < 256 → byte_of (bits_to (λ k. slice_index_or (frame_bits byte) k true) 11) ≡ Some byte
byte_of_bits byte l = read_back byte l
