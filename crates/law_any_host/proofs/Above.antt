-- A board that watches the latch of port 2 shows what the board beneath it shows: the same edges, and the same at each look.
use Rattle.std.proofs.Common.{◌≡◌, ℕ, suc, zero, ◌+◌, ◌-◌, ◌*◌, List, refl, ap, sym, ◌∙◌, inl, inr, slice_index, bit_xor}
use Rattle.law_fw_keys.proofs.Begun.{columns_same}
use Rattle.law_fw_keys.specs.State.{debounces}
use Rattle.law_fw_keys.specs.Frameless.{IsFrameless, changed_by, changed_now, clock_now, data_again, data_now, edges_now, latch_now}
use Rattle.law_fw_link.proofs.Latches.{driven}
use Rattle.law_fw_link.proofs.Watching.{watched, watching}
use Rattle.law_fw_link.specs.Latch.{Frame, NoFrame, SentFrame, CutFrame, ReceivedFrame}
use Rattle.law_fw_link.specs.Reading.{byte_in, right_in}
use Rattle.law_fw_logic.specs.Scan.{in_tick}
use Rattle.law_fw_logic.specs.Ticks.{column_read}
use Rattle.joint_run.specs.Run.{Board, World, after_cycles}
use Rattle.model_keyboard.specs.declared.meeting.Meeting.{Meeting}
use Rattle.model_keyboard.specs.declared.meeting.Meeting.TheVariants.{Got, Idle, Inhibited, Sent, Cut}
use Rattle.law_agreement.proofs.AtLook.{one_byte}
use Rattle.law_agreement.specs.Firmware.{Finds, IsOpen, Offers, board_at, clock_in, data_in, latch_at}
use Rattle.fw_kernel.specs.declared.cells.TheConstants.{HELD, PENDING}

module _ (d : Board) (latch : ℕ → ℕ) where
  abbrev W : Board
  W = watching d latch

  ticks_under : (n y v : ℕ) (s : W.State) → (after_cycles n y (W.cycle v) s).under ≡ after_cycles n y (d.cycle v) s.under
  ticks_under zero y v s = refl
  ticks_under (suc n) y v s = ticks_under n (y + 1) v (W.cycle v y s)

  driven_under : (x : ℕ) (l : ℕ → ℕ) (n from : ℕ) (s : W.State) → (driven W x l n from s).under ≡ driven d x l n from s.under
  driven_under x l zero from s = refl
  driven_under x l (suc n) from s = driven_under x l n (from + 1) (W.cycle (l from) (x + from) s)

  module _ (w : World d.State) where
    abbrev u : World W.State
    u = watched w

    down_same : (c : ℕ) → column_read W u c ≡ column_read d w c
    down_same c =
        ap (λ s. 255 - (d.pins (32 + c) w.cpu.p2 (w.cycle + (16 + 16 * c)) s).bus)
        (ticks_under (16 + 16 * c) w.cycle w.cpu.p2 u.board)

    -- a tick takes the same edges with the watch as without
    pub edges_same : (bytes : List ℕ) → edges_now bytes W u ≡ edges_now bytes d w
    edges_same bytes =
        columns_same (changed_now bytes W u) (changed_now bytes d w) (column_read W u) (column_read d w) 0 12 refl
        (λ c l. ap (λ v. changed_by (debounces bytes) (slice_index w.cpu.ram (PENDING + c))
        (bit_xor (slice_index w.cpu.ram (HELD + c)) v))
        (down_same c)) (λ c l. down_same c)

    abbrev v : ℕ
    v = latch_now d w

    -- the levels so many cycles past the lights
    lit_same : (n : ℕ) → (after_cycles n (w.cycle + 232) (W.cycle v) (in_tick W u 232)).under
        ≡ after_cycles n (w.cycle + 232) (d.cycle v) (in_tick d w 232)
    lit_same n =
        ticks_under n (w.cycle + 232) v (in_tick W u 232)
        ∙ ap (λ s. after_cycles n (w.cycle + 232) (d.cycle v) s) (ticks_under 232 w.cycle w.cpu.p2 u.board)

    clock_same : clock_now W u ≡ clock_now d w
    clock_same = ap (λ s. (d.pins 44 v (w.cycle + 232 + 24) s).t0) (lit_same 24)

    data_same : data_now W u ≡ data_now d w
    data_same = ap (λ s. (d.pins 44 v (w.cycle + 232 + 26) s).t1) (lit_same 26)

    again_same : data_again W u ≡ data_again d w
    again_same = ap (λ s. (d.pins 44 v (w.cycle + 232 + 54) s).t1) (lit_same 54)

    board_same : (frame : Frame) (n : ℕ) → (board_at W u frame n).under ≡ board_at d w frame n
    board_same frame n = driven_under w.cycle (latch_at d w frame) n 0 u.board

    look_same : (byte look : ℕ) → clock_in W u byte look ≡ clock_in d w byte look
    look_same byte look =
        ap (λ s. (d.pins 44 (latch_at d w (SentFrame byte) (260 + look)) (w.cycle + (260 + look)) s).t0)
        (board_same (SentFrame byte) (260 + look))

    bit_same : (k : ℕ) → data_in W u k ≡ data_in d w k
    bit_same k =
        ap (λ s. (d.pins 44 (latch_at d w ReceivedFrame (306 + 32 * k)) (w.cycle + (306 + 32 * k)) s).t1)
        (board_same ReceivedFrame (306 + 32 * k))

    open_same : IsOpen d w → IsOpen W u
    open_same h = (h.0, clock_same ∙ h.1)

    offers_same : (byte : ℕ) → Offers d w byte → Offers W u byte
    offers_same byte h = (open_same h.0, data_same ∙ h.1, h.2)

    still_same : (meeting : Meeting) → IsFrameless d w meeting → IsFrameless W u meeting
    still_same Idle (inl h) = inl h
    still_same Idle (inr (inl h)) = inr (inl (h.0, clock_same ∙ h.1, data_same ∙ h.2, h.3))
    still_same Idle (inr (inr h)) = inr (inr (h.0, clock_same ∙ h.1, data_same ∙ h.2, again_same ∙ h.3))
    still_same Inhibited h = (h.0, clock_same ∙ h.1)
    still_same Sent h = h
    still_same Cut h = h
    still_same (Got byte good) h = h

    -- the looks find the same there
    pub finds_same : (frame : Frame) (meeting : Meeting) → Finds d w frame meeting → Finds W u frame meeting
    finds_same NoFrame meeting h = still_same meeting h
    finds_same (SentFrame byte) meeting h =
        (h.0, offers_same byte h.1, λ look is. look_same byte look ∙ h.2 look is)
    finds_same (CutFrame byte cut) meeting h = (
      h.0,
      offers_same byte h.1,
      h.2,
      λ earlier is l. look_same byte earlier ∙ h.3 earlier is l,
      look_same byte cut ∙ h.4,
    )
    finds_same ReceivedFrame meeting h =
        let same = one_byte (data_in W u) (data_in d w) (λ k l. bit_same k) in (
          h.0 ∙ ap (λ b. Got b (right_in (data_in d w))) (sym same.0) ∙ ap (λ g. Got (byte_in (data_in W u)) g) (sym same.1),
          open_same h.1,
          data_same ∙ h.2,
          again_same ∙ h.3,
        )
