-- At the tick starts of an opened keyboard's run the PC's side is the model's: up to start 64 the output buffer is empty, and
-- at start 65 AA is in it.
use Rattle.std.proofs.Common.{◌≡◌, ℕ, Bool, true, false, List, [], ◌∷◌, ◌++◌, refl, ap, sym, ◌∙◌}
use Rattle.std.specs.Prelude.{if◌then◌else◌}
use Rattle.std.proofs.lemmas.List.Elements.{All-cons, All-nil}
use Rattle.law_agreement.proofs.Holding.{HasPlaces, holds_now, none_held}
use Rattle.law_agreement.proofs.ModelAtEachStart.{at_starts}
use Rattle.law_agreement.proofs.Tied.{TiedInTime, fits_in_time, next_in_time, tied_first}
use Rattle.law_agreement.specs.AnyStart.{AreFor}
use Rattle.law_agreement.specs.Memory.{Holds}
use Rattle.board_terms.specs.declared.event.HostEvent.{HostEvent}
use Rattle.model_controller.specs.declared.UnderWay.{UnderWay}
use Rattle.ctl_core.specs.Controller.{ControllerState}
use Rattle.ctl_core.specs.ScanCodes.{scan_codes, translated}
use Rattle.fw_compile.specs.Image.{image_of}
use Rattle.host_turn.specs.Run.{Side}
use Rattle.joint_run.specs.Filled.{filled}
use Rattle.joint_run.specs.Joint.{Beside, joint_start_of, log_of}
use Rattle.joint_run.specs.Run.{World}
use Rattle.key_file.specs.Accepted.{IsLawfulFor}
use Rattle.layout_reader.specs.Layouts.{IsKeyLayout, KeyLayout}
use Rattle.model_link.specs.Expected.{Whole}
use Rattle.model_link.specs.Machine.{LayeredKeyboard, keyboard}
use Rattle.law_link_times.specs.Reads.{EachIsReadOnce, LeavesAllBytes, LeavesBytes, put_out_for, read_so_far, unread}
use Rattle.mcs48_ranges.specs.Sizes.{IsFine}
use Rattle.law_quiet_log.specs.Once.{all_arrived, at_tick}
use Rattle.law_wires_agree.specs.Without.{seen_in_bytes}
use Rattle.law_ready_agrees.proofs.Tested.{nothing_before, then_aa}
use Rattle.law_ready_agrees.specs.Opened.{StartsAt, bytes_read, masked_history}

-- the PC's side is the model's, and so is the keyboard that memory shows
pub record IsThere (w : World Beside) (m : Whole LayeredKeyboard) : Type 0 where
  pub side : seen_in_bytes w.board.pc.side ≡ m.side
  pub holds : Holds w m.keys

-- the run's tick starts, with the model there
pub record AtStarts (layout : KeyLayout) (stamp : ℕ) : Type 0 where
  pub starts : ℕ → ℕ
  pub each : (n : ℕ) → StartsAt layout stamp n (starts n)
  pub there : (n start : ℕ) (s : StartsAt layout stamp n start)
      → IsThere s.state (at_tick layout (masked_history stamp) starts n)

-- at each tick start of an opened keyboard's run the PC's side and the keyboard are the model's
pub model_at_starts : (layout : KeyLayout) (stamp : ℕ) → IsKeyLayout layout → IsLawfulFor layout (masked_history stamp)
    → IsFine (filled 0) → AtStarts layout stamp
model_at_starts layout stamp fine ok small =
    let few : AreFor layout [] (masked_history stamp).host =
    record { places = ok.places; written = ok.lawful.written; flips = ok.lawful.flips } in
    let a =
    at_starts LayeredKeyboard (joint_start_of (filled 0)) (image_of layout) (masked_history stamp) ok.lawful (keyboard layout)
    (TiedInTime layout (masked_history stamp) fine few) (λ k. HasPlaces k) (fits_in_time layout (masked_history stamp) fine few)
    (λ p l. none_held layout p) (holds_now layout) (tied_first layout (masked_history stamp) fine few (filled 0) small)
    (next_in_time layout (masked_history stamp) fine few) (λ w m t. ap (λ (s : _). s.log) t.tied.ties.side)
    (λ w m t. (t.started.entered.serves, t.started.entered.bank))
    (λ w m t. (t.started.entered.early, t.started.entered.late))
    (λ w m. IsThere w m)
    (λ n w m time t few. record { side = t.tied.ties.side; holds = (t.tied.ties.keyboard, t.tied.ties.layers) }) in
    record { starts = a.0; each = a.1; there = a.2 }

-- two lists of which one is all, or one is empty
none_left : (xs ys : List ℕ) → xs ++ ys ≡ [] → (xs ≡ []) × (ys ≡ [])
none_left [] ys h = (refl, h)
none_left (x ∷ xs) ys h = absurd cc

-- what is unread
pub empty_by : (full : Bool) (output : ℕ) → (if full then output ∷ [] else []) ≡ [] → full ≡ false
empty_by true output h = absurd cc
empty_by false output h = refl

-- if what is unread is one byte, the output buffer is full and has it
pub full_by : (full : Bool) (output byte : ℕ) → (if full then output ∷ [] else []) ≡ byte ∷ [] → (full ≡ true) × (output ≡ byte)
full_by true output byte h = (refl, cc h)
full_by false output byte h = absurd cc

-- AA is no key's code, and is put out as it is
aa_out : put_out_for false (0xaa ∷ []) ≡ 0xaa ∷ []
unfolding scan_codes translated
aa_out = refl

module _ (law : EachIsReadOnce) (layout : KeyLayout) (stamp : ℕ) (a : AtStarts layout stamp) where
  leaves : LeavesAllBytes (masked_history stamp)
  leaves = All-cons (λ (e : HostEvent). LeavesBytes e.act) _ [] tt (All-nil (λ (e : HostEvent). LeavesBytes e.act))

  abbrev core_at : ℕ → ControllerState
  core_at n = (a.each n).state.board.pc.side.port.core

  put_at : (n : ℕ) (bytes : List ℕ) → all_arrived layout (masked_history stamp) a.starts 0 n ≡ bytes
      → bytes_read (log_of (a.each n).state.board) ++ unread (core_at n) ≡ put_out_for false bytes
  put_at n bytes is =
      ap (λ (s : Side UnderWay). read_so_far s ++ unread s.port.core) (a.there n (a.starts n) (a.each n)).side
      ∙ law layout (masked_history stamp) a.starts n leaves ∙ ap (put_out_for false) is

  -- at start 64 nothing was put out
  pub none_put : (bytes_read (log_of (a.each 64).state.board) ≡ []) × ((core_at 64).output_full ≡ false)
  none_put =
      let none =
      none_left (bytes_read (log_of (a.each 64).state.board)) (unread (core_at 64)) (put_at 64 [] (nothing_before layout stamp a.starts)) in
      (none.0, empty_by (core_at 64).output_full (core_at 64).output none.1)

  -- and at start 65 AA was
  pub aa_put : bytes_read (log_of (a.each 65).state.board) ≡ [] → ((core_at 65).output_full ≡ true) × ((core_at 65).output ≡ 0xaa)
  aa_put none =
      full_by (core_at 65).output_full (core_at 65).output 0xaa
      (ap (λ v. v ++ unread (core_at 65)) (sym none) ∙ put_at 65 (0xaa ∷ []) (then_aa layout stamp a.starts) ∙ aa_out)
