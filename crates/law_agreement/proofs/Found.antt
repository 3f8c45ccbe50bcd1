-- Whatever the pins show, the looks of a tick find a frame and a meeting.
use Rattle.std.proofs.Common.{◌≡◌, ℕ, Bool, true, false, Some, None, ◌⊎◌, inl, inr, refl}
use Rattle.std.specs.declared.option.Option.{Option}
use Rattle.law_fw_keys.specs.Frameless.{shown_by, tests_in, clock_now, data_now, data_again}
use Rattle.law_fw_link.specs.Latch.{Frame, NoFrame, SentFrame, CutFrame, ReceivedFrame, IsLook}
use Rattle.law_fw_link.specs.Reading.{byte_in, right_in}
use Rattle.joint_run.specs.Run.{Board, World}
use Rattle.model_keyboard.specs.Keyboard.{offer}
use Rattle.model_keyboard.specs.declared.meeting.Meeting.{Meeting}
use Rattle.model_keyboard.specs.declared.meeting.Meeting.TheVariants.{Idle, Inhibited, Sent, Cut, Got}
use Rattle.law_agreement.proofs.Frames.{FirstLow, first_low}
use Rattle.law_agreement.specs.Firmware.{Finds, IsOpen, clock_in, data_in}

module _ (d : Board) (w : World d.State) where
  pub record Found : Type 0 where
    pub frame : Frame
    pub meeting : Meeting
    pub finds : Finds d w frame meeting

  -- a byte that is offered is sent, or cut at the first look that finds the clock low
  offered : (byte : ℕ) → IsOpen d w → data_now d w ≡ true → offer (shown_by w.cpu.ram) ≡ Some byte
      → ((look : ℕ) → IsLook look → clock_in d w byte look ≡ true) ⊎ (FirstLow (clock_in d w byte)) → Found
  offered byte clear high is (inl leaves) =
      record { frame = SentFrame byte; meeting = Sent; finds = (refl, (clear, high, is), leaves) }
  offered byte clear high is (inr first) = record {
    frame = CutFrame byte first.look;
    meeting = Cut;
    finds = (refl, (clear, high, is), first.is, first.before, first.low);
  }

  by_offer : (o : Option ℕ) → offer (shown_by w.cpu.ram) ≡ o → IsOpen d w → data_now d w ≡ true → Found
  by_offer None is clear high =
      record { frame = NoFrame; meeting = Idle; finds = inr (inl (clear.0, clear.1, high, is)) }
  by_offer (Some byte) is clear high = offered byte clear high is (first_low (clock_in d w byte))

  by_again : (b : Bool) → data_again d w ≡ b → IsOpen d w → data_now d w ≡ false → Found
  by_again true again clear low =
      record { frame = NoFrame; meeting = Idle; finds = inr (inr (clear.0, clear.1, low, again)) }
  by_again false again clear low = record {
    frame = ReceivedFrame;
    meeting = Got (byte_in (data_in d w)) (right_in (data_in d w));
    finds = (refl, clear, low, again);
  }

  by_data : (b : Bool) → data_now d w ≡ b → IsOpen d w → Found
  by_data true high clear = by_offer (offer (shown_by w.cpu.ram)) refl clear high
  by_data false low clear = by_again (data_again d w) refl clear low

  by_clock : (b : Bool) → clock_now d w ≡ b → tests_in d w ≡ true → Found
  by_clock true high ended = by_data (data_now d w) refl (ended, high)
  by_clock false low ended = record { frame = NoFrame; meeting = Inhibited; finds = (ended, low) }

  by_test : (b : Bool) → tests_in d w ≡ b → Found
  by_test true ended = by_clock (clock_now d w) refl ended
  by_test false runs = record { frame = NoFrame; meeting = Idle; finds = inl runs }

  -- the looks of each tick find a frame and a meeting
  pub found : Found
  found = by_test (tests_in d w) refl
