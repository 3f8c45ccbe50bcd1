-- What a listener keeps after one step more, by the levels of the clock before it and after it.
use Rattle.std.proofs.Common.{◌≡◌, ℕ, suc, ◌+◌, ◌*◌, Bool, true, false, not, ◌&&◌, [], Some, None, refl, ap, sym, subst, ◌∙◌, arith}
use Rattle.std.proofs.lemmas.Bool.Decides.{nat_tests}
use Rattle.std.specs.Prelude.{◌≤◌, ◌-◌, ◌==◌, length, if◌then◌else◌}
use Rattle.capture_lines.specs.Captures.{listed}
use Rattle.joint_feed.specs.Stories.{Story, state_at}
use Rattle.joint_run.specs.Joint.{Beside}
use Rattle.joint_run.specs.Run.{World}
use Rattle.capture_frames.specs.Frames.{Frame, edges, ended_low, is_begun, is_late, is_request, lacks_one}
use Rattle.capture_frames.specs.Listening.{Hearing, heard_by}
use Rattle.law_wires_heard.proofs.Pulls.{lets, shown_at}
use Rattle.law_capture_heard.specs.Captured.{hearing_in, hearing_to}
use Rattle.law_capture_heard.specs.Found.{bytes_in, let_go_by, let_go_to}
use Rattle.law_capture_heard.proofs.LowSince.{level_is}
use Rattle.law_capture_heard.proofs.Pulsed.{left_by}
use Rattle.law_capture_heard.proofs.WhileHigh.{high_edges, high_keeps}

module _ (s : Story) (k : ℕ) (one next : World Beside) (from : state_at s k ≡ Some one) (to : state_at s (suc k) ≡ Some next) where
  abbrev h : Hearing
  h = hearing_to s k

  abbrev time : ℕ
  time = 2500 * next.cycle

  abbrev left_if : Bool → Bool → Frame
  left_if rises now =
      (heard_by (if rises
      then Some (record { fall = h.clock.fall; at_fall = h.clock.at_fall; rise = time; at_rise = (shown_at s next).dat })
      else None) (record { clk = now; dat = (shown_at s next).dat }) h.frame).left

  by_levels : (before now : Bool) → (shown_at s one).clk ≡ before → (shown_at s next).clk ≡ now
      → (hearing_to s (suc k)).frame ≡ left_if (not before && now) now
  by_levels before now b n =
      ap (λ o. (hearing_in o h).frame) to
      ∙ ap (λ c. left_if (not c && (shown_at s next).clk) (shown_at s next).clk) (level_is s k one from ∙ b)
      ∙ ap (λ c. left_if (not before && c) c) n

  -- while the clock is high
  module _ (b : (shown_at s one).clk ≡ true) (n : (shown_at s next).clk ≡ true) where
    -- the frame is as before, unless a request is given up
    pub still_high : ((shown_at s next).dat && is_request h.frame) ≡ false → (hearing_to s (suc k)).frame ≡ h.frame
    still_high waits = by_levels true true b n ∙ high_keeps (shown_at s next).dat h.frame waits

    -- even then there are no more edges
    pub high_few : edges (hearing_to s (suc k)).frame ≤ edges h.frame
    high_few = subst (λ f. edges f ≤ edges h.frame) (sym (by_levels true true b n)) (high_edges (shown_at s next).dat h.frame)

  -- if it is low then, the frame is as before
  pub now_low : (shown_at s one).clk ≡ true → (shown_at s next).clk ≡ false → (hearing_to s (suc k)).frame ≡ h.frame
  now_low b n = by_levels true false b n

  -- while the clock is low, the frame is as before
  pub still_low : (shown_at s one).clk ≡ false → (shown_at s next).clk ≡ false → (hearing_to s (suc k)).frame ≡ h.frame
  still_low b n = by_levels false false b n

  -- if it rises, the frame is what the pulse leaves
  pub risen : (shown_at s one).clk ≡ false → (shown_at s next).clk ≡ true
      → (hearing_to s (suc k)).frame ≡ left_by h.clock.fall h.clock.at_fall time (shown_at s next).dat h.frame
  risen b n = by_levels false true b n

  -- when it fell
  fall_if : (before now : Bool) → (shown_at s one).clk ≡ before → (shown_at s next).clk ≡ now
      → (hearing_to s (suc k)).clock.fall ≡ (if before && not now then time else h.clock.fall)
  fall_if before now b n =
      ap (λ o. (hearing_in o h).clock.fall) to
      ∙ ap (λ c. if c && not (shown_at s next).clk then time else h.clock.fall) (level_is s k one from ∙ b)
      ∙ ap (λ c. if before && not c then time else h.clock.fall) n

  data_if : (before now : Bool) → (shown_at s one).clk ≡ before → (shown_at s next).clk ≡ now
      → (hearing_to s (suc k)).clock.at_fall ≡ (if before && not now then (shown_at s next).dat else h.clock.at_fall)
  data_if before now b n =
      ap (λ o. (hearing_in o h).clock.at_fall) to
      ∙ ap (λ c. if c && not (shown_at s next).clk then (shown_at s next).dat else h.clock.at_fall) (level_is s k one from ∙ b)
      ∙ ap (λ c. if before && not c then (shown_at s next).dat else h.clock.at_fall) n

  -- a fall is kept with its time
  pub fallen : (shown_at s one).clk ≡ true → (shown_at s next).clk ≡ false → (hearing_to s (suc k)).clock.fall ≡ time
  fallen b n = fall_if true false b n

  -- and with the level of data then
  pub data_fallen : (shown_at s one).clk ≡ true → (shown_at s next).clk ≡ false
      → (hearing_to s (suc k)).clock.at_fall ≡ (shown_at s next).dat
  data_fallen b n = data_if true false b n

  -- both stay while the clock is low: the time
  pub fell_before : (shown_at s one).clk ≡ false → (hearing_to s (suc k)).clock.fall ≡ h.clock.fall
  fell_before b = fall_if false (shown_at s next).clk b refl

  -- and the level of data
  pub data_before : (shown_at s one).clk ≡ false → (hearing_to s (suc k)).clock.at_fall ≡ h.clock.at_fall
  data_before b = data_if false (shown_at s next).clk b refl

  -- when the controller let the clock go
  let_go_if : (a b : Bool) → lets one.board ≡ a → lets next.board ≡ b
      → let_go_to s (suc k) ≡ (if not a && not (not b) then next.cycle else let_go_to s k)
  let_go_if a b e d =
      ap (λ o. let_go_by o (state_at s (suc k)) (let_go_to s k)) from
      ∙ ap (λ o. let_go_by (Some one) o (let_go_to s k)) to
      ∙ ap (λ c. if not c && not (not (lets next.board)) then next.cycle else let_go_to s k) e
      ∙ ap (λ c. if not a && not (not c) then next.cycle else let_go_to s k) d

  -- it stays, unless it pulled the clock before, and doesn't now
  pub let_go_before : lets one.board ≡ true → let_go_to s (suc k) ≡ let_go_to s k
  let_go_before e = let_go_if true (lets next.board) e refl

  -- the controller lets the clock go in the step in which it stops pulling it
  pub let_go_now : lets one.board ≡ false → lets next.board ≡ true → let_go_to s (suc k) ≡ next.cycle
  let_go_now e d = let_go_if false true e d

-- a capture that ends with fewer edges than ten, and the clock low, ends with no byte
pub too_few_edges : (fall : ℕ) (dat : Bool) (f : Frame) → edges f ≤ 9 → bytes_in (listed (ended_low fall dat f)) ≡ []
too_few_edges fall dat f few = by (is_begun f) refl (is_late fall f) refl
  where
    lacks : lacks_one f ≡ false
    lacks = by_sender f.from_host few
      where
        by_sender : (b : Bool) → (if b then length f.bits - 1 else length f.bits) ≤ 9
            → (length f.bits + 1 == (if b then 12 else 11)) ≡ false
        by_sender true l = grind (arith, nat_tests, l)
        by_sender false l = grind (arith, nat_tests, l)

    by : (a : Bool) → is_begun f ≡ a → (b : Bool) → is_late fall f ≡ b → bytes_in (listed (ended_low fall dat f)) ≡ []
    by false e b d = rw e refl
    by true e true d = rw (d, e) refl
    by true e false d = rw (d, lacks, e) refl
