-- What a listener has under way in a state of a tick.
use Rattle.std.proofs.Common.{◌≡◌, ◌≤◌, ◌<◌, ◌⊎◌, ℕ, suc, ◌+◌, ◌*◌, Bool, true, false}
use Rattle.ctl_link.specs.Link.{is_busy}
use Rattle.ctl_wire.specs.Wires.{wires}
use Rattle.joint_feed.specs.Stories.{Story}
use Rattle.joint_run.specs.Joint.{Beside, latch_of}
use Rattle.joint_run.specs.Run.{World}
use Rattle.capture_frames.specs.Frames.{edges}
use Rattle.law_wires_heard.proofs.Clock.{cells}
use Rattle.law_wires_heard.proofs.Pulls.{lets, link_of, shown_at}
use Rattle.law_wires_heard.proofs.Ticks.{Goes, IsIn, beside, last_latch, latch}
use Rattle.law_capture_heard.specs.Captured.{hearing_to}
use Rattle.law_capture_heard.specs.Found.{let_go_to}
use Rattle.law_capture_heard.proofs.Eleven.{IsEleven, eleven}
use Rattle.law_capture_heard.proofs.Gathered.{fall_at, first_frame, gathered}
use Rattle.law_wires_heard.proofs.ATick.{IsATick}
use Rattle.law_capture_heard.proofs.Links.{requests}

-- between frames, with the clock high: the listener has a request just if the controller requests to send
pub record RestsHigh (s : Story) (k : ℕ) (w : World Beside) : Type 0 where
  pub clock : (shown_at s w).clk ≡ true
  pub idle : is_busy (link_of w.board) ≡ false
  pub frame : (hearing_to s k).frame ≡ first_frame (requests (link_of w.board)) (let_go_to s k)

-- or while the controller pulls the clock, whatever was under way before
pub record RestsLow (s : Story) (k : ℕ) (w : World Beside) : Type 0 where
  pub clock : (shown_at s w).clk ≡ false
  pub low : lets w.board ≡ false

module _ (s : Story) (t : IsATick s) where
  abbrev pub n : ℕ
  n = cells t.frame

  -- the tick's cycles, latches, states and steps
  abbrev pub B : ℕ → Beside
  B = beside s.events t.cycle t.start t.old t.lit t.was t.is t.frame t.fits t.idle

  abbrev pub L : ℕ → ℕ
  L = latch s.events t.cycle t.start t.old t.lit t.was t.is t.frame t.fits t.idle

  abbrev pub Last : ℕ → ℕ
  Last = last_latch s.events t.cycle t.start t.old t.lit t.was t.is t.frame t.fits t.idle

  abbrev pub In : World Beside → ℕ → Type 0
  In = IsIn s.events t.cycle t.start t.old t.lit t.was t.is t.frame t.fits t.idle

  abbrev pub On : World Beside → World Beside → Type 0
  On = Goes s.events t.cycle t.start t.old t.lit t.was t.is t.frame t.fits t.idle

  -- the data wire at the fall of a cell
  abbrev pub dat : ℕ → Bool
  dat c = (wires (latch_of (L (289 + 32 * c))) (B (290 + 32 * c)).pc).dat

  -- a frame of eleven cells
  pub whole_frame : n ≡ 11 → IsEleven s.events t.cycle t.start t.old t.lit t.was t.is t.idle t.frame t.fits
  whole_frame = eleven s.events t.cycle t.start t.old t.lit t.was t.is t.idle t.frame t.fits t.goes_with

  -- after so many pulses there are no more edges; and in a frame of eleven cells it is known which frame it is
  pub record Gathers (k c : ℕ) : Type 0 where
    pub few : edges (hearing_to s k).frame ≤ c
    pub exact : (e : n ≡ 11)
        → (hearing_to s k).frame ≡ gathered (first_frame (whole_frame e).by_host (let_go_to s k)) t.cycle dat c

  -- at rest in a tick: a frame of eleven cells isn't begun, or is over
  pub record High (k : ℕ) (w : World Beside) (o : ℕ) : Type 0 where
    pub rests : RestsHigh s k w
    pub place : n ≡ 11 → (o ≤ 288) ⊎ (609 ≤ o)

  -- in a cell, while the keyboard holds the clock low
  pub record Down (k : ℕ) (w : World Beside) (o : ℕ) : Type 0 where
    pub cell : ℕ
    pub in_frame : cell < n
    pub from : 290 + 32 * cell ≤ o
    pub to : o ≤ 304 + 32 * cell
    pub clock : (shown_at s w).clk ≡ false
    pub alone : lets w.board ≡ true
    pub latch_low : (latch_of w.cpu.p2).clk ≡ false
    pub fall : (hearing_to s k).clock.fall ≡ fall_at t.cycle cell
    pub data_then : (hearing_to s k).clock.at_fall ≡ dat cell
    pub gathers : Gathers k cell

  -- and after it
  pub record Up (k : ℕ) (w : World Beside) (o : ℕ) : Type 0 where
    pub cell : ℕ
    pub in_frame : cell < n
    pub from : 306 + 32 * cell ≤ o
    pub to : o ≤ 320 + 32 * cell
    pub clock : (shown_at s w).clk ≡ true
    pub alone : lets w.board ≡ true
    pub nine : cell ≤ 9
    pub small : (cell ≤ 8) ⊎ (n ≡ 11)
    pub gathers : Gathers k (suc cell)

  -- one of these
  abbrev pub Phase : ℕ → World Beside → ℕ → Type 0
  Phase k w o = (High k w o ⊎ RestsLow s k w) ⊎ (Down k w o ⊎ Up k w o)
