-- The bytes that are found in a trace are those that pass in the run.
use Rattle.std.proofs.Common.{◌≡◌, ◌≤◌, ◌<◌, ◌⊎◌, inl, inr, ℕ, ◌+◌, ◌-◌, ◌*◌, Some, ap, ◌∙◌, arith}
use Rattle.fw_compile.specs.Image.{image_of}
use Rattle.joint_feed.specs.Stories.{Story, state_at, story}
use Rattle.joint_run.specs.Joint.{Beside}
use Rattle.joint_run.specs.Run.{World}
use Rattle.law_wires_heard.proofs.Run.{every_run_is_heard}
use Rattle.law_wires_heard.specs.Hearing.{HearsAll}
use Rattle.law_capture_heard.specs.Captured.{hearing_to}
use Rattle.law_capture_heard.specs.Found.{FoundLaw, bytes_in}
use Rattle.law_capture_heard.proofs.Falls.{IsLong, IsRightFall, found_so, found_with_end}
use Rattle.law_wires_heard.proofs.ATick.{IsInTick}
use Rattle.law_capture_heard.proofs.InTicks.{in_tick, over_ticks, some_state}
use Rattle.law_capture_heard.proofs.LowSince.{low_since}
use Rattle.law_capture_heard.proofs.TickFound.{Rests, at_power_on, over_tick}
use Rattle.law_capture_heard.proofs.Timed.{every_trace}
use Rattle.law_capture_heard.proofs.Widths.{wide}

-- a pulse is longer than a glitch
long_by : (fall rise time : ℕ) → time ≡ 2500 * fall → (rise ≡ fall + 16) ⊎ (fall + 62 ≤ rise) → 5000 < 2500 * rise - time
long_by fall rise time at (inl short) = omega (arith, at, short)
long_by fall rise time at (inr long) = omega (arith, at, long)

is_long : (s : Story) (hears : HearsAll s) → ((j : ℕ) → (w : World Beside) × (state_at s j ≡ Some w)) → ((j : ℕ) → IsInTick s j)
    → (k : ℕ) → IsLong s hears k
is_long s hears there ticks k w at low high =
    let h = low_since s there k low in
    long_by h.next.cycle w.cycle (hearing_to s k).clock.fall h.time (wide s ticks k w at high h)

-- the law holds of each layout and each lawful history
pub every_byte : FoundLaw
every_byte seen layout history fine ok k most =
    let s : Story = story (image_of layout) history in
    let hears : HearsAll s = every_run_is_heard layout history fine ok in
    let there = some_state layout history fine ok in
    let ticks = in_tick layout history fine ok in
    let falls : (j : ℕ) → IsRightFall s hears j =
    over_ticks layout history fine ok (Rests s there ticks) (IsRightFall s hears) (at_power_on s there ticks hears)
    (over_tick s there ticks hears) in
    ap bytes_in (every_trace seen s k most).findings
    ∙ found_with_end s hears k
    ∙ found_so s hears k there falls (is_long s hears there ticks)
