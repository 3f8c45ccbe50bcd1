-- Spans of cycles in which nothing comes over the link: while a byte is under way, and while the controller pulls.
use Rattle.std.proofs.Common.{◌≡◌, ℕ, List, Bool, true, false, not, ◌&&◌, refl, ap, sym, ◌∙◌, ◌⊎◌, inl, inr, arith}
use Rattle.std.specs.Prelude.{if◌then◌else◌}
use Rattle.ctl_link.specs.declared.link.Link.{Link}
use Rattle.ctl_link.specs.declared.link.Link.TheVariants.{Busy}
use Rattle.board_terms.specs.declared.event.HostEvent.{HostEvent}
use Rattle.host_turn.specs.Run.{Side, goes_on}
use Rattle.board_terms.specs.declared.lines.Lines.{Lines}
use Rattle.ctl_wire.specs.declared.wire.Wire.{Wire}
use Rattle.ctl_wire.specs.declared.wire.Wire.TheVariants.{Recv, Send}
use Rattle.ctl_wire.specs.Wire.{edge_at, drive, is_breakable}
use Rattle.ctl_wire.specs.Wires.{Pc, board_cycle, looked, wires}
use Rattle.model_controller.specs.declared.UnderWay.{UnderWay}
use Rattle.model_controller.specs.ByteTime.{byte_cycle, Quiet, is_open}
use Rattle.law_wires_agree.specs.Without.{seen_in_bytes}
use Rattle.law_wires_agree.proofs.Same.{in_bytes_same}
use Rattle.law_wires_agree.proofs.Breaks.{busy_or_breaks, Pulls}
use Rattle.ctl_link.specs.Pulls.{pulled}

-- a look at which the clock doesn't fall
no_fall : (now : ℕ) (line : Lines) (b : Pc) → (b.clock && not line.clk) ≡ false → (looked now line b).side ≡ b.side
no_fall now line b h = ap (λ c. record b.side { port = if c then edge_at now line.dat b.side.port.link b.side.port else b.side.port }) h

-- the board's cycle, where it is known what the look comes to
pub board_by : (events : List HostEvent) (now : ℕ) (latch : Lines) (b : Pc) (s : Side Wire) → (looked now (wires latch b) b).side ≡ s
    → (board_cycle events now latch b).side ≡ goes_on is_breakable events now s
unfolding board_cycle
board_by events now latch b s e = ap (λ t. goes_on is_breakable events now t) e

-- the clock at the controller's look is high exactly if both the keyboard and the controller let it go
pub clock_by : (events : List HostEvent) (now : ℕ) (latch : Lines) (b : Pc)
    → (board_cycle events now latch b).clock ≡ (latch.clk && (drive b.side.port.link).clk)
unfolding board_cycle
clock_by events now latch b = refl

-- a cycle in byte time in which nothing comes over the link is one of the host and the controller alone
pub quiet_by : (events : List HostEvent) (now : ℕ) (m : Side UnderWay) → byte_cycle events now Quiet m ≡ goes_on is_open events now m
unfolding byte_cycle
quiet_by events now m = refl

-- where the look changes nothing, the cycle is one of byte time in which nothing comes over the link
pub still_cycle : (events : List HostEvent) (now : ℕ) (latch : Lines) (b : Pc) → (looked now (wires latch b) b).side ≡ b.side
    → seen_in_bytes (board_cycle events now latch b).side ≡ byte_cycle events now Quiet (seen_in_bytes b.side)
still_cycle events now latch b e =
    ap (λ s. seen_in_bytes s) (board_by events now latch b b.side e) ∙ sym (in_bytes_same events now b.side)
    ∙ sym (quiet_by events now (seen_in_bytes b.side))

-- an and with true changes nothing
pub and-true : (a : Bool) → (a && true) ≡ a
and-true true = refl
and-true false = refl

-- while a byte is under way, neither side's controller pulls the clock
busy_clock : (w : Wire) → (drive (Busy w)).clk ≡ true
busy_clock (Recv flip bits) = refl
busy_clock (Send byte edges) = refl

line_clock : (latch : Lines) (b : Pc) (w : Wire) → b.side.port.link ≡ Busy w → (wires latch b).clk ≡ latch.clk
line_clock latch b w e = ap (λ l. latch.clk && (drive l).clk) e ∙ ap (λ c. latch.clk && c) (busy_clock w) ∙ and-true latch.clk

-- a byte is under way, and the controller's last look saw the clock at a level
pub record IsAt (b : Pc) (link : Link Wire) (clock : Bool) : Type 0 where
  pub link_is : b.side.port.link ≡ link
  pub clock_is : b.clock ≡ clock

-- a byte is still under way, with the clock last seen at this level; or it was broken off, and the controller pulls
abbrev pub On : Pc → Wire → Bool → ℕ → Type 0
On b w c begin = IsAt b (Busy w) c ⊎ ((is_breakable w ≡ true) × Pulls begin b.side.port.link)

-- in a cycle without a fall a byte under way stays so, or is broken off, and byte time goes on alike
pub busy_cycle : (events : List HostEvent) (now : ℕ) (latch : Lines) (b : Pc) (w : Wire) (c : Bool)
    → IsAt b (Busy w) c → (c && not latch.clk) ≡ false
    → (seen_in_bytes (board_cycle events now latch b).side ≡ byte_cycle events now Quiet (seen_in_bytes b.side))
    × On (board_cycle events now latch b) w latch.clk now
busy_cycle events now latch b w c at h =
    let line : (wires latch b).clk ≡ latch.clk = line_clock latch b w at.link_is in
    let same : (looked now (wires latch b) b).side
    ≡ b.side = no_fall now (wires latch b) b (ap (λ k. k && not (wires latch b).clk) at.clock_is ∙ ap (λ k. c && not k) line ∙ h) in
    let is : (board_cycle events now latch b).side ≡ goes_on is_breakable events now b.side = board_by events now latch b b.side same in (
      still_cycle events now latch b same,
      elim (busy_or_breaks is_breakable events now b.side w at.link_is) [
        | inl stays ↦ inl (record { link_is = ap (λ s. s.port.link) is ∙ stays; clock_is = clock_by events now latch b ∙ line })
        | inr broken ↦ inr (broken.0, record { since = now; from = omega arith; is = ap (λ s. pulled s.port.link) is ∙ broken.1 })
      ],
    )
