-- The controller's link over a step in which the keyboard leaves the clock alone: no byte begins, and a request stays.
use Rattle.std.proofs.Common.{◌≡◌, ◌≤◌, ◌⊎◌, inl, inr, ℕ, zero, suc, ◌+◌, List, Bool, true, false, not, refl, ap, sym, ◌∙◌, arith}
use Rattle.board_terms.specs.declared.event.HostEvent.{HostEvent}
use Rattle.ctl_link.specs.Link.{is_busy}
use Rattle.ctl_link.specs.declared.link.Link.{Link}
use Rattle.ctl_link.specs.declared.link.Link.TheVariants.{Free, Hold, Ask, Request, Busy}
use Rattle.ctl_wire.proofs.Pulls.{pulled_is_low}
use Rattle.ctl_wire.specs.Wire.{drive}
use Rattle.ctl_wire.specs.declared.wire.Wire.{Wire}
use Rattle.ctl_wire.specs.declared.wire.Wire.TheVariants.{Recv, Send}
use Rattle.ctl_wire.specs.Wires.{Pc}
use Rattle.host_turn.specs.Run.{says_lights}
use Rattle.joint_run.specs.Joint.{Beside, joint_cycle, latch_of, lights_of}
use Rattle.joint_run.specs.Run.{World}
use Rattle.law_wires_agree.proofs.Between.{one_free}
use Rattle.law_wires_agree.proofs.Meetings.{free_or_pulls, requests as request_stays}
use Rattle.law_wires_heard.proofs.Pulls.{Pulled, keeps, lets, link_of, run_on}
use Rattle.law_wires_heard.proofs.Steps.{StepOf}

-- whether the controller requests to send
abbrev pub requests : Link Wire → Bool
requests Free = false
requests (Hold since) = false
requests (Ask byte since) = false
requests (Request byte) = true
requests (Busy wire) = false

-- a link that pulls the clock isn't busy
pub low_is_idle : (l : Link Wire) → (drive l).clk ≡ false → is_busy l ≡ false
low_is_idle Free e = absurd cc
low_is_idle (Hold since) e = refl
low_is_idle (Ask byte since) e = refl
low_is_idle (Request byte) e = absurd cc
low_is_idle (Busy (Recv flip bits)) e = absurd cc
low_is_idle (Busy (Send byte edges)) e = absurd cc

-- and one that isn't busy pulls data just if it requests to send
pub data_is : (l : Link Wire) → is_busy l ≡ false → (b : Bool) → requests l ≡ b → (drive l).dat ≡ not b
data_is Free h true r = absurd cc
data_is Free h false r = refl
data_is (Hold since) h true r = absurd cc
data_is (Hold since) h false r = refl
data_is (Ask byte since) h true r = absurd cc
data_is (Ask byte since) h false r = refl
data_is (Request byte) h true r = refl
data_is (Request byte) h false r = absurd cc
data_is (Busy wire) h b r = absurd cc

-- cycles in each of which the latch is this, which leaves the clock alone
module _ (events : List HostEvent) (p2 : ℕ) (up : (latch_of p2).clk ≡ true) where
  abbrev on : ℕ → ℕ → Beside → Beside
  on n y s = run_on events (λ c. p2) n y s

  abbrev lit : ℕ → Beside → Pc
  lit now s = record s.pc { side = says_lights now s.shown (lights_of p2) s.pc.side }

  cycle_idle : (now : ℕ) (s : Beside) → is_busy (link_of s) ≡ false → is_busy (link_of (joint_cycle events p2 now s)) ≡ false
  unfolding joint_cycle
  cycle_idle now s h = one_free events now (latch_of p2) (lit now s) up h

  cycle_asks : (now byte : ℕ) (s : Beside) → link_of s ≡ Request byte → link_of (joint_cycle events p2 now s) ≡ Request byte
  unfolding joint_cycle
  cycle_asks now byte s h = request_stays events (λ o. latch_of p2) 1 now (lit now s) byte (λ o l u. up) h

  cycle_free : (now : ℕ) (s : Beside) → link_of s ≡ Free
      → (link_of (joint_cycle events p2 now s) ≡ Free) ⊎ (Pulled now (joint_cycle events p2 now s))
  unfolding joint_cycle
  cycle_free now s h =
      elim (free_or_pulls events (λ o. latch_of p2) 1 now (lit now s) (omega arith) (λ o l u. up) h) [
        | inl free ↦ inl free
        | inr p ↦ inr (p.since, p.from, p.is)
      ]

  idle_on : (n y : ℕ) (s : Beside) → is_busy (link_of s) ≡ false → is_busy (link_of (on n y s)) ≡ false
  idle_on zero y s h = h
  idle_on (suc n) y s h = idle_on n (y + 1) (joint_cycle events p2 y s) (cycle_idle y s h)

  asks_on : (n y byte : ℕ) (s : Beside) → link_of s ≡ Request byte → link_of (on n y s) ≡ Request byte
  asks_on zero y byte s h = h
  asks_on (suc n) y byte s h = asks_on n (y + 1) byte (joint_cycle events p2 y s) (cycle_asks y byte s h)

  free_on : (n y : ℕ) (s : Beside) → n ≤ 64 → link_of s ≡ Free → (link_of (on n y s) ≡ Free) ⊎ (Pulled y (on n y s))
  free_on zero y s l h = inl h
  free_on (suc n) y s l h =
      let next : Beside = joint_cycle events p2 y s in
      elim (cycle_free y s h) [
        | inl free ↦ elim (free_on n (y + 1) next (omega (arith, l)) free) [
          | inl still ↦ inl still
          | inr p ↦ let from : y + 1 ≤ p.0 = p.1 in inr (p.0, omega (arith, from), p.2)
        ]
        | inr p ↦ let from : y ≤ p.0 = p.1 in inr (p.0, from, keeps events (λ c. p2) n (y + 1) next p.0 p.2 (omega (arith, l, from)))
      ]

-- over a step
module _ (events : List HostEvent) (one next : World Beside) (s : StepOf events one next) (up : (latch_of next.cpu.p2).clk ≡ true) where
  -- no byte begins in a step in which the keyboard leaves the clock alone
  pub step_idle : is_busy (link_of one.board) ≡ false → is_busy (link_of next.board) ≡ false
  step_idle h = ap (λ b. is_busy (link_of b)) s.board ∙ idle_on events next.cpu.p2 up s.count one.cycle one.board h

  by_link : (l : Link Wire) → link_of one.board ≡ l → is_busy l ≡ false → (drive l).clk ≡ true → lets next.board ≡ true
      → requests (link_of next.board) ≡ requests l
  by_link Free e h alone there =
      let few : s.count ≤ 2 = s.most in
      elim (free_on events next.cpu.p2 up s.count one.cycle one.board (omega (arith, few)) e) [
        | inl free ↦ ap (λ b. requests (link_of b)) s.board ∙ ap requests free
        | inr p ↦
            let low : lets next.board ≡ false =
            ap lets s.board ∙ pulled_is_low (link_of (on events next.cpu.p2 up s.count one.cycle one.board)) p.0 p.2 in
            absurd (let z : true ≡ false = sym there ∙ low in cc)
      ]
  by_link (Hold since) e h alone there = absurd cc
  by_link (Ask byte since) e h alone there = absurd cc
  by_link (Request byte) e h alone there =
      ap (λ b. requests (link_of b)) s.board ∙ ap requests (asks_on events next.cpu.p2 up s.count one.cycle byte one.board e)
  by_link (Busy wire) e h alone there = absurd cc

  -- if the controller leaves the clock alone before and after it, it requests to send after it just if it did before
  pub step_asks : is_busy (link_of one.board) ≡ false → lets one.board ≡ true → lets next.board ≡ true
      → requests (link_of next.board) ≡ requests (link_of one.board)
  step_asks h alone there = by_link (link_of one.board) refl h alone there
