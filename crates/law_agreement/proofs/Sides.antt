-- The PC's side of a tick: at the look at the clock, and at the tick's end, it is the model's.
use Rattle.std.proofs.Common.{◌≡◌, ℕ, ◌+◌, List, false, ap, sym, ◌∙◌}
use Rattle.board_terms.specs.declared.event.Edge.{Edge}
use Rattle.board_terms.specs.declared.event.HostEvent.{HostEvent}
use Rattle.board_terms.specs.declared.lines.Lines.{Lines}
use Rattle.model_controller.specs.ByteTime.{quietly}
use Rattle.model_controller.specs.declared.UnderWay.{UnderWay}
use Rattle.model_controller.specs.declared.meeting.Meeting.{Meeting}
use Rattle.ctl_link.specs.Link.{is_busy}
use Rattle.law_fw_link.proofs.Wired.{IsReleased}
use Rattle.host_turn.specs.Run.{Side, says_lights}
use Rattle.joint_run.specs.Joint.{Beside, latch_of, lights_of}
use Rattle.joint_run.specs.Run.{World}
use Rattle.model_link.specs.Expected.{Whole, to_look, to_meeting, from_meeting, begins_from, meeting_from}
use Rattle.model_link.specs.Machine.{KeyboardMachine}
use Rattle.ctl_wire.specs.Wires.{Pc}
use Rattle.law_wires_agree.proofs.Between.{between}
use Rattle.law_wires_agree.specs.Cycles.{board_cycles}
use Rattle.law_wires_agree.specs.Ticks.{Ticked, from_look}
use Rattle.law_wires_agree.specs.Ticks.{meeting_from as meeting_after}
use Rattle.law_wires_agree.specs.Without.{seen_in_bytes}
use Rattle.law_agreement.proofs.Happened.{lit_latch, at_lights, at_look}

module _ (edges : List Edge) (events : List HostEvent) (w : World Beside) (was : IsReleased w.cpu.p2)
    (released : IsReleased (lit_latch edges events w)) (idle : is_busy w.board.pc.side.port.link ≡ false) where
  abbrev lights : ℕ
  lights = lights_of (lit_latch edges events w)

  abbrev look : Pc
  look = at_look edges events w

  -- at the look it is the model's, and no byte is under way
  pub looks_same : (seen_in_bytes look.side ≡ to_look events w.board.shown lights w.cycle
      (seen_in_bytes w.board.pc.side))
      × (is_busy look.side.port.link ≡ false)
  looks_same =
      let first = between events (λ o. latch_of w.cpu.p2) 232 w.cycle w.board.pc (λ o l u. was.clock) idle in
      let lit : Pc =
      record
      (at_lights events w) { side = says_lights (232 + w.cycle) w.board.shown lights (at_lights events w).side } in
      let second = between events (λ o. latch_of (lit_latch edges events w)) 24 (232 + w.cycle) lit
      (λ o l u. released.clock) first.1 in (
        second.0 ∙ ap (λ s. quietly events 24 (232 + w.cycle) (says_lights (232 + w.cycle) w.board.shown lights s))
            first.0,
        second.1,
      )

  module _ (S : Type 0) (kb : KeyboardMachine S) (m : Whole S) (side : seen_in_bytes w.board.pc.side ≡ m.side)
      (shown : w.board.shown ≡ m.shown) (lit : kb.lights m.keys ≡ lights) where
    abbrev model_look : Side UnderWay
    model_look = to_look events m.shown (kb.lights m.keys) w.cycle m.side

    -- at the look at the clock the PC's side is the model's
    pub model_looks : seen_in_bytes look.side ≡ model_look
    model_looks =
        looks_same.0
        ∙ ap (λ n. to_look events n lights w.cycle (seen_in_bytes w.board.pc.side)) shown
        ∙ ap (λ n. to_look events m.shown n w.cycle (seen_in_bytes w.board.pc.side)) (sym lit)
        ∙ ap (λ s. to_look events m.shown (kb.lights m.keys) w.cycle s) side

    -- the meeting of the model's tick is that of a tick in byte time from the look on
    pub meeting_is : meeting_from kb events w.cycle m
        ≡ meeting_after events (kb.tested m.keys) (kb.offer m.keys) w.cycle (seen_in_bytes look.side)
    meeting_is =
        ap (λ s. meeting_after events (kb.tested m.keys) (kb.offer m.keys) w.cycle s) (sym model_looks)

    -- over lines of which a law of the tick speaks, the tick's meeting is that of the law, and its end is that of the
    -- model's tick
    module _ (lines : ℕ → Lines) (rest k : ℕ) (met : Meeting)
        (law : Ticked events lines w.cycle rest look (kb.tested m.keys) (kb.offer m.keys) met k) where
      -- the model's meeting is the one that the wires show
      pub met_is : meeting_from kb events w.cycle m ≡ met
      met_is = meeting_is ∙ law.meets

      -- at the tick's end the PC's side is the model's
      pub side_is : seen_in_bytes (board_cycles events lines k (256 + w.cycle) look).side
          ≡ from_meeting events w.cycle rest (begins_from kb events w.cycle m) (to_meeting events w.cycle model_look)
      side_is =
          law.agrees ∙ ap (λ s. from_look events (kb.tested m.keys) (kb.offer m.keys) w.cycle rest s) model_looks
