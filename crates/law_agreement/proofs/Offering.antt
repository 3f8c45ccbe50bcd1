-- What a tick start offers is a byte, and the latch of port 2 from its lights on leaves both wires alone.
use Rattle.std.proofs.Common.{◌≡◌, ◌<◌, ℕ, suc, zero, ◌+◌, ◌-◌, ◌*◌, ◌/◌, ◌%◌, ◌==◌, List, Bool, true, false}
use Rattle.std.proofs.Common.{Some, None, drop, length, slice_index, refl, ap, sym, ◌∙◌, subst, arith}
use Rattle.std.specs.declared.option.Option.{Option}
use Rattle.std.proofs.lemmas.List.Elements.{All-get_or}
use Rattle.board_terms.specs.declared.event.Edge.{Edge}
use Rattle.board_terms.specs.declared.event.HostEvent.{HostEvent}
use Rattle.fw_kernel.specs.declared.cells.TheConstants.{LIGHTS, REPLYDUE, AADUE, COUNT, HEAD, REPLY}
use Rattle.law_fw_keys.proofs.Blocks.{ring-get}
use Rattle.law_fw_keys.proofs.Begun.{IsAnyStart}
use Rattle.law_fw_keys.specs.Frameless.{cells_in, shown_by}
use Rattle.law_fw_keys.specs.State.{made}
use Rattle.law_fw_link.proofs.Wired.{IsReleased, lights_leave}
use Rattle.bits.proofs.Every.{by_below}
use Rattle.law_fw_logic.proofs.Memory.{memory_is}
use Rattle.mcs48_ranges.specs.Sizes.{IsByte, IsFine}
use Rattle.joint_run.specs.Joint.{Beside, lights_of}
use Rattle.joint_run.specs.Run.{World}
use Rattle.model_keyboard.specs.Keyboard.{offer}
use Rattle.model_keyboard.specs.Queue.{first_of}
use Rattle.mcs48_core.specs.Cpu.{Cpu}
use Rattle.bits.specs.Bits.{bit}
use Rattle.law_agreement.proofs.Happened.{lit_latch}

abbrev the : Option ℕ → ℕ
the None = 0
the (Some v) = v

same_byte : (a b : ℕ) → a < 256 → Some a ≡ Some b → b < 256
same_byte a b l e = let h : a ≡ b = ap the e in rw (sym h) l

module _ (m : Cpu) (fine : IsFine m) where
  abbrev f : ℕ → ℕ
  f = cells_in m.ram

  abbrev ring : List ℕ
  ring = drop 112 m.ram

  cell : (i : ℕ) → i < 128 → f i < 256
  cell i l = All-get_or IsByte m.ram i 0 (let n : length m.ram ≡ 128 = fine.long in omega (arith, n, l)) fine.ram

  place : (i : ℕ) → i < 16 → slice_index ring i < 256
  place i l =
      let at : f (112 + i) ≡ slice_index ring i =
      ap (λ r. slice_index r (112 + i)) (memory_is m.ram fine.long) ∙ ring-get f 0 112 ring i in
      subst (λ v. v < 256) at (cell (112 + i) (omega (arith, l)))

  abbrev queued : ℕ → ℕ
  queued i = slice_index ring ((f HEAD + i) % 16)

  by_mark : (b : Bool) (byte : ℕ) → first_of (made queued 0) b ≡ Some byte → byte < 256
  by_mark true byte is = same_byte 0 byte (omega arith) is
  by_mark false byte is = absurd cc

  by_state : (reply aa : Bool) → (f REPLYDUE == 0) ≡ reply → (f AADUE == 0) ≡ aa → (n : ℕ) → f COUNT % 128 ≡ n → (byte : ℕ)
      → offer (shown_by m.ram) ≡ Some byte → byte < 256
  by_state false aa e_due e_aa n en byte is =
      let replied : offer (shown_by m.ram) ≡ Some (f REPLY) = rw e_due refl in
      same_byte (f REPLY) byte (cell REPLY (omega arith)) (sym replied ∙ is)
  by_state true false e_due e_aa n en byte is =
      let due : offer (shown_by m.ram) ≡ Some 170 = rw (e_due, e_aa) refl in
      same_byte 170 byte (omega arith) (sym due ∙ is)
  by_state true true e_due e_aa n en byte is =
      let left : offer (shown_by m.ram) ≡ first_of (made queued (f COUNT % 128)) (bit 7 (f COUNT)) = rw (e_due, e_aa) refl in
      by_count n (ap (λ c. first_of (made queued c) (bit 7 (f COUNT))) (sym en) ∙ sym left ∙ is)
    where
      by_count : (n : ℕ) → first_of (made queued n) (bit 7 (f COUNT)) ≡ Some byte → byte < 256
      by_count zero h = by_mark (bit 7 (f COUNT)) byte h
      by_count (suc n) h = same_byte (queued 0) byte (place ((f HEAD + 0) % 16) (omega arith)) h

  -- what is offered is a byte
  pub offers_byte : (byte : ℕ) → offer (shown_by m.ram) ≡ Some byte → byte < 256
  offers_byte byte is = by_state (f REPLYDUE == 0) (f AADUE == 0) refl refl (f COUNT % 128) refl byte is

module _ (edges : List Edge) (events : List HostEvent) (w : World Beside) (s : IsAnyStart w.cpu) where
  abbrev lamps : ℕ
  lamps = slice_index w.cpu.ram LIGHTS

  -- the latch from the lights on
  pub lit_released : IsReleased (lit_latch edges events w)
  lit_released =
      let alone : lamps ≡ 16 * (lamps / 16 % 8) = s.inv.lamps in
      lights_leave lamps (omega (arith, alone)) (omega (arith, alone))

  -- and it shows the keyboard's lights
  pub lit_shows : (shown_by w.cpu.ram).lights ≡ lights_of (lit_latch edges events w)
  lit_shows =
      let alone : lamps ≡ 16 * (lamps / 16 % 8) = s.inv.lamps in
      let three : lamps / 16 ≡ lamps / 16 % 8 = omega (arith, alone) in
      three ∙ sym (by_below 8 (λ n. lights_of (255 - 16 * n)) (λ n. n) refl (lamps / 16 % 8) (omega arith))
      ∙ sym (ap (λ c. lights_of (255 - c)) alone)
