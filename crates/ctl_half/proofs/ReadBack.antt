-- A controller is read from its bytes.
use Rattle.std.proofs.Common.{◌≡◌, ◌<◌, ◌^◌, ℕ, List, Some, None, ap, ◌∙◌}
use Rattle.std.specs.Prelude.{if◌then◌else◌}
use Rattle.std.specs.Int.{w64, to_le_bytes, from_le_bytes}
use Rattle.std.proofs.lemmas.Nat.{from_le_bytes-to_le_bytes_8}
use Rattle.ctl_link.specs.Empty.{IsEmptyUnlessHeld, fits}
use Rattle.joint_bytes.proofs.SideRead.{controller_read}
use Rattle.joint_bytes.specs.Links.{link_in}
use Rattle.joint_bytes.specs.Sides.{controller_bytes}
use Rattle.mcs48_bytes.proofs.Choices.{maybe_read, truth_read}
use Rattle.mcs48_bytes.specs.Numbers.{truth_at}
use Rattle.ctl_half.specs.Controllers.{CtlState}
use Rattle.ctl_half.specs.Saves.{end_bytes, loaded, loaded_with, port_in, saved_of}

read_with : (c : CtlState) → c.port.filled < 2 ^ 64 → IsEmptyUnlessHeld c.port
    → loaded_with (saved_of c) (Some c.port.link) ≡ Some c
read_with c near empty =
    let full = truth_read c.port.core.output_full in
    let core = controller_read c.port.core in
    let filled : from_le_bytes w64 (to_le_bytes w64 c.port.filled) ≡ c.port.filled =
    from_le_bytes-to_le_bytes_8 c.port.filled near in
    let awaits = truth_read c.port.awaits in
    let flip = maybe_read c.port.flip in
    let clock = truth_read c.clock in
    let found : CtlState =
    record { port = port_in (saved_of c) c.port.link; clock = truth_at 11 (saved_of c).end; pins = c.pins } in
    ap (λ t. if t then Some found else None) (ap (λ b. fits b c.port.link) full ∙ empty)
    ∙ (λ i. Some (record {
      port = record {
        core = core i;
        filled = filled i;
        link = c.port.link;
        awaits = awaits i;
        flip = flip i;
      };
      clock = clock i;
      pins = c.pins;
    }))

-- what these groups of bytes mean, with the pins, is the controller that they were written of
pub read_back : (b e l : List ℕ) (pins : ℕ) (c : CtlState) → b ≡ controller_bytes c.port.core → e ≡ end_bytes c
    → link_in l ≡ Some c.port.link → pins ≡ c.pins → c.port.filled < 2 ^ 64 → IsEmptyUnlessHeld c.port
    → loaded (record { buffers = b; end = e; link = l; pins = pins }) ≡ Some c
read_back b e l pins c buffers end link set near empty =
    ap (λ x. loaded (record { buffers = x; end = e; link = l; pins = pins })) buffers
    ∙ ap (λ x. loaded (record { buffers = controller_bytes c.port.core; end = x; link = l; pins = pins })) end
    ∙ ap (λ x. loaded (record { buffers = controller_bytes c.port.core; end = end_bytes c; link = l; pins = x })) set
    ∙ ap (λ x. loaded_with (saved_of c) x) link
    ∙ read_with c near empty
