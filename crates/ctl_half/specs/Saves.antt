-- A controller's state as bytes.
use Rattle.std.specs.Prelude.{ℕ, List, [], ◌∷◌, ◌++◌, Option, None, Some, is_some, if◌then◌else◌}
use Rattle.std.specs.Int.{w64, to_le_bytes, from_bool}
use Rattle.ctl_link.specs.Empty.{fits}
use Rattle.ctl_link.specs.declared.link.Link.{Link}
use Rattle.ctl_link.specs.declared.port.LinkEnd.{LinkEnd}
use Rattle.ctl_wire.specs.declared.wire.Wire.{Wire}
use Rattle.joint_bytes.specs.Links.{link_bytes, link_in}
use Rattle.joint_bytes.specs.Sides.{controller_bytes, controller_in}
use Rattle.mcs48_bytes.specs.Numbers.{byte_or_0, maybe_at, number_at, truth_at}
use Rattle.ctl_half.specs.Controllers.{CtlState}
use Rattle.ctl_half.specs.declared.saving.SavedController.{SavedController}

-- 12 bytes: the cycle in which the output buffer was filled (8 bytes), whether a reply is awaited, the bit that noise
-- turns round in the next frame (2 bytes), and the level of the clock
abbrev pub end_bytes : CtlState → List ℕ
end_bytes c =
    to_le_bytes w64 c.port.filled
    ++ from_bool c.port.awaits ∷ from_bool (is_some c.port.flip) ∷ byte_or_0 c.port.flip ∷ from_bool c.clock ∷ []

abbrev pub saved_of : CtlState → SavedController
saved_of c = record {
  buffers = controller_bytes c.port.core;
  end = end_bytes c;
  link = link_bytes c.port.link;
  pins = c.pins;
}

-- the end of the link that these bytes mean, with this link
abbrev pub port_in : SavedController → Link Wire → LinkEnd Wire
port_in s link = record {
  core = controller_in s.buffers;
  filled = number_at 0 s.end;
  link = link;
  awaits = truth_at 8 s.end;
  flip = maybe_at 9 s.end;
}

-- the controller that these bytes mean; none if its output buffer is full while the keyboard isn't held off
abbrev pub loaded_with : SavedController → Option (Link Wire) → Option CtlState
loaded_with s None = None
loaded_with s (Some link) =
    if fits (truth_at 2 s.buffers) link
    then Some (record { port = port_in s link; clock = truth_at 11 s.end; pins = s.pins })
    else None

abbrev pub loaded : SavedController → Option CtlState
loaded s = loaded_with s (link_in s.link)

-- the controller in that state, or as it was if there is none
abbrev pub gone_back : Option CtlState → CtlState → CtlState
gone_back None c = c
gone_back (Some state) c = state
