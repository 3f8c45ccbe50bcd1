-- The codes of keys in what is found on the wires.
--
-- The keyboard sends the code of a key that goes down, and F0 before the code of one that goes up. The host may ask for
-- the last byte again with FE; the keyboard then sends it once more.
use Rattle.std.specs.Prelude.{ℕ, Bool, false, not, ◌&&◌, ◌||◌, ◌==◌, if◌then◌else◌}
use Rattle.std.specs.Prelude.{Option, Some, None, is_none, unwrap_or}
use Rattle.capture_frames.specs.declared.finding.Finding.{Finding}
use Rattle.capture_frames.specs.declared.finding.Finding.TheVariants.{Byte, Few, Cut, Unfinished}
use Rattle.capture_frames.specs.declared.finding.Finding.TheVariants.{Stray, Glitch, Hold, StaysLow}
use Rattle.capture_frames.specs.declared.finding.Timed.{Timed}
use Rattle.capture_frames.specs.declared.finding.Whole.{Whole}
use Rattle.capture_lines.specs.Receiving.{is_right}
use Rattle.capture_lines.specs.Speech.{is_code}
use Rattle.capture_keys.specs.declared.codes.Code.{Code}
use Rattle.capture_keys.specs.declared.codes.Codes.{Codes}

-- before anything is heard
abbrev pub at_first : Codes
at_first = record { again = false; known = false; mark = None }

-- the host asked again for a byte that had come right
abbrev pub is_old : Codes → Bool
is_old c = c.again && c.known

-- a frame of the keyboard says a byte that wasn't heard before
abbrev pub is_new : Whole → Codes → Bool
is_new w c = is_right w && not (is_old c)

-- a reply to the host, which may come between F0 and its code: FA, FE, or EE
abbrev pub is_reply : ℕ → Bool
is_reply byte = byte == 0xfa || byte == 0xfe || byte == 0xee

-- F0 waits for its code, through replies; any other byte ends that
abbrev pub mark_after : ℕ → ℕ → Option ℕ → Option ℕ
mark_after time byte mark = if byte == 0xf0 then Some time else if is_reply byte then mark else None

-- after a frame of the keyboard
abbrev pub after_frame : ℕ → Whole → Codes → Codes
after_frame time w c = record {
  again = false;
  known = is_right w || is_old c;
  mark = if is_new w c then mark_after time w.byte c.mark else c.mark;
}

-- with FE the keyboard asks the host for a byte again; FE itself is never sent again
abbrev pub is_request : Whole → Bool
is_request w = is_right w && w.byte == 0xfe

abbrev pub after_whole : ℕ → Whole → Codes → Codes
after_whole time w c =
    if w.from_host then record c { again = w.byte == 0xfe }
    else if is_request w then c else after_frame time w c

abbrev pub after : Timed → Finding → Codes → Codes
after t (Byte w) c = after_whole t.time w c
after t (Few from_host edges) c = c
after t (Cut from_host edges) c = c
after t (Unfinished from_host edges) c = c
after t Stray c = c
after t Glitch c = c
after t (Hold asks) c = c
after t StaysLow c = c

-- the code that a byte is: after F0 its key goes up, and did so before the F0 came
abbrev pub code_at : ℕ → ℕ → Codes → Code
code_at time byte c = record { time = unwrap_or c.mark time; byte = byte; down = is_none c.mark }

abbrev pub code_in : ℕ → Whole → Codes → Option Code
code_in time w c =
    if not w.from_host && is_new w c && is_code w.byte then Some (code_at time w.byte c) else None

-- the code that a finding is, if it is one
abbrev pub code_of : Timed → Finding → Codes → Option Code
code_of t (Byte w) c = code_in t.time w c
code_of t (Few from_host edges) c = None
code_of t (Cut from_host edges) c = None
code_of t (Unfinished from_host edges) c = None
code_of t Stray c = None
code_of t Glitch c = None
code_of t (Hold asks) c = None
code_of t StaysLow c = None
