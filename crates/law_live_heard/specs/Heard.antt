-- The bytes on the wires among what happened to a keyboard, and what passes over the wires.
use Rattle.std.specs.Prelude.{◌≡◌, ℕ, zero, suc, ◌+◌, List, [], ◌∷◌, ◌++◌}
use Rattle.board_terms.specs.declared.transfer.Transfer.{Transfer}
use Rattle.fw_compile.specs.Image.{image_of}
use Rattle.live_items.specs.declared.happened.Happened.{Happened}
use Rattle.live_items.specs.declared.happened.What.{What}
use Rattle.live_items.specs.declared.happened.What.TheVariants.{Said, Passed}
use Rattle.joint_feed.specs.Stories.{Story}
use Rattle.key_file.specs.Accepted.{IsLawfulFor}
use Rattle.key_file.specs.Histories.{KeyHistory}
use Rattle.layout_reader.specs.Layouts.{IsKeyLayout, KeyLayout}
use Rattle.live_board.specs.Heard.{HasHappened}
use Rattle.live_board.specs.Pasts.{Past, story_of}
use Rattle.mcs48_ranges.specs.Sizes.{IsFine}
use Rattle.law_wires_heard.specs.Hearing.{transfer_at}
use Rattle.law_wires_heard.specs.Passing.{passed_at}

-- the byte on the wires that it is, if it is one
abbrev pub byte_of : What → List Transfer
byte_of (Said item) = []
byte_of (Passed byte) = byte ∷ []

-- the bytes on the wires among what happened, in order
abbrev pub bytes_among : List Happened → List Transfer
bytes_among [] = []
bytes_among (it ∷ later) = byte_of it.what ++ bytes_among later

-- the bytes that the controller takes and sends in so many steps, after the first of them
abbrev pub passed_from : Story → ℕ → ℕ → List Transfer
passed_from s from zero = []
passed_from s from (suc n) = passed_from s from n ++ passed_at s (from + n)

-- the transfers that are heard in them
abbrev pub transfers_from : Story → ℕ → ℕ → List Transfer
transfers_from s from zero = []
transfers_from s from (suc n) = transfers_from s from n ++ transfer_at s (from + n)

-- what a keyboard reports of the wires is what the controller takes and sends, in order, whatever program it runs
abbrev pub BytesArePassed : Type 0
BytesArePassed =
    (p : Past) (from n : ℕ) (all : List Happened) → HasHappened p from n all → bytes_among all ≡ passed_from (story_of p) from n

-- the keys and events of a past as a history with this end stamp
abbrev pub history_of : Past → ℕ → KeyHistory
history_of p stop = record { edges = p.edges; host = p.events; end = stop }

-- of a past that is lawful for a layout it is what is heard on the wires, in order, and nothing else, whatever the part held
-- when it was switched on
abbrev pub BytesAreHeard : Type 0
BytesAreHeard =
    (layout : KeyLayout) (p : Past) (stop from n : ℕ) (all : List Happened) → IsKeyLayout layout → p.bytes ≡ image_of layout
    → IsFine p.held → IsLawfulFor layout (history_of p stop) → HasHappened p from n all → bytes_among all ≡ transfers_from (story_of p) from n
