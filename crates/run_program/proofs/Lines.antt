-- The line of an item that has a stamp.
use Rattle.std.proofs.Common.{◌-◌, true, false, List, ◌∷◌, ◌++◌, refl}
use Rattle.std.specs.Prelude.{if◌then◌else◌, nat_lt}
use Rattle.std.specs.Fmt.{decimal}
use Rattle.run_program.specs.Texts.{line_text, log_text}
use Rattle.host_turn.specs.declared.stamped.Stamped.{Stamped}
use Rattle.io_edge.proofs.Pieces.{AreLines, EndsLine}
use Rattle.pc_tables.specs.Items.{line_of, text_of}
use Rattle.run_loop.proofs.Texts.{text_is_lines}

-- a line ends with LF
pub line_ends : (s : Stamped) → EndsLine (line_text s)
line_ends s =
    elim (nat_lt s.cycle 4096) as (λ b. EndsLine (if b then 45 ∷ line_of (4096 - s.cycle) s.item else line_of (s.cycle - 4096) s.item)) [
      | true ↦ (45 ∷ (decimal (4096 - s.cycle) ++ 32 ∷ text_of s.item), refl)
      | false ↦ (decimal (s.cycle - 4096) ++ 32 ∷ text_of s.item, refl)
    ]

-- the text of a log is of whole lines
pub are_lines : (log : List Stamped) → AreLines (log_text log)
are_lines log = text_is_lines line_text line_ends log
