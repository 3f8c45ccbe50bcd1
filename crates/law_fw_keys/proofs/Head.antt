-- The head of a tick: the columns, the offer, the lights; always 234 cycles.
use Rattle.law_fw_logic.proofs.Block.{begin_at}
use Rattle.std.proofs.Common.{◌≡◌, ◌<◌, ℕ, suc, zero, ◌+◌, ◌-◌, ◌*◌, ◌%◌, List, [], ◌∷◌, All, Bool, true, false}
use Rattle.std.proofs.Common.{not, ◌==◌, nat_le, if◌then◌else◌, bit_xor, refl, ap, sym, ◌∙◌, arith, slice_index}
use Rattle.std.proofs.lemmas.Bool.Decides.{nat_tests}
use Rattle.mcs48_core.specs.Cpu.{Cpu}
use Rattle.bits.specs.Bits.{bit}
use Rattle.std.proofs.Common.{◌&&◌, nat_lt, bit_or, Some, None}
use Rattle.std.specs.declared.option.Option.{Option}
use Rattle.law_fw_logic.proofs.Sound.{sound}
use Rattle.law_fw_logic.proofs.Sound.{weaken}
use Rattle.law_fw_keys.proofs.Blocks.{ring-get}
use Rattle.fw_kernel.specs.declared.cells.TheConstants.{LIGHTS, R0, R1, R3, R4, R5, REPLYDUE, AADUE, COUNT, HEAD}
use Rattle.fw_kernel.specs.declared.cells.TheConstants.{REPLY, HELD, CHANGED}
use Rattle.fw_kernel.specs.Places.{HasKernel}
use Rattle.fw_kernel.specs.declared.labels.TheConstants.{TESTED, TICK}
use Rattle.law_fw_keys.proofs.Block.{Bytes}
use Rattle.law_fw_keys.specs.State.{kbd_of, made}
use Rattle.law_fw_logic.proofs.Block.{memory, put, scratched}
use Rattle.bits.proofs.Every.{by_byte, tests_by}
use Rattle.law_fw_logic.proofs.TimerParts.{IsFree}
use Rattle.law_fw_logic.proofs.Kernel.{kernel_in}
use Rattle.law_fw_logic.proofs.Leads.{Leads}
use Rattle.law_fw_logic.proofs.Path.{Acc, Go, Note, Path, Stage, Until, Run}
use Rattle.law_fw_logic.proofs.Short.{has_rows}
use Rattle.mcs48_ranges.specs.Sizes.{IsByte}
use Rattle.joint_run.specs.Run.{Board, after_cycles}
use Rattle.model_keyboard.specs.Keyboard.{offer}
use Rattle.model_keyboard.specs.Queue.{first_of}
use Rattle.law_fw_keys.proofs.Bytes.{or_none, twice}

-- the keys of column c that are down: it is read 13 + 16 c cycles after
abbrev pub shown : (d : Board) → ℕ → ℕ → d.State → ℕ → ℕ
shown d y p2 board c = 255 - (d.pins (32 + c) p2 (y + (13 + 16 * c))
    (after_cycles (13 + 16 * c) 0 (λ o. d.cycle p2 (y + o)) board)).bus

-- memory after the head
abbrev pub headed : (ℕ → ℕ) → (ℕ → ℕ) → ℕ → ℕ → ℕ → ℕ
headed look f r4 r5 i =
    if nat_le HELD i && nat_lt i (HELD + 12) then look (i - HELD) else
    if nat_le CHANGED i && nat_lt i (CHANGED + 12) then bit_xor (f (i - 16)) (look (i - CHANGED)) else
    put (put (put (put (put f R0 (HELD + 12)) R1 LIGHTS) R3 0) R4 r4) R5 r5 i

-- after the head of a tick a column's changes are what was held against what was read
pub head_changes : (look f : ℕ → ℕ) (r4 r5 i : ℕ) → i < 12
    → headed look f r4 r5 (CHANGED + i) ≡ bit_xor (f (HELD + i)) (look i)
head_changes look f r4 r5 i l =
    let a : nat_lt (CHANGED + i) (HELD + 12) ≡ false = grind (arith, nat_tests) in
    let b : nat_le CHANGED (CHANGED + i) ≡ true = grind (arith, nat_tests) in
    let b0 : nat_le HELD (CHANGED + i) ≡ true = grind (arith, nat_tests) in
    let c : nat_lt (CHANGED + i) (CHANGED + 12) ≡ true = grind (arith, nat_tests, l) in
    let u : CHANGED + i - 16 ≡ HELD + i = omega arith in
    let v : CHANGED + i - CHANGED ≡ i = omega arith in
    rw (b0, a, b, c, u, v) refl

-- after the head of a tick a column's held keys are those that were read
pub head_helds : (look f : ℕ → ℕ) (r4 r5 i : ℕ) → i < 12 → headed look f r4 r5 (HELD + i) ≡ look i
head_helds look f r4 r5 i l =
    let a : nat_le HELD (HELD + i) ≡ true = grind (arith, nat_tests) in
    let b : nat_lt (HELD + i) (HELD + 12) ≡ true = grind (arith, nat_tests, l) in
    let v : HELD + i - HELD ≡ i = omega arith in
    rw (a, b, v) refl

mark_only : (c : ℕ) → c < 256 → (if c % 128 == 0 then bit 7 c else not (c == 0)) ≡ not (c == 0)
mark_only = tests_by 256 (λ c. if c % 128 == 0 then bit 7 c else not (c == 0)) (λ c. not (c == 0)) refl

ring_place : (z : ℕ) → z < 256 → bit_or z 112 % 128 ≡ 112 + z % 16
ring_place = by_byte (λ z. bit_or z 112 % 128) (λ z. 112 + z % 16) refl

abbrev pub offered_in : ℕ → ℕ → Option ℕ
offered_in r4 r5 = if r5 == 0 then None else Some r4

by_flag : (n : ℕ) (b : Bool) → (n == 0) ≡ b → offered_in 0 n ≡ first_of [] (not b)
by_flag n true e = rw e refl
by_flag n false e = rw e refl

module _ (d : Board) (bytes : List ℕ) (hk : HasKernel bytes) (small : All IsByte bytes)
    (low : (p1 p2 c : ℕ) (s : d.State) → (d.pins p1 p2 c s).bus < 256) (held : List Bool) where
  module _ (y : ℕ) (m : Cpu) (board : d.State) (f : ℕ → ℕ) (ring : List ℕ) where
    abbrev pub look : ℕ → ℕ
    look = shown d y m.p2 board

    -- after the timer's write
    abbrev pub started : Stage d.State
    started = begin_at d (TICK + 3) f ring m board

    abbrev pub shone : Cpu
    shone = record m { p1 = 44; p2 = 255 - f LIGHTS }

    -- the board at the head's end: the lights are put in the cycle 229 after
    abbrev pub board_lit : d.State
    board_lit = after_cycles 2 229 (λ o. d.cycle (255 - f LIGHTS) (y + o)) (after_cycles 229 0 (λ o. d.cycle m.p2 (y + o)) board)

    abbrev HeadShape : ℕ → ℕ → Stage d.State → Type 0
    HeadShape r4 r5 e =
        (e.cpu ≡ scratched shone TESTED (memory (headed look f r4 r5) ring) e.cpu) × (e.off ≡ 231)
        × (e.board ≡ board_lit)

    pub record Headed (e : Stage d.State) : Type 0 where
      pub r4 : ℕ
      pub r5 : ℕ
      pub cpu : e.cpu ≡ scratched shone TESTED (memory (headed look f r4 r5) ring) e.cpu
      pub off : e.off ≡ 231
      pub board_now : e.board ≡ board_lit
      pub offers : offered_in r4 r5 ≡ offer (kbd_of held f ring)

    by_plan : (plan : List Note) (r4 r5 : ℕ) → IsFree m → offered_in r4 r5 ≡ offer (kbd_of held f ring)
        → Path d (kernel_in true bytes) y plan started (HeadShape r4 r5)
        → Leads d (kernel_in true bytes) y started Headed
    by_plan plan r4 r5 free is path =
        weaken d (kernel_in true bytes) (has_rows true bytes hk) y (HeadShape r4 r5) Headed started
        (λ e h. record { r4 = r4; r5 = r5; cpu = h.0; off = h.1; board_now = h.2; offers = is })
        (sound d (kernel_in true bytes) (has_rows true bytes hk) y plan (HeadShape r4 r5) started path free)

    abbrev mid : ℕ → ℕ
    mid = put (headed look f (f R4) (f COUNT)) R1 (bit_or (f HEAD) 112)

    head_by : (b_due b_aa b_count : Bool) → (f REPLYDUE == 0) ≡ b_due → (f AADUE == 0) ≡ b_aa → (f COUNT % 128 == 0) ≡ b_count
        → f REPLYDUE < 256
        → f AADUE < 256 → f COUNT < 256 → f HEAD < 256 → (n : ℕ) → f COUNT % 128 ≡ n → IsFree m
        → Leads d (kernel_in true bytes) y started Headed
    head_by false b_aa b_count e_due e_aa e_count l_due l_aa l_count l_head n en free =
        let some : (bit_or (f REPLYDUE) (f AADUE) == 0) ≡ false =
        or_none (f REPLYDUE) (f AADUE) l_due l_aa ∙ ap (λ b. b && (f AADUE == 0)) e_due in
        by_plan (Go true ∷ Go true ∷ Until TESTED ∷ []) (f REPLY) (bit_or (f REPLYDUE) (f AADUE)) free
        (rw (some, e_due) refl)
        (ap not some, (ap not e_due, (refl, refl, refl)))
    head_by true false b_count e_due e_aa e_count l_due l_aa l_count l_head n en free =
        let some : (bit_or (f REPLYDUE) (f AADUE) == 0) ≡ false = or_none (f REPLYDUE) (f AADUE) l_due l_aa
        ∙ ap (λ b. b && (f AADUE == 0)) e_due
        ∙ e_aa in
        by_plan (Go true ∷ Go false ∷ Until TESTED ∷ []) 170 (bit_or (f REPLYDUE) (f AADUE)) free
        (rw (some, e_due, e_aa) refl)
        (ap not some, (ap not e_due, (refl, refl, refl)))
    head_by true true true e_due e_aa e_count l_due l_aa l_count l_head n en free =
        let none : (bit_or (f REPLYDUE) (f AADUE) == 0) ≡ true = or_none (f REPLYDUE) (f AADUE) l_due l_aa
        ∙ ap (λ b. b && (f AADUE == 0)) e_due
        ∙ e_aa in
        let empty : f COUNT % 128 ≡ 0 = grind (arith, nat_tests, e_count) in
        let mark : bit 7 (f COUNT) ≡ not (f COUNT == 0) = ap (λ b. if b then bit 7 (f COUNT)
        else not (f COUNT == 0)) (sym e_count)
        ∙ mark_only (f COUNT) l_count in
        by_plan (Go false ∷ Go true ∷ Until TESTED ∷ []) 0 (f COUNT) free
        (by_flag (f COUNT) (f COUNT == 0) refl ∙ ap (λ b. first_of [] b) (sym mark)
        ∙ ap (λ n. first_of (made (λ i. slice_index ring ((f HEAD + i) % 16)) n) (bit 7 (f COUNT))) (sym empty)
        ∙ sym (rw (e_due, e_aa) refl))
        (ap not none, (twice (f COUNT) l_count ∙ e_count, (refl, refl, refl)))
    head_by true true false e_due e_aa e_count l_due l_aa l_count l_head zero en free =
        absurd (let some : 0 < f COUNT % 128 = grind (arith, nat_tests, e_count) in omega (arith, some, en))
    head_by true true false e_due e_aa e_count l_due l_aa l_count l_head (suc n) en free =
        let none : (bit_or (f REPLYDUE) (f AADUE) == 0) ≡ true = or_none (f REPLYDUE) (f AADUE) l_due l_aa
        ∙ ap (λ b. b && (f AADUE == 0)) e_due
        ∙ e_aa in
        let some : (f COUNT == 0) ≡ false = (let p : 0 < f COUNT = omega (arith, en) in grind (arith, nat_tests, p)) in
        let first : ℕ = slice_index ring ((f HEAD + 0) % 16) in
        let left : offered_in first (f COUNT) ≡ Some first = rw some refl in
        let at : f HEAD % 16 ≡ (f HEAD + 0) % 16 = omega arith in
        by_plan (Go false ∷ Go false ∷ Run 5 ∷ Acc first ∷ Until TESTED ∷ []) first (f COUNT) free
        (left ∙ ap (λ n. first_of (made (λ i. slice_index ring ((f HEAD + i) % 16)) n) (bit 7 (f COUNT))) (sym en)
        ∙ sym (rw (e_due, e_aa) refl)) (
          ap not none,
          (
            twice (f COUNT) l_count ∙ e_count,
            (
              ap (λ p. slice_index (memory mid ring) p) (ring_place (f HEAD) l_head)
                  ∙ ring-get mid 0 112 ring (f HEAD % 16) ∙ ap (λ k. slice_index ring k) at,
              (refl, refl, refl),
            ),
          ),
        )

    -- the head of a tick reads the columns, finds what is offered and puts the lights, in 231 cycles
    pub head_law : Bytes f ring → IsFree m → Leads d (kernel_in true bytes) y started Headed
    head_law h = head_by (f REPLYDUE == 0) (f AADUE == 0) (f COUNT % 128 == 0) refl refl refl (h.cell REPLYDUE (omega arith))
        (h.cell AADUE (omega arith)) (h.cell COUNT (omega arith)) (h.cell HEAD (omega arith)) (f COUNT % 128) refl
