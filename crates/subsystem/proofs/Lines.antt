-- The lines of the log, as starts and items come.
use Rattle.std.proofs.Common.{◌≡◌, ◌≤◌, ◌<◌, ℕ, suc, ◌+◌, ◌-◌, ◌*◌, List, [], ◌∷◌, ◌++◌, length, map, drop}
use Rattle.std.proofs.Common.{length-append, get_or, drop-cons, refl, ap, sym, ◌∙◌, arith}
use Rattle.std.specs.Prelude.{Bool, count_by, cond, flat_map}
use Rattle.std.specs.Fmt.{decimal}
use Rattle.std.proofs.lemmas.List.{length-map}
use Rattle.std.proofs.lemmas.List.Sums.{sum_by-append}
use Rattle.board_terms.specs.Cadence.{begun, listed}
use Rattle.host_turn.specs.declared.stamped.Stamped.{Stamped}
use Rattle.io_edge.proofs.Pieces.{AreLines, EndsLine}
use Rattle.model_link.specs.declared.line.LogLine.{LogLine}
use Rattle.pc_tables.specs.Items.{text_of}
use Rattle.subsystem.specs.Account.{in_tick}
use Rattle.subsystem.specs.Counts.{is_beep, is_port, is_word, with_lines}
use Rattle.subsystem.specs.Progress.{line_so_far}
use Rattle.run_loop.specs.Running.{AreIn}
use Rattle.run_loop.proofs.Texts.{text_is_lines}
use Rattle.subsystem.specs.LayoutOutcomes.{line_of, lines_of}
use Rattle.subsystem.specs.Texts.{line_text, log_text}
use Rattle.subsystem.specs.declared.counts.Counts.{Counts}
use Rattle.subsystem.proofs.Ticks.{all_begun, begun_later, one_longer}

-- a line ends with LF
pub line_ends : (line : LogLine) → EndsLine (line_text line)
line_ends line = (decimal line.tick ++ 32 ∷ text_of line.item, refl)

-- the text of the log is of whole lines
pub are_lines : (lines : List LogLine) → AreLines (log_text lines)
are_lines lines = text_is_lines line_text line_ends lines

-- the lines of items in a tick
pub lines_in_tick : (tick : ℕ) (items : List Stamped)
    → flat_map (λ s. line_text (in_tick tick s)) items ≡ log_text (map (in_tick tick) items)
lines_in_tick tick [] = refl
lines_in_tick tick (s ∷ items) = ap (λ v. line_text (in_tick tick s) ++ v) (lines_in_tick tick items)

-- a later start changes no line
line_later : (starts : List ℕ) (next : ℕ) (s : Stamped) → s.cycle < 4096 + next → line_so_far (starts ++ next ∷ []) s ≡ line_so_far starts s
line_later starts next s l =
    ap (λ (n : ℕ). record { tick = begun (listed (starts ++ next ∷ [])) s.cycle n - 1; item = s.item }) (one_longer starts next)
    ∙ ap (λ (n : ℕ). record { tick = n - 1; item = s.item }) (begun_later starts next s.cycle l)

-- a tick start that comes later changes no line of the log before it
pub lines_later : (starts : List ℕ) (next to : ℕ) (log : List Stamped) → to ≤ 4096 + next → AreIn 0 to log
    → map (line_so_far (starts ++ next ∷ [])) log ≡ map (line_so_far starts) log
lines_later starts next to [] l h = refl
lines_later starts next to (s ∷ log) l h =
    let k = h.0.1 in
    let below : s.cycle < 4096 + next = omega (arith, k, l) in
    ap (λ v. v ∷ map (line_so_far (starts ++ next ∷ [])) log) (line_later starts next s below)
    ∙ ap (λ v. line_so_far starts s ∷ v) (lines_later starts next to log l h.1)

-- where all starts are at or before the cycles of items, these are of the last tick
line_now : (starts : List ℕ) (s : Stamped)
    → ((j : ℕ) → j < length starts → 4096 + listed starts j ≤ s.cycle) → line_so_far starts s ≡ in_tick (length starts - 1) s
line_now starts s h = ap (λ (n : ℕ). record { tick = n - 1; item = s.item }) (all_begun starts s.cycle h)

-- items said after the last tick start are in its tick
pub lines_now : (starts : List ℕ) (from to : ℕ) (items : List Stamped)
    → ((j : ℕ) → j < length starts → 4096 + listed starts j ≤ from) → AreIn from to items
    → map (in_tick (length starts - 1)) items ≡ map (line_so_far starts) items
lines_now starts from to [] h k = refl
lines_now starts from to (s ∷ items) h k =
    let l = k.0.0 in
    let reached = line_now starts s (λ j below. let m = h j below in omega (arith, l, m)) in
    ap (λ v. v ∷ map (in_tick (length starts - 1)) items) (sym reached)
    ∙ ap (λ v. line_so_far starts s ∷ v) (lines_now starts from to items h k.1)

-- once a tick has started the lines are those of the whole run's starts
line_whole : (starts : List ℕ) (s : Stamped) → 0 < length starts → line_so_far starts s ≡ line_of starts s
line_whole starts s l =
    let e : length starts ≡ suc (length starts - 1) = omega (arith, l) in
    ap (λ (n : ℕ). record { tick = begun (listed starts) s.cycle n - 1; item = s.item }) e

-- with a tick start or more the lines so far are the lines of the log
pub lines_whole : (starts : List ℕ) (log : List Stamped) → 0 < length starts → map (line_so_far starts) log ≡ lines_of starts log
lines_whole starts [] l = refl
lines_whole starts (s ∷ log) l =
    ap (λ v. v ∷ map (line_so_far starts) log) (line_whole starts s l) ∙ ap (λ v. line_of starts s ∷ v) (lines_whole starts log l)

-- the lines of the items from one on
pub lines_left : (tick : ℕ) (items : List Stamped) (i : ℕ) (d : Stamped) → i < length items
    → map (in_tick tick) (drop i items) ≡ in_tick tick (get_or items i d) ∷ map (in_tick tick) (drop (i + 1) items)
lines_left tick items i d within =
    let e : suc i ≡ i + 1 = omega arith in
    ap (map (in_tick tick)) (drop-cons items i d within ∙ ap (λ k. get_or items i d ∷ drop k items) e)

count-append : (p : LogLine → Bool) (xs ys : List LogLine) → count_by p (xs ++ ys) ≡ count_by p xs + count_by p ys
count-append p xs ys = sum_by-append (λ x. cond (p x) 1 0) xs ys

-- the counts of more lines
pub with_lines-append : (c : Counts) (xs ys : List LogLine) → with_lines (with_lines c xs) ys ≡ with_lines c (xs ++ ys)
with_lines-append c xs ys =
    let a = count-append is_port xs ys in
    let b = count-append is_word xs ys in
    let d = count-append is_beep xs ys in
    let p : c.ports + count_by is_port xs + count_by is_port ys ≡ c.ports + count_by is_port (xs ++ ys) = omega (arith, a) in
    let w : c.words + count_by is_word xs + count_by is_word ys ≡ c.words + count_by is_word (xs ++ ys) = omega (arith, b) in
    let e : c.beeps + count_by is_beep xs + count_by is_beep ys ≡ c.beeps + count_by is_beep (xs ++ ys) = omega (arith, d) in
    cc (p, w, e)

-- a step more, with its lines
pub short_more : {X : Type 0} (before all : List LogLine) (f : X → LogLine) (items : List X) (k n : ℕ)
    → all ≡ before ++ map f items → length before ≤ 16 * k → length items ≤ 16 → k < n → length all ≤ 16 * n
short_more before all f items k n e short few more =
    let a = ap length e in
    let b = length-append before (map f items) in
    let d = length-map items f in
    omega (arith, a, b, d, short, few, more)
