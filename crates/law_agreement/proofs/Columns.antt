-- The columns that a tick of the joint run reads show the keys that are down by the history, and the edges that the
-- processor reads off them are those of the model.
use Rattle.std.proofs.Common.{◌≡◌, ◌≤◌, ◌<◌, ℕ, suc, zero, ◌+◌, ◌-◌, ◌*◌, ◌/◌, ◌%◌, ◌^◌, ◌==◌, nat_le, nat_lt}
use Rattle.std.proofs.Common.{Bool, true, false, ◌&&◌, if◌then◌else◌, List, [], ◌∷◌, ◌++◌, slice_index, slice_index_or}
use Rattle.std.proofs.Common.{bit_and, bit_xor, length, refl, ap, sym, ◌∙◌, subst, arith}
use Rattle.std.specs.Prelude.{min}
use Rattle.std.specs.List.{filter}
use Rattle.std.proofs.lemmas.Bool.Decides.{nat_tests}
use Rattle.std.proofs.lemmas.List.{append-nil, append_assoc}
use Rattle.std.proofs.lemmas.Nat.Bits.{bit_at_and, bit_at_xor}
use Rattle.board_terms.specs.declared.event.Edge.{Edge}
use Rattle.board_terms.specs.declared.event.HostEvent.{HostEvent}
use Rattle.board_terms.specs.Edges.{of_place, last_of, is_made}
use Rattle.board_terms.specs.Matrix.{all_up, column_rows, rows_of}
use Rattle.bits.proofs.Every.{and-left, and-right}
use Rattle.board_terms.proofs.Shown.{shown_from, edges_shown}
use Rattle.law_fw_keys.specs.Edges.{row_edges, column_edges, tick_edges}
use Rattle.law_fw_keys.proofs.Held.{held_same}
use Rattle.law_fw_keys.specs.Frameless.{cells_in, shown_by, read_by, differing_now, changed_by, edges_now}
use Rattle.law_fw_logic.specs.Ticks.{column_read}
use Rattle.law_fw_keys.specs.State.{flags, down_at, held_by, debounces, read_cell, read_of}
use Rattle.bits.proofs.Every.{every_below, at_each, same, same_is, pair_tests}
use Rattle.law_fw_logic.specs.Scan.{in_tick}
use Rattle.joint_run.specs.Joint.{Beside, joint_board, joint_pins, keys_at}
use Rattle.joint_run.specs.Run.{Board, World}
use Rattle.board_terms.proofs.Shown.{skip, keep}
use Rattle.model_link.proofs.Edges.{are_at, filter_same}
use Rattle.model_link.proofs.Taken.{differ, turned_shown}
use Rattle.model_link.specs.Debounce.{Switches, is_down_at, settles, turned_all, taken}
use Rattle.model_link.specs.TickEdges.{by_place, change_at, is_down, shown, shown_at}
use Rattle.bits.specs.Bits.{bit}
use Rattle.law_agreement.proofs.Model.{columns_in}
use Rattle.fw_kernel.specs.declared.cells.TheConstants.{HELD, PENDING}

-- the bus reads the rows of the keys that are down
bus_is : (edges : List Edge) (events : List HostEvent) (p1 p2 c : ℕ) (s : Beside)
    → ((joint_board edges events).pins p1 p2 c s).bus ≡ rows_of (keys_at edges c) p1
unfolding joint_pins
bus_is edges events p1 p2 c s = refl

-- a row's bit is no more than its value
part_low : (b : Bool) (n : ℕ) → (if b then 0 else n) ≤ n
part_low true n = omega arith
part_low false n = omega arith

-- the sum of eight is below 256
sum_low : (a b c d e f g h : ℕ) → a ≤ 1 → b ≤ 2 → c ≤ 4 → d ≤ 8 → e ≤ 16 → f ≤ 32 → g ≤ 64 → h ≤ 128
    → a + b + c + d + e + f + g + h < 256
sum_low a b c d e f g h l0 l1 l2 l3 l4 l5 l6 l7 = omega (arith, l0, l1, l2, l3, l4, l5, l6, l7)

-- so are the rows of a column
column_low : (keys : List Bool) (c : ℕ) → column_rows keys c < 256
column_low keys c =
    let down : ℕ → Bool = λ r. slice_index_or keys (8 * c + r) false in
    let part : ℕ → ℕ = λ r. if down r then 0 else 2 ^ r in
    sum_low (part 0) (part 1) (part 2) (part 3) (part 4) (part 5) (part 6) (part 7)
    (part_low (down 0) 1) (part_low (down 1) 2) (part_low (down 2) 4) (part_low (down 3) 8)
    (part_low (down 4) 16) (part_low (down 5) 32) (part_low (down 6) 64) (part_low (down 7) 128)

-- and so is a column's byte or the byte of none
rows_low : (rows : ℕ) (b : Bool) → rows < 256 → (if b then rows else 255) < 256
rows_low rows true l = l
rows_low rows false l = omega arith

-- so what the bus reads is a byte
pub bus_low : (edges : List Edge) (events : List HostEvent) (p1 p2 c : ℕ) (s : Beside)
    → ((joint_board edges events).pins p1 p2 c s).bus < 256
bus_low edges events p1 p2 c s =
    let keys : List Bool = keys_at edges c in
    subst (λ v. v < 256) (sym (bus_is edges events p1 p2 c s))
    (rows_low (column_rows keys (p1 % 16)) (nat_lt (p1 % 16) 12) (column_low keys (p1 % 16)))

-- a place of a list that a function makes
pub flags_at : (g : ℕ → Bool) (n p : ℕ) → p < n → slice_index_or (flags g n) p false ≡ g p
flags_at g zero p l = absurd (omega (arith, l))
flags_at g (suc n) zero l = refl
flags_at g (suc n) (suc p) l = flags_at (λ i. g (suc i)) n p (omega (arith, l))

-- whether a test holds of every list of so many Booleans
abbrev every_list : ℕ → (List Bool → Bool) → Bool
every_list zero p = p []
every_list (suc n) p = every_list n (λ t. p (true ∷ t)) && every_list n (λ t. p (false ∷ t))

-- then it holds of each that a function makes
at_list : (n : ℕ) (p : List Bool → Bool) → every_list n p ≡ true → (b : ℕ → Bool) → p (flags b n) ≡ true
at_list zero p h b = h
at_list (suc n) p h b =
    let down : Bool = every_list n (λ t. p (true ∷ t)) in
    let up : Bool = every_list n (λ t. p (false ∷ t)) in
    elim (b 0) as (λ v. p (v ∷ flags (λ i. b (suc i)) n) ≡ true) [
      | true ↦ at_list n (λ t. p (true ∷ t)) (and-left down up h) (λ i. b (suc i))
      | false ↦ at_list n (λ t. p (false ∷ t)) (and-right down up h) (λ i. b (suc i))
    ]

-- a byte of eight rows, each 0 where its key is down
abbrev rows_by : (ℕ → Bool) → ℕ
rows_by b =
    (if b 0 then 0 else 1) + (if b 1 then 0 else 2) + (if b 2 then 0 else 4) + (if b 3 then 0 else 8)
    + (if b 4 then 0 else 16) + (if b 5 then 0 else 32) + (if b 6 then 0 else 64) + (if b 7 then 0 else 128)

-- whether its complement has a 1 there
abbrev row_reported : List Bool → ℕ → Bool
row_reported xs r = same (bit r (255 - rows_by (λ i. slice_index_or xs i false))) (slice_index_or xs r false)

-- in each row
abbrev rows_reported : List Bool → Bool
rows_reported xs = every_below (row_reported xs) 8

-- so it is whatever keys are down
all_reported : every_list 8 rows_reported ≡ true
all_reported = refl

-- the complement of the rows has a 1 where a key is down
bit_of_rows : (b : ℕ → Bool) (r : ℕ) → r < 8 → bit r (255 - rows_by b) ≡ b r
bit_of_rows b r l =
    same_is (bit r (255 - rows_by b)) (slice_index_or (flags b 8) r false)
    (at_each (row_reported (flags b 8)) 8 (at_list 8 rows_reported all_reported b) r l)
    ∙ flags_at b 8 r l

-- and so has that of a column
column_bit : (keys : List Bool) (c r : ℕ) → r < 8
    → bit r (255 - column_rows keys c) ≡ slice_index_or keys (8 * c + r) false
column_bit keys c r l = bit_of_rows (λ i. slice_index_or keys (8 * c + i) false) r l

-- the made edges of a place, with one edge more at the head
made_one : (q : Edge → Bool) (p : ℕ) (e : Edge) (es : List Edge) → of_place p (filter q es) ≡ filter q (of_place p es)
    → (a : Bool) → q e ≡ a → (b : Bool) → (e.place == p) ≡ b
    → of_place p (filter q (e ∷ es)) ≡ filter q (of_place p (e ∷ es))
made_one q p e es rest true h true g =
    ap (λ v. of_place p v) (keep q e es h) ∙ keep (λ (x : Edge). x.place == p) e (filter q es) g ∙ ap (λ v. e ∷ v) rest
    ∙ sym (ap (λ v. filter q v) (keep (λ (x : Edge). x.place == p) e es g) ∙ keep q e (of_place p es) h)
made_one q p e es rest true h false g =
    ap (λ v. of_place p v) (keep q e es h) ∙ skip (λ (x : Edge). x.place == p) e (filter q es) g ∙ rest
    ∙ sym (ap (λ v. filter q v) (skip (λ (x : Edge). x.place == p) e es g))
made_one q p e es rest false h true g =
    ap (λ v. of_place p v) (skip q e es h) ∙ rest
    ∙ sym (ap (λ v. filter q v) (keep (λ (x : Edge). x.place == p) e es g) ∙ skip q e (of_place p es) h)
made_one q p e es rest false h false g =
    ap (λ v. of_place p v) (skip q e es h) ∙ rest
    ∙ sym (ap (λ v. filter q v) (skip (λ (x : Edge). x.place == p) e es g))

-- the edges of a place that are made are the made edges of the place
made_there : (q : Edge → Bool) (p : ℕ) (es : List Edge) → of_place p (filter q es) ≡ filter q (of_place p es)
made_there q p [] = refl
made_there q p (e ∷ es) = made_one q p e es (made_there q p es) (q e) refl (e.place == p) refl

-- an edge is made at a cycle where its stamp is reached, 4,096 cycles earlier
made_by : (e stamp cycle : ℕ) → cycle ≡ 4096 + stamp → (b : Bool) → nat_le e stamp ≡ b
    → nat_le (e + 4096) cycle ≡ nat_le e stamp
made_by e stamp cycle at true h =
    let l : e ≤ stamp = grind (arith, nat_tests, h) in
    let m : e + 4096 ≤ cycle = omega (arith, l, at) in
    let t : nat_le (e + 4096) cycle ≡ true = grind (arith, nat_tests, m) in t ∙ sym h
made_by e stamp cycle at false h =
    let l : stamp < e = grind (arith, nat_tests, h) in
    let m : cycle < e + 4096 = omega (arith, l, at) in
    let t : nat_le (e + 4096) cycle ≡ false = grind (arith, nat_tests, m) in t ∙ sym h

-- the keys on the board are down as the history says
key_down : (edges : List Edge) (stamp cycle p : ℕ) → cycle ≡ 4096 + stamp → p < 96
    → slice_index_or (keys_at edges cycle) p false ≡ is_down edges p stamp
key_down edges stamp cycle p at l =
    let made : List Edge = filter (is_made cycle) edges in
    shown_from made all_up p refl l ∙ ap (λ b. last_of b (of_place p made)) (edges_shown [] tt p l)
    ∙ ap (λ v. last_of false v) (made_there (is_made cycle) p edges)
    ∙ ap (λ v. last_of false v)
    (filter_same p (is_made cycle) (λ (e : Edge). nat_le e.stamp stamp)
    (λ (e : Edge) h. made_by e.stamp stamp cycle at (nat_le e.stamp stamp) refl) (of_place p edges) (are_at p edges))

-- port 1 selects the column that is read
rows_read : (keys : List Bool) (c : ℕ) → c < 12 → rows_of keys (32 + c) ≡ column_rows keys c
rows_read keys c l =
    let low : (32 + c) % 16 ≡ c = omega (arith, l) in
    let one : nat_lt c 12 ≡ true = grind (arith, nat_tests, l) in
    ap (λ n. if nat_lt n 12 then column_rows keys n else 255) low ∙ ap (λ b. if b then column_rows keys c else 255) one

-- a column's byte has a 1 for each key that is down
pub down_read : (edges : List Edge) (events : List HostEvent) (w : World Beside) → 4096 ≤ w.cycle
    → (c r : ℕ) → c < 12 → r < 8
    → bit r (column_read (joint_board edges events) w c) ≡ columns_in edges w.cycle (8 * c + r)
down_read edges events w late c r lc lr =
    let d : Board = joint_board edges events in
    let cycle : ℕ = w.cycle + (16 + 16 * c) in
    let board : Beside = in_tick d w (16 + 16 * c) in
    let column : (8 * c + r) / 8 ≡ c = omega (arith, lr) in
    let at : cycle ≡ 4096 + (w.cycle - 4096 + 16 + 16 * c) = omega (arith, late) in
    let p : 8 * c + r < 96 = omega (arith, lc, lr) in
    ap (λ n. bit r (255 - n)) (bus_is edges events (32 + c) w.cpu.p2 cycle board ∙ rows_read (keys_at edges cycle) c lc)
    ∙ column_bit (keys_at edges cycle) c r lr
    ∙ key_down edges (w.cycle - 4096 + 16 + 16 * c) cycle (8 * c + r) at p
    ∙ ap (λ n. is_down edges (8 * c + r) (w.cycle - 4096 + 16 + 16 * n)) (sym column)

-- and a byte a column has a 1 for each key of the places that it says
bytes_read : (bytes : ℕ → ℕ) (c r : ℕ) → c < 12 → r < 8 → bit r (bytes c) ≡ is_down_at (held_by bytes) (8 * c + r)
bytes_read bytes c r lc lr =
    let row : (8 * c + r) % 8 ≡ r = omega (arith, lr) in
    let column : (8 * c + r) / 8 ≡ c = omega (arith, lr) in
    ap (λ n. bit n (bytes c)) (sym row) ∙ ap (λ n. bit ((8 * c + r) % 8) (bytes n)) (sym column)
    ∙ sym (flags_at (down_at bytes) 96 (8 * c + r) (omega (arith, lc, lr)))

-- a bit of an exclusive or is 1 where two bits differ
bit_differs : (r a b : ℕ) → bit r (bit_xor a b) ≡ differ (bit r a) (bit r b)
bit_differs r a b =
    ap (λ v. v == 1) (bit_at_xor a b r)
    ∙ pair_tests 2 2 (λ x y. (x + y) % 2 == 1) (λ x y. differ (x == 1) (y == 1)) refl (a / 2 ^ r % 2) (b / 2 ^ r % 2)
    (omega arith) (omega arith)

-- and one of both bytes is 1 where it is in both
bit_both : (r a b : ℕ) → bit r (bit_and a b) ≡ (bit r a && bit r b)
bit_both r a b =
    ap (λ v. v == 1) (bit_at_and a b r)
    ∙ pair_tests 2 2 (λ x y. min x y == 1) (λ x y. (x == 1) && (y == 1)) refl (a / 2 ^ r % 2) (b / 2 ^ r % 2)
    (omega arith) (omega arith)

-- a key that isn't as it was held is a change
change_is : (p : ℕ) (held now : Bool) (rest : List (ℕ × Bool))
    → (if differ held now then (p, now) ∷ rest else rest) ≡ change_at p held now ++ rest
change_is p true true rest = refl
change_is p true false rest = refl
change_is p false true rest = refl
change_is p false false rest = refl

module _ (held now : ℕ → Bool) (changed new : ℕ → ℕ)
    (changed_is : (c r : ℕ) → c < 12 → r < 8 → bit r (changed c) ≡ differ (held (8 * c + r)) (now (8 * c + r)))
    (now_is : (c r : ℕ) → c < 12 → r < 8 → bit r (changed c) ≡ true → bit r (new c) ≡ now (8 * c + r)) where
  -- a row
  row_shown : (c r : ℕ) (rest : List (ℕ × Bool)) → c < 12 → r < 8
      → (if bit r (changed c) then (8 * c + r, bit r (new c)) ∷ rest else rest) ≡ shown_at held now (8 * c + r) ++ rest
  row_shown c r rest lc lr = by (bit r (changed c)) refl
    where
      p : ℕ
      p = 8 * c + r

      by : (b : Bool) → bit r (changed c) ≡ b
          → (if bit r (changed c) then (8 * c + r, bit r (new c)) ∷ rest else rest) ≡ shown_at held now (8 * c + r) ++ rest
      by true e =
          ap (λ b. if b then (p, bit r (new c)) ∷ rest else rest) e
          ∙ ap (λ v. (p, v) ∷ rest) (now_is c r lc lr e)
          ∙ ap (λ b. if b then (p, now p) ∷ rest else rest) (sym e ∙ changed_is c r lc lr)
          ∙ change_is p (held p) (now p) rest
      by false e =
          ap (λ b. if b then (p, bit r (new c)) ∷ rest else rest) e
          ∙ ap (λ b. if b then (p, now p) ∷ rest else rest) (sym e ∙ changed_is c r lc lr)
          ∙ change_is p (held p) (now p) rest

  -- the rows of a column, after what the places below show
  rows_shown : (c r n : ℕ) → c < 12 → r + n ≡ 8
      → by_place (shown_at held now) (8 * c + r) ++ row_edges (8 * c) r n (changed c) (new c)
      ≡ by_place (shown_at held now) (8 * c + 8)
  rows_shown c r zero lc sum =
      let all : 8 * c + r ≡ 8 * c + 8 = omega (arith, sum) in
      append-nil (by_place (shown_at held now) (8 * c + r)) ∙ ap (λ k. by_place (shown_at held now) k) all
  rows_shown c r (suc n) lc sum =
      let f : ℕ → List (ℕ × Bool) = shown_at held now in
      let rest : List (ℕ × Bool) = row_edges (8 * c) (suc r) n (changed c) (new c) in
      let next : suc (8 * c + r) ≡ 8 * c + suc r = omega arith in
      ap (λ v. by_place f (8 * c + r) ++ v) (row_shown c r rest lc (omega (arith, sum)))
      ∙ sym (append_assoc (by_place f (8 * c + r)) (f (8 * c + r)) rest)
      ∙ ap (λ k. by_place f k ++ rest) next
      ∙ rows_shown c (suc r) n lc (omega (arith, sum))

  -- and the columns
  columns_shown : (c n : ℕ) → c + n ≡ 12
      → by_place (shown_at held now) (8 * c) ++ column_edges c n changed new ≡ shown held now
  columns_shown c zero sum =
      let all : 8 * c ≡ 96 = omega (arith, sum) in
      append-nil (by_place (shown_at held now) (8 * c)) ∙ ap (λ k. by_place (shown_at held now) k) all
  columns_shown c (suc n) sum =
      let f : ℕ → List (ℕ × Bool) = shown_at held now in
      let rows : List (ℕ × Bool) = row_edges (8 * c) 0 8 (changed c) (new c) in
      let rest : List (ℕ × Bool) = column_edges (suc c) n changed new in
      let first : 8 * c ≡ 8 * c + 0 = omega arith in
      let next : 8 * c + 8 ≡ 8 * suc c = omega arith in
      sym (append_assoc (by_place f (8 * c)) rows rest)
      ∙ ap (λ k. (by_place f k ++ rows) ++ rest) first
      ∙ ap (λ v. v ++ rest) (rows_shown c 0 8 (omega (arith, sum)) refl)
      ∙ ap (λ k. by_place f k ++ rest) next
      ∙ columns_shown (suc c) n (omega (arith, sum))

  -- the edges that two bytes a column tell are those that the columns show
  pub bytes_shown : tick_edges changed new ≡ shown held now
  bytes_shown = columns_shown 0 12 refl

-- a key that settles otherwise than held is one of which both readings say so, where what is pending differs from it
settle_differs : (held pending now : Bool)
    → (differ held now && pending) ≡ differ held (settles held (differ held pending) now)
settle_differs true true true = refl
settle_differs true true false = refl
settle_differs true false true = refl
settle_differs true false false = refl
settle_differs false true true = refl
settle_differs false true false = refl
settle_differs false false true = refl
settle_differs false false false = refl

settle_as_now : (held pending now : Bool) → (differ held now && pending) ≡ true
    → now ≡ settles held (differ held pending) now
settle_as_now true true true h = absurd cc
settle_as_now true true false h = refl
settle_as_now true false true h = absurd cc
settle_as_now true false false h = absurd cc
settle_as_now false true true h = refl
settle_as_now false true false h = absurd cc
settle_as_now false false true h = absurd cc
settle_as_now false false false h = absurd cc

-- the edges of a tick are those that the model's keyboard takes of what the columns show
module _ (d : Board) (w : World d.State) (now : ℕ → Bool)
    (now_is : (c r : ℕ) → c < 12 → r < 8 → bit r (column_read d w c) ≡ now (8 * c + r)) (s : Switches) where
  abbrev ram : List ℕ
  ram = w.cpu.ram

  abbrev seen : List (ℕ × Bool)
  seen = shown (is_down_at s.read) now

  module _ (settled : (shown_by ram).held ≡ s.settled) where
    held_is : (c r : ℕ) → c < 12 → r < 8 → bit r (slice_index ram (HELD + c)) ≡ is_down_at s.settled (8 * c + r)
    held_is c r lc lr =
        bytes_read (λ i. slice_index ram (HELD + i)) c r lc lr ∙ ap (λ h. is_down_at h (8 * c + r)) settled

    differs : (c r : ℕ) → c < 12 → r < 8
        → bit r (differing_now d w c) ≡ differ (is_down_at s.settled (8 * c + r)) (now (8 * c + r))
    differs c r lc lr =
        bit_differs r (slice_index ram (HELD + c)) (column_read d w c)
        ∙ ap (λ b. differ b (bit r (column_read d w c))) (held_is c r lc lr)
        ∙ ap (λ b. differ (is_down_at s.settled (8 * c + r)) b) (now_is c r lc lr)

    by_edges : (b : Bool) → read_of b (cells_in ram) ≡ s.read → length s.read ≡ 96
        → tick_edges (λ c. changed_by b (slice_index ram (PENDING + c)) (differing_now d w c)) (column_read d w)
        ≡ taken b seen s
    by_edges false read long =
        let same : s.settled ≡ s.read =
        sym settled ∙ held_same (λ c. slice_index ram (HELD + c)) (read_cell false (cells_in ram)) (λ c l. refl)
        ∙ read in
        bytes_shown (is_down_at s.settled) now (differing_now d w) (column_read d w) differs
        (λ c r lc lr e. now_is c r lc lr)
        ∙ ap (λ h. shown (is_down_at h) now) same
    by_edges true read long =
        bytes_shown (is_down_at s.settled)
        (λ p. settles (is_down_at s.settled p) (is_down_at s.read p) (is_down_at (turned_all seen s.read) p))
        (λ c. bit_and (differing_now d w c) (slice_index ram (PENDING + c))) (column_read d w)
        (λ c r lc lr. both_is c r lc lr
        ∙ settle_differs (is_down_at s.settled (8 * c + r)) (pends c r) (now (8 * c + r))
        ∙ ap (λ v. differ (is_down_at s.settled (8 * c + r)) v) (settles_is c r lc lr))
        (λ c r lc lr e. now_is c r lc lr
        ∙ settle_as_now (is_down_at s.settled (8 * c + r)) (pends c r) (now (8 * c + r)) (sym (both_is c r lc lr) ∙ e)
        ∙ settles_is c r lc lr)
      where
        pends : ℕ → ℕ → Bool
        pends c r = bit r (slice_index ram (PENDING + c))

        both_is : (c r : ℕ) → c < 12 → r < 8
            → bit r (bit_and (differing_now d w c) (slice_index ram (PENDING + c)))
            ≡ (differ (is_down_at s.settled (8 * c + r)) (now (8 * c + r)) && pends c r)
        both_is c r lc lr =
            bit_both r (differing_now d w c) (slice_index ram (PENDING + c))
            ∙ ap (λ b. b && bit r (slice_index ram (PENDING + c))) (differs c r lc lr)

        read_is : (c r : ℕ) → c < 12 → r < 8
            → differ (is_down_at s.settled (8 * c + r)) (pends c r) ≡ is_down_at s.read (8 * c + r)
        read_is c r lc lr =
            sym (bit_differs r (slice_index ram (HELD + c)) (slice_index ram (PENDING + c))
            ∙ ap (λ b. differ b (bit r (slice_index ram (PENDING + c)))) (held_is c r lc lr))
            ∙ bytes_read (read_cell true (cells_in ram)) c r lc lr ∙ ap (λ h. is_down_at h (8 * c + r)) read

        settles_is : (c r : ℕ) → c < 12 → r < 8
            → settles (is_down_at s.settled (8 * c + r)) (differ (is_down_at s.settled (8 * c + r)) (pends c r)) (now (8 * c + r))
            ≡ settles (is_down_at s.settled (8 * c + r)) (is_down_at s.read (8 * c + r))
            (is_down_at (turned_all seen s.read) (8 * c + r))
        settles_is c r lc lr =
            ap (λ b. settles (is_down_at s.settled (8 * c + r)) b (now (8 * c + r))) (read_is c r lc lr)
            ∙ ap (λ b. settles (is_down_at s.settled (8 * c + r)) (is_down_at s.read (8 * c + r)) b)
            (sym (turned_shown s.read now (8 * c + r) long (omega (arith, lc, lr))))

    -- the edges that a tick takes are those that the model takes of what the columns show
    pub edges_taken : (bytes : List ℕ) (debounce : Bool) → debounces bytes ≡ debounce → read_by bytes ram ≡ s.read
        → length s.read ≡ 96 → edges_now bytes d w ≡ taken debounce seen s
    edges_taken bytes debounce flag read long =
        by_edges (debounces bytes) read long ∙ ap (λ b. taken b seen s) flag

-- so it is of the joint board in a tick that starts at stamp 0 or later
pub board_edges : (edges : List Edge) (events : List HostEvent) (w : World Beside) → 4096 ≤ w.cycle → (s : Switches)
    → (shown_by w.cpu.ram).held ≡ s.settled → (bytes : List ℕ) (debounce : Bool) → debounces bytes ≡ debounce
    → read_by bytes w.cpu.ram ≡ s.read → length s.read ≡ 96
    → edges_now bytes (joint_board edges events) w
    ≡ taken debounce (shown (is_down_at s.read) (columns_in edges w.cycle)) s
board_edges edges events w late s settled bytes debounce flag read long =
    edges_taken (joint_board edges events) w (columns_in edges w.cycle) (down_read edges events w late) s settled bytes debounce
    flag read long
