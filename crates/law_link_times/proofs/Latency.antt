-- With a quiet host the code of an edge waits after what was there, and is read a tick a byte.
use Rattle.std.proofs.Common.{◌≡◌, ℕ, suc, zero, ◌+◌, ◌-◌, ◌*◌, ◌/◌, ◌≤◌, ◌<◌, List, [], ◌∷◌, ◌++◌, length, Bool, true, false, not}
use Rattle.std.proofs.Common.{◌&&◌, ◌||◌, ◌==◌, Some, refl, ap, sym, ◌∙◌, subst, arith, append_assoc, append-nil}
use Rattle.std.specs.Prelude.{if◌then◌else◌, nat_le, nat_lt, slice_get, slice_index_or}
use Rattle.std.proofs.lemmas.Bool.Decides.{nat_tests}
use Rattle.std.proofs.lemmas.Bool.{eqb-true}
use Rattle.bits.proofs.Every.{and-left, and-right}
use Rattle.board_terms.specs.Cadence.{KeepsCadenceTo}
use Rattle.board_terms.specs.declared.event.Edge.{Edge}
use Rattle.model_controller.specs.declared.meeting.Meeting.{Meeting}
use Rattle.model_controller.specs.declared.meeting.Meeting.TheVariants.{Got, Inhibited, Idle, Sent, Cut}
use Rattle.model_keyboard.specs.Codes.{Keys, keys_of}
use Rattle.model_keyboard.specs.Keyboard.{Keyboard}
use Rattle.model_keyboard.specs.Laws.{Enters, let_in}
use Rattle.model_keyboard.specs.Once.{byte_if, is_reset_due, waiting}
use Rattle.model_keyboard.specs.Queue.{KeyQueue, enter}
use Rattle.model_keyboard.specs.Tick.{is_inhibited, is_ready, is_scanning}
use Rattle.model_keyboard.specs.declared.edge.TickEdge.{TickEdge}
use Rattle.key_file.specs.Histories.{KeyHistory}
use Rattle.layout_reader.specs.Layouts.{KeyLayout}
use Rattle.model_link.specs.Machine.{met_as}
use Rattle.model_link.specs.TickEdges.{is_seen, none_before, read_at}
use Rattle.law_quiet_log.specs.Once.{meeting_at}
use Rattle.law_link_times.specs.Coming.{added, code_of, codes_at, codes_of, edges_at, first_at, keyboard_at, queue_left}
use Rattle.law_link_times.specs.Coming.{repeat_code, repeats_still, rest_at, test_left, tick_codes, overrun_mark}
use Rattle.law_link_times.specs.Flowing.{IsHostQuiet, IsQuietFrom}
use Rattle.law_link_times.specs.Latency.{ComesInTime, IsListedAt, Strikes, read_stamp, settling}
use Rattle.law_link_times.proofs.Entering.{entered}
use Rattle.law_link_times.proofs.Flowing.{get_more}
use Rattle.law_link_times.proofs.QuietFlow.{byte_a_tick}
use Rattle.law_link_times.proofs.Reading.{read_from}
use Rattle.law_link_times.proofs.Resting.{quiet_from_start}
use Rattle.law_link_times.proofs.Twice.{comes_at, comes_exactly}

-- an overrun stays
enters_full : (code : List ℕ) (q : KeyQueue) → (q.overrun || nat_lt 16 (length q.bytes + length code)) ≡ true
    → (enter code q).overrun ≡ true
enters_full code q e =
    ap (λ c. (if c then record q { overrun = true } else record q { bytes = q.bytes ++ code }).overrun) e

stays_full : (codes : List (List ℕ)) (q : KeyQueue) → q.overrun ≡ true → (entered codes q).overrun ≡ true
stays_full [] q e = e
stays_full (code ∷ codes) q e =
    stays_full codes (enter code q)
    (enters_full code q (ap (λ c. c || nat_lt 16 (length q.bytes + length code)) e))

-- so where none is there at the end each code had room
had_room : (code : List ℕ) (codes : List (List ℕ)) (q : KeyQueue) → (entered codes (enter code q)).overrun ≡ false
    → (q.overrun || nat_lt 16 (length q.bytes + length code)) ≡ false
had_room code codes q e =
    elim (q.overrun || nat_lt 16 (length q.bytes + length code)) as (λ c.
    (q.overrun || nat_lt 16 (length q.bytes + length code)) ≡ c → c ≡ false) [
      | true ↦ λ h. sym (stays_full codes (enter code q) (enters_full code q h)) ∙ e
      | false ↦ λ h. refl
    ] refl

none_reported : (overrun full : Bool) → (overrun || full) ≡ false → byte_if (not overrun && full) 0x00 ≡ []
none_reported true full e = absurd cc
none_reported false true e = absurd cc
none_reported false false e = refl

let_in_whole : (code : List ℕ) (q : KeyQueue) → (q.overrun || nat_lt 16 (length q.bytes + length code)) ≡ false
    → let_in (Enters code) q ++ overrun_mark code q ≡ code
let_in_whole code q e =
    ap (λ c. (if c then [] else code) ++ overrun_mark code q) e
    ∙ ap (λ v. code ++ v) (none_reported q.overrun (nat_lt 16 (length q.bytes + length code)) e) ∙ append-nil code

-- a code among others adds itself, after what those before it add
added_among : (before afterwards : List (List ℕ)) (code : List ℕ) (q : KeyQueue)
    → (entered (before ++ code ∷ afterwards) q).overrun ≡ false
    → added (before ++ code ∷ afterwards) q
    ≡ added before q ++ (code ++ added afterwards (enter code (entered before q)))
added_among [] afterwards code q e =
    ap (λ v. v ++ added afterwards (enter code q)) (let_in_whole code q (had_room code afterwards q e))
added_among (c ∷ before) afterwards code q e =
    ap (λ v. (let_in (Enters c) q ++ overrun_mark c q) ++ v) (added_among before afterwards code (enter c q) e)
    ∙ sym (append_assoc (let_in (Enters c) q ++ overrun_mark c q) (added before (enter c q))
    (code ++ added afterwards (enter code (entered before (enter c q)))))

-- the codes of edges in two parts
codes_more : (keys : Keys) (xs ys : List TickEdge) → codes_of keys (xs ++ ys) ≡ codes_of keys xs ++ codes_of keys ys
codes_more keys [] ys = refl
codes_more keys (x ∷ xs) ys =
    ap (λ v. code_of keys x ++ v) (codes_more keys xs ys)
    ∙ sym (append_assoc (code_of keys x) (codes_of keys xs) (codes_of keys ys))

-- a list about one of its elements
record Parts (edges : List TickEdge) (edge : TickEdge) : Type 0 where
  before : List TickEdge
  afterwards : List TickEdge
  is : edges ≡ before ++ edge ∷ afterwards

parts_at : (edges : List TickEdge) (edge : TickEdge) (k : ℕ) → k < length edges → slice_index_or edges k edge ≡ edge
    → Parts edges edge
parts_at [] edge k l e = absurd (omega (arith, l))
parts_at (x ∷ xs) edge zero l e = record { before = []; afterwards = xs; is = ap (λ v. v ∷ xs) e }
parts_at (x ∷ xs) edge (suc k) l e =
    let p = parts_at xs edge k (omega (arith, l)) e in
    record { before = x ∷ p.before; afterwards = p.afterwards; is = ap (λ v. x ∷ v) p.is }

-- what is after others
get_after : (xs ys : List ℕ) (i x : ℕ) → slice_get ys i ≡ Some x → slice_get (xs ++ ys) (i + length xs) ≡ Some x
get_after [] ys i x e = let z : i ≡ i + 0 = omega arith in subst (λ k. slice_get ys k ≡ Some x) z e
get_after (y ∷ xs) ys i x e =
    let z : suc (i + length xs) ≡ i + length (y ∷ xs) = omega arith in
    subst (λ k. slice_get (y ∷ (xs ++ ys)) k ≡ Some x) z (get_after xs ys i x e)

-- scanning is off as long as the test runs
tested : (k : Keyboard) → is_scanning k ≡ true → k.test ≡ 0
tested k e = eqb-true k.test 0 (last_of (k.enabled) (is_ready k.mode) (k.test == 0) e)
  where
    last_of : (a b c : Bool) → (a && b && c) ≡ true → c ≡ true
    last_of true true c h = h
    last_of true false c h = absurd cc
    last_of false b c h = absurd cc

module _ (layout : KeyLayout) (history : KeyHistory) (starts : ℕ → ℕ) (n : ℕ) (edge : Edge) (code : List ℕ)
    (struck : Strikes layout history starts n edge code) where
  abbrev keys : Keys
  keys = keys_of layout

  abbrev on_tick : TickEdge
  on_tick = record { place = edge.place; down = edge.down; on_fn = struck.on_fn }

  parts : Parts (edges_at layout history starts n) on_tick
  parts =
      let c = struck.among in
      parts_at (edges_at layout history starts n) on_tick c.0 c.1 c.2

  -- the codes before its own in the tick
  before : List (List ℕ)
  before =
      repeat_code keys (is_inhibited (met_as (meeting_at layout history starts n)))
      (repeats_still (meeting_at layout history starts n) (keyboard_at layout history starts n))
      ++ codes_of keys parts.before

  afterwards : List (List ℕ)
  afterwards = codes_of keys parts.afterwards

  codes_are : codes_at layout history starts n ≡ before ++ code ∷ afterwards
  unfolding before afterwards
  codes_are =
      let m : Meeting = meeting_at layout history starts n in
      let k : Keyboard = keyboard_at layout history starts n in
      let repeat : List (List ℕ) = repeat_code keys (is_inhibited (met_as m)) (repeats_still m k) in
      ap (λ c. tick_codes keys m (edges_at layout history starts n) k c) struck.scanning
      ∙ ap (λ v. repeat ++ codes_of keys v) parts.is
      ∙ ap (λ v. repeat ++ v) (codes_more keys parts.before (on_tick ∷ parts.afterwards))
      ∙ ap (λ v. repeat ++ (codes_of keys parts.before ++ (v ++ codes_of keys parts.afterwards))) struck.sends
      ∙ sym (append_assoc repeat (codes_of keys parts.before) (code ∷ codes_of keys parts.afterwards))

  abbrev queue : KeyQueue
  queue = queue_left (meeting_at layout history starts n) (keyboard_at layout history starts n)

  room : (entered (before ++ code ∷ afterwards) queue).overrun ≡ false
  room =
      ap (λ v. (entered v queue).overrun) (sym codes_are)
      ∙ ap (λ (q : KeyQueue). q.overrun) (sym (comes_at layout history starts n).queue) ∙ struck.room

  -- what is before it where the next tick starts
  pub ahead : List ℕ
  ahead = first_at layout history starts n ++ (rest_at layout history starts n ++ added before queue)

  rest : List ℕ
  rest = added afterwards (enter code (entered before queue))

  in_its_place : waiting (keyboard_at layout history starts (suc n)) ≡ ahead ++ (code ++ rest)
  unfolding ahead rest
  in_its_place =
      let first : List ℕ = first_at layout history starts n in
      let waits : List ℕ = rest_at layout history starts n in
      let all : List ℕ = added before queue in
      let more : List ℕ = code ++ added afterwards (enter code (entered before queue)) in
      (comes_exactly layout history starts n).waits
      ∙ ap (λ v. first ++ (waits ++ added v queue)) codes_are
      ∙ ap (λ v. first ++ (waits ++ v)) (added_among before afterwards code queue room)
      ∙ ap (λ v. first ++ v) (sym (append_assoc waits all more))
      ∙ sym (append_assoc first (waits ++ all) more)

  -- the code of an edge waits after what was there before
  pub comes_after : IsListedAt (length ahead) code (waiting (keyboard_at layout history starts (suc n)))
  comes_after = record { before = ahead; afterwards = rest; is = in_its_place; number = refl }

-- the test's ticks are counted one by one
test_goes_on : (m : Meeting) (k : Keyboard) → 1 < k.test → 0 < test_left m k
test_goes_on (Got byte) k l = omega (arith, l)
test_goes_on Inhibited k l = omega (arith, l)
test_goes_on Idle k l = omega (arith, l)
test_goes_on (Sent byte) k l =
    elim (is_reset_due k.reply) as (λ b. 0 < (if b then 64 else k.test - 1)) [ true ↦ omega arith | false ↦ omega (arith, l) ]
test_goes_on Cut k l = omega (arith, l)

-- in tick 0 scanning is off
first_test : (layout : KeyLayout) (history : KeyHistory) (starts : ℕ → ℕ) (m : Meeting)
    → test_left m (keyboard_at layout history starts 0) ≡ 63
first_test layout history starts (Got byte) = refl
first_test layout history starts Inhibited = refl
first_test layout history starts Idle = refl
first_test layout history starts (Sent byte) = refl
first_test layout history starts Cut = refl

-- and in tick 1
still_tests : (layout : KeyLayout) (history : KeyHistory) (starts : ℕ → ℕ) (n : ℕ) → n < 2
    → 0 < (keyboard_at layout history starts (suc n)).test
still_tests layout history starts zero l =
    let f : (keyboard_at layout history starts 1).test ≡ 63 =
    (comes_exactly layout history starts 0).test
    ∙ first_test layout history starts (meeting_at layout history starts 0) in
    omega (arith, f)
still_tests layout history starts (suc zero) l =
    let f : (keyboard_at layout history starts 1).test ≡ 63 =
    (comes_exactly layout history starts 0).test
    ∙ first_test layout history starts (meeting_at layout history starts 0) in
    let g : 0 < test_left (meeting_at layout history starts 1) (keyboard_at layout history starts 1) =
    test_goes_on (meeting_at layout history starts 1) (keyboard_at layout history starts 1) (omega (arith, f)) in
    let h = (comes_exactly layout history starts 1).test in
    omega (arith, g, h)
still_tests layout history starts (suc (suc n)) l = absurd (omega (arith, l))

settling_one : (layout : KeyLayout) → settling layout ≤ 1
settling_one layout = elim layout.debounce as (λ b. (if b then 1 else 0) ≤ 1) [ true ↦ omega arith | false ↦ omega arith ]

-- the edge came after the read of its column in the tick before
seen_late : (starts : ℕ → ℕ) (m : ℕ) (edge : Edge) → is_seen starts (suc m) edge ≡ true
    → read_at starts edge.place m < edge.stamp
seen_late starts m edge e =
    let p : ℕ → Bool = λ j. nat_le edge.stamp (read_at starts edge.place j) in
    let a : (not (p m) && none_before p m) ≡ true = and-right (p (suc m)) (not (p m) && none_before p m) e in
    let b : not (p m) ≡ true = and-left (not (p m)) (none_before p m) a in
    let c : nat_le edge.stamp (read_at starts edge.place m) ≡ false = off (p m) b in
    grind (arith, nat_tests, c)
  where
    off : (c : Bool) → not c ≡ true → c ≡ false
    off true h = absurd cc
    off false h = refl

module _ (layout : KeyLayout) (history : KeyHistory) (starts : ℕ → ℕ) (last first : ℕ) (edge : Edge) (code : List ℕ)
    (quiet : IsQuietFrom layout history starts first) (cadence : KeepsCadenceTo starts last) where
  -- its bytes, each in its tick
  in_tick : (n place i byte : ℕ) → first ≤ n → n < last → Strikes layout history starts n edge code
      → IsListedAt place code (waiting (keyboard_at layout history starts (suc n))) → slice_get code i ≡ Some byte
      → i + place + suc n < last → meeting_at layout history starts (i + place + suc n) ≡ Sent byte
  in_tick n place i byte f l struck s e u =
      let t : (keyboard_at layout history starts (suc n)).test ≡ 0 =
      tested (keyboard_at layout history starts (suc n)) struck.scanning in
      let g : slice_get (s.before ++ (code ++ s.afterwards)) (i + length s.before) ≡ Some byte =
      get_after s.before (code ++ s.afterwards) i byte (get_more code s.afterwards i byte e) in
      let h : slice_get (waiting (keyboard_at layout history starts (suc n))) (i + place) ≡ Some byte =
      ap (λ v. slice_get v (i + place)) s.is
      ∙ subst (λ k. slice_get (s.before ++ (code ++ s.afterwards)) (i + k) ≡ Some byte) s.number g in
      byte_a_tick layout history starts last first quiet cadence (suc n) (i + place) byte (omega (arith, f))
      (omega (arith, u)) t h

  -- and in time
  soon_at : (n place i late : ℕ) → Strikes layout history starts n edge code → i + place + suc n ≤ last
      → starts (i + place + suc n) ≤ 2048 * (i + place + suc n) + late
      → read_stamp starts (i + place + suc n) + 16 * (edge.place / 8)
      ≤ edge.stamp + 2 * 2048 + 655 + late + 2048 * (i + place + settling layout)
  soon_at n place i late struck u hi = by struck.reading struck.seen struck.taken
    where
      by : (r : ℕ) → is_seen starts r edge ≡ true → n ≡ r + settling layout
          → read_stamp starts (i + place + suc n) + 16 * (edge.place / 8)
          ≤ edge.stamp + 2 * 2048 + 655 + late + 2048 * (i + place + settling layout)
      by zero seen now =
          let one : settling layout ≤ 1 = settling_one layout in
          let t : (keyboard_at layout history starts (suc n)).test ≡ 0 =
          tested (keyboard_at layout history starts (suc n)) struck.scanning in
          let f : 0 < (keyboard_at layout history starts (suc n)).test =
          still_tests layout history starts n (omega (arith, now, one)) in
          absurd (omega (arith, t, f))
      by (suc m) seen now =
          let afterwards : starts m + 16 + 16 * (edge.place / 8) < edge.stamp = seen_late starts m edge seen in
          let lo : 2048 * m ≤ starts m = (cadence m (omega (arith, u, now))).least in
          omega (arith, afterwards, lo, hi, now)

  -- with a host that is quiet from some tick on a key's code is read within the bound
  pub in_time : (n : ℕ) → first ≤ n → n < last → Strikes layout history starts n edge code
      → ComesInTime layout history starts last n edge code
  in_time n f l struck =
      let s = comes_after layout history starts n edge code struck in
      let place : ℕ = length s.before in
      let at : IsListedAt place code (waiting (keyboard_at layout history starts (suc n))) =
      record { before = s.before; afterwards = s.afterwards; is = s.is; number = refl } in
      record {
        place = place;
        in_its_place = at;
        reads = λ i byte e u.
            read_from layout history starts first last (i + place + suc n) byte quiet cadence (omega (arith, f)) u
            (in_tick n place i byte f l struck at e u);
        prompt = λ i u hi. let k = soon_at n place i 1 struck u hi in omega (arith, k);
        soon = λ i u.
            let k = soon_at n place i 5 struck u (cadence (i + place + suc n) u).most in omega (arith, k);
      }

-- with a quiet host a key's code is read within two ticks and 660 cycles, and a tick more for a debounce and for each
-- byte before
pub keys_come_in_time : (layout : KeyLayout) (history : KeyHistory) (starts : ℕ → ℕ) (last n : ℕ) (edge : Edge)
    (code : List ℕ) → IsHostQuiet history → KeepsCadenceTo starts last → n < last
    → Strikes layout history starts n edge code → ComesInTime layout history starts last n edge code
keys_come_in_time layout history starts last n edge code quiet cadence l struck =
    in_time layout history starts last 0 edge code (quiet_from_start layout history starts quiet) cadence n (omega arith)
    l struck

-- from a tick on
pub keys_come_in_time_from : (layout : KeyLayout) (history : KeyHistory) (starts : ℕ → ℕ) (first last n : ℕ)
    (edge : Edge) (code : List ℕ) → IsQuietFrom layout history starts first → KeepsCadenceTo starts last → first ≤ n
    → n < last → Strikes layout history starts n edge code → ComesInTime layout history starts last n edge code
keys_come_in_time_from layout history starts first last n edge code quiet cadence f l struck =
    in_time layout history starts last first edge code quiet cadence n f l struck
