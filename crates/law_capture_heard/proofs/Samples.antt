-- The samples of a trace, read again.
use Rattle.std.proofs.Common.{◌≡◌, ◌≤◌, ◌<◌, ℕ, zero, suc, ◌*◌, Bool, true, false, List, [], ◌∷◌, ◌++◌}
use Rattle.std.proofs.Common.{None, Some, refl, ap, sym, ◌∙◌, append_assoc, arith}
use Rattle.std.proofs.lemmas.List.{append-nil}
use Rattle.std.specs.Prelude.{if◌then◌else◌}
use Rattle.std.specs.declared.option.Option.{Option}
use Rattle.board_terms.specs.declared.transfer.Transfer.{Transfer}
use Rattle.run_probes.specs.Transfers.{Ear, completed, wires_at}
use Rattle.board_terms.specs.declared.lines.Lines.{Lines}
use Rattle.joint_feed.specs.Stories.{Story, state_at}
use Rattle.joint_run.specs.Joint.{Beside}
use Rattle.joint_run.specs.Run.{World}
use Rattle.capture_vcd.specs.declared.fault.VcdFault.{VcdFault}
use Rattle.capture_vcd.specs.declared.state.Sample.{Sample as Captured}
use Rattle.capture_vcd.specs.Levels.{both_high, due}
use Rattle.capture_vcd.specs.Reads.{Reads, after_sample, nothing, reads_of}
use Rattle.run_wires.specs.Text.{change_text, differ, header}
use Rattle.run_wires.specs.Trace.{changes_to, seen_if, seen_in, text_in, trace_to}
use Rattle.law_wires_heard.specs.Hearing.{heard_in, heard_to, sample_in}
use Rattle.law_capture_heard.specs.Captured.{captured, captured_in, captured_to}
use Rattle.law_capture_heard.specs.Seen.{level_by, level_to, sample_of, seen_sample_in, seen_samples_to}
use Rattle.law_capture_heard.proofs.Changes.{change_read, level_after, lines_to}
use Rattle.law_capture_heard.proofs.Header.{View, TheWire, TheSeen, has_seen, header_read, lines_of_header, reads_seen}
use Rattle.law_capture_heard.proofs.Reading.{clk, dat, in_body, read_by, reads_at}

-- one sample or none
abbrev pub listed : Option Captured → List Captured
listed None = []
listed (Some x) = x ∷ []

-- samples and a fault, and samples before others
abbrev made : List Captured → Option VcdFault → Reads
made samples fault = record { samples = samples; fault = fault }

abbrev pub before : List Captured → Reads → Reads
before early r = made (early ++ r.samples) r.fault

before_sample : (early : List Captured) (o : Option Captured) (r : Reads) → before early (after_sample o r) ≡ before (early ++ listed o) r
before_sample early None r = ap (λ xs. before xs r) (sym (append-nil early))
before_sample early (Some x) r =
    ap (λ xs. made xs r.fault) (sym (append_assoc early (x ∷ []) r.samples))

abbrev levels : Bool → Bool → Lines
levels c d = record { clk = c; dat = d }

-- wires that don't differ are the same
pub same_by : (a b : Lines) → differ a b ≡ false → b ≡ a
same_by a b h = by a.clk b.clk a.dat b.dat h
  where
    by : (a b c d : Bool) → differ (levels a c) (levels b d) ≡ false → levels b d ≡ levels a c
    by true true true true h = refl
    by true true true false h = absurd (cc)
    by true true false true h = absurd (cc)
    by true true false false h = refl
    by true false c d h = absurd (cc)
    by false true c d h = absurd (cc)
    by false false true true h = refl
    by false false true false h = absurd (cc)
    by false false false true h = absurd (cc)
    by false false false false h = refl

-- a text is read up to a time, whose sample isn't complete: these are the samples before, and with it
pub record IsReadTo (v : View) (text : List ℕ) (now : Lines) (samples : List Captured) (o : Option (World Beside)) : Type 0 where
  pub line : ℕ
  pub time : ℕ
  pub given : Lines
  pub early : List Captured
  pub reads : (rest : List ℕ)
      → reads_of clk (dat (reads_seen v)) (text ++ rest)
      ≡ before early (reads_at (reads_seen v) (in_body (reads_seen v) time now given) line rest)
  pub all : early ++ listed (due (in_body (reads_seen v) time now given)) ≡ samples
  pub past : (w : World Beside) → o ≡ Some w → time ≤ 2500 * w.cycle

regroup : (a b c d : List ℕ) → (a ++ (b ++ c)) ++ d ≡ (a ++ b) ++ (c ++ d)
regroup a b c d = simp append_assoc

same_cycle : (u w : World Beside) → Some u ≡ Some w → u.cycle ≡ w.cycle
same_cycle u w h = let e : u ≡ w = cc in ap (λ (v : World Beside). v.cycle) e

-- the sample of a state as it is read, if a wire turns
abbrev sample_by : Bool → Option (World Beside) → Ear → Bool → List Captured
sample_by seen None ear level = []
sample_by seen (Some w) ear level =
    if differ (wires_at ear.last) (sample_in w).lines
    then sample_of (2500 * w.cycle) (read_by seen (wires_at ear.last) level) (read_by seen (sample_in w).lines (seen_in w))
    else []

abbrev samples_to : Bool → Story → ℕ → List Captured
samples_to seen s zero = []
samples_to seen s (suc k) = samples_to seen s k ++ sample_by seen (state_at s (suc k)) (heard_to s k) (level_to s k)

listed_if : (b : Bool) (x : Captured) → listed (if b then Some x else None) ≡ (if b then x ∷ [] else [])
listed_if true x = refl
listed_if false x = refl

-- the level that a change leaves is that of its state, for a reader of the third signal
level_left : (v : View) (wires : Lines) (level now : Bool)
    → read_by (reads_seen v) wires (level_after (if has_seen v then Some now else None) level) ≡ read_by (reads_seen v) wires now
level_left (TheWire has) wires level now = refl
level_left TheSeen wires level now = refl

module _ (v : View) (head changes : List ℕ) (ear : Ear) (level : Bool) (samples : List Captured) (o : Option (World Beside))
    (r : IsReadTo v (head ++ changes) (read_by (reads_seen v) (wires_at ear.last) level) samples o) where
  abbrev seen : Bool
  seen = reads_seen v

  abbrev old : Lines
  old = wires_at ear.last

  -- nothing is added
  still : (next : Option (World Beside)) (now : Lines) → now ≡ old → ((w : World Beside) → next ≡ Some w → r.time ≤ 2500 * w.cycle)
      → IsReadTo v (head ++ (changes ++ [])) (read_by seen now level) (samples ++ []) next
  still next now same past = record {
    line = r.line;
    time = r.time;
    given = r.given;
    early = r.early;
    reads = λ rest.
        ap (λ t. reads_of clk (dat seen) ((head ++ t) ++ rest)) (append-nil changes) ∙ r.reads rest
        ∙ ap (λ l. before r.early (reads_at seen (in_body seen r.time (read_by seen l level) r.given) r.line rest)) (sym same);
    all = ap (λ l. r.early ++ listed (due (in_body seen r.time (read_by seen l level) r.given))) same ∙ r.all ∙ sym (append-nil samples);
    past = past;
  }

  -- a change is
  turned : (u : World Beside) (now : Lines) (o : Option Bool) (t : Option Transfer) (left : Bool)
      → read_by seen now (level_after o level) ≡ read_by seen now left
      → r.time < 2500 * u.cycle → 25 * u.cycle < 100000000000000
      → IsReadTo v (head ++ (changes ++ change_text u.cycle old now o t)) (read_by seen now left)
      (samples ++ sample_of (2500 * u.cycle) (read_by seen old level) (read_by seen now left)) (Some u)
  turned u now o t left same later fits = record {
    line = lines_to r.line old now o t;
    time = 2500 * u.cycle;
    given = read_by seen old level;
    early = r.early ++ listed (due (in_body seen r.time (read_by seen old level) r.given));
    reads = λ rest.
        ap (reads_of clk (dat seen)) (regroup head changes (change_text u.cycle old now o t) rest)
        ∙ r.reads (change_text u.cycle old now o t ++ rest)
        ∙ ap (before r.early) (change_read seen r.time u.cycle r.line old now r.given level o t rest later fits)
        ∙ before_sample r.early (due (in_body seen r.time (read_by seen old level) r.given))
        (reads_at seen (in_body seen (2500 * u.cycle) (read_by seen now (level_after o level)) (read_by seen old level)) (lines_to r.line old now o t) rest)
        ∙ ap (λ l. before (r.early ++ listed (due (in_body seen r.time (read_by seen old level) r.given)))
        (reads_at seen (in_body seen (2500 * u.cycle) l (read_by seen old level)) (lines_to r.line old now o t) rest)) same;
    all = ap (λ xs. xs ++ listed (due (in_body seen (2500 * u.cycle) (read_by seen now left) (read_by seen old level)))) r.all
        ∙ ap (λ xs. samples ++ xs)
        (listed_if (differ (read_by seen old level) (read_by seen now left)) (record { time = 2500 * u.cycle; lines = read_by seen now left }));
    past = λ w is. let e = same_cycle u w is in omega (arith, e);
  }

  sampled : (u : World Beside) → r.time < 2500 * u.cycle → 25 * u.cycle < 100000000000000
      → IsReadTo v (head ++ (changes ++ text_in (has_seen v) (Some u) ear))
      (read_by seen (wires_at (heard_in (Some u) ear).last) (level_by (Some u) ear level))
      (samples ++ sample_by seen (Some u) ear level) (Some u)
  sampled u later fits = by (differ old (sample_in u).lines) refl
    where
      by : (b : Bool) → differ old (sample_in u).lines ≡ b
          → IsReadTo v
          (head ++ (changes
          ++ (if b then change_text u.cycle old (sample_in u).lines (seen_if (has_seen v) u) (completed (sample_in u) ear) else [])))
          (read_by seen (sample_in u).lines (if b then seen_in u else level))
          (samples ++ (if b then sample_of (2500 * u.cycle) (read_by seen old level) (read_by seen (sample_in u).lines (seen_in u)) else []))
          (Some u)
      by true e =
          turned u (sample_in u).lines (seen_if (has_seen v) u) (completed (sample_in u) ear) (seen_in u)
          (level_left v (sample_in u).lines level (seen_in u)) later fits
      by false e =
          still (Some u) (sample_in u).lines (same_by old (sample_in u).lines e)
          (λ w is. let c = same_cycle u w is in omega (arith, c, later))

-- a state's cycle, and that of the state before it
pub record IsTimed (s : Story) : Type 0 where
  pub few : (k : ℕ) (u : World Beside) → state_at s k ≡ Some u → u.cycle ≤ 2 * k
  pub earlier : (k : ℕ) (u : World Beside) → state_at s (suc k) ≡ Some u → World Beside
  pub there : (k : ℕ) (u : World Beside) (is : state_at s (suc k) ≡ Some u) → state_at s k ≡ Some (earlier k u is)
  pub rises : (k : ℕ) (u : World Beside) (is : state_at s (suc k) ≡ Some u) → (earlier k u is).cycle < u.cycle

module _ (v : View) (s : Story) (timed : IsTimed s) where
  abbrev has : Bool
  has = has_seen v

  abbrev is_seen : Bool
  is_seen = reads_seen v

  abbrev IsReadAt : ℕ → Type 0
  IsReadAt k =
      IsReadTo v (trace_to has s k) (read_by is_seen (wires_at (heard_to s k).last) (level_to s k)) (samples_to is_seen s k) (state_at s k)

  first : IsReadAt 0
  first = record {
    line = lines_of_header has;
    time = 0;
    given = both_high;
    early = [];
    reads = λ rest.
        ap (λ t. reads_of clk (dat is_seen) (t ++ rest)) (append-nil (header has)) ∙ header_read v rest
        ∙ ap (λ l. reads_at is_seen (in_body is_seen 0 l both_high) (lines_of_header has) rest) (high v);
    all = ap (λ l. listed (due (in_body is_seen 0 l both_high))) (sym (high v));
    past = λ w is. omega arith;
  }
    where
      high : (v : View) → both_high ≡ read_by (reads_seen v) both_high true
      high (TheWire has) = refl
      high TheSeen = refl

  next_by : (k : ℕ) → suc k ≤ 1000000000000 → IsReadAt k → (o : Option (World Beside)) → state_at s (suc k) ≡ o
      → IsReadTo v (header has ++ (changes_to has s k ++ text_in has o (heard_to s k)))
      (read_by is_seen (wires_at (heard_in o (heard_to s k)).last) (level_by o (heard_to s k) (level_to s k)))
      (samples_to is_seen s k ++ sample_by is_seen o (heard_to s k) (level_to s k)) o
  next_by k l r None is =
      still v (header has) (changes_to has s k) (heard_to s k) (level_to s k) (samples_to is_seen s k) (state_at s k) r None
      (wires_at (heard_to s k).last) refl (λ w h. absurd (cc))
  next_by k l r (Some u) is =
      let few : u.cycle ≤ 2 * suc k = timed.few (suc k) u is in
      let later : (timed.earlier k u is).cycle < u.cycle = timed.rises k u is in
      let past : r.time ≤ 2500 * (timed.earlier k u is).cycle = r.past (timed.earlier k u is) (timed.there k u is) in
      sampled v (header has) (changes_to has s k) (heard_to s k) (level_to s k) (samples_to is_seen s k) (state_at s k) r u
      (omega (arith, later, past)) (omega (arith, few, l))

  read_at : (k : ℕ) → k ≤ 1000000000000 → IsReadAt k
  read_at zero l = first
  read_at (suc k) l = next_by k l (read_at k (omega (arith, l))) (state_at s (suc k)) refl

  -- a trace of so many steps is read: exactly its samples, and no fault
  reads_all : (k : ℕ) → k ≤ 1000000000000
      → reads_of clk (dat is_seen) (trace_to has s k) ≡ record { samples = samples_to is_seen s k; fault = None }
  reads_all k l =
      let r = read_at k l in
      let pending = due (in_body is_seen r.time (read_by is_seen (wires_at (heard_to s k).last) (level_to s k)) r.given) in
      ap (reads_of clk (dat is_seen)) (sym (append-nil (trace_to has s k))) ∙ r.reads []
      ∙ before_sample r.early pending nothing
      ∙ ap (λ xs. made xs None) (append-nil (r.early ++ listed pending) ∙ r.all)

-- those of the wires
if_twice : (b : Bool) (xs : List Captured) → (if b then (if b then xs else []) else []) ≡ (if b then xs else [])
if_twice true xs = refl
if_twice false xs = refl

wires_in : (o : Option (World Beside)) (ear : Ear) (level : Bool) → sample_by false o ear level ≡ captured_in o ear
wires_in None ear level = refl
wires_in (Some w) ear level = if_twice (differ (wires_at ear.last) (sample_in w).lines) (captured (sample_in w) ∷ [])

wires_to : (s : Story) (k : ℕ) → samples_to false s k ≡ captured_to s k
wires_to s zero = refl
wires_to s (suc k) =
    let one = captured_in (state_at s (suc k)) (heard_to s k) in
    ap (λ xs. samples_to false s k ++ xs) (wires_in (state_at s (suc k)) (heard_to s k) (level_to s k))
    ∙ ap (λ xs. xs ++ one) (wires_to s k)

-- those of the third signal
seen_as : (o : Option (World Beside)) (ear : Ear) (level : Bool) → sample_by true o ear level ≡ seen_sample_in o ear level
seen_as None ear level = refl
seen_as (Some w) ear level = refl

seen_to : (s : Story) (k : ℕ) → samples_to true s k ≡ seen_samples_to s k
seen_to s zero = refl
seen_to s (suc k) =
    let one = seen_sample_in (state_at s (suc k)) (heard_to s k) (level_to s k) in
    ap (λ xs. samples_to true s k ++ xs) (seen_as (state_at s (suc k)) (heard_to s k) (level_to s k))
    ∙ ap (λ xs. xs ++ one) (seen_to s k)

-- a trace of so many steps is read back by its two wires: exactly its samples, and no fault
pub read_back : (has : Bool) (s : Story) → IsTimed s → (k : ℕ) → k ≤ 1000000000000
    → reads_of clk (dat false) (trace_to has s k) ≡ record { samples = captured_to s k; fault = None }
read_back has s timed k l = reads_all (TheWire has) s timed k l ∙ ap (λ xs. made xs None) (wires_to s k)

-- and by the clock and the third signal, if it has that
pub seen_back : (s : Story) → IsTimed s → (k : ℕ) → k ≤ 1000000000000
    → reads_of clk (dat true) (trace_to true s k) ≡ record { samples = seen_samples_to s k; fault = None }
seen_back s timed k l = reads_all TheSeen s timed k l ∙ ap (λ xs. made xs None) (seen_to s k)
