-- With a debounce the keys change that two readings show otherwise than held; what one reading alone shows is pending.
use Rattle.std.proofs.Common.{◌≡◌, ◌≤◌, ◌<◌, ℕ, ◌+◌, ◌-◌, ◌==◌, not, ◌&&◌, List, [], ◌∷◌, All, Bool, true, false}
use Rattle.std.proofs.Common.{nat_le, nat_lt, if◌then◌else◌, bit_and, bit_xor, slice_index, refl, ap, sym, ◌∙◌, arith}
use Rattle.std.proofs.lemmas.Bool.Decides.{nat_tests}
use Rattle.mcs48_core.specs.Cpu.{Cpu}
use Rattle.fw_kernel.specs.declared.cells.TheConstants.{R0, R1, R2, HELD, CHANGED, PENDING}
use Rattle.fw_kernel.specs.Places.{HasKernel}
use Rattle.fw_kernel.specs.Tables.{debounce_at}
use Rattle.fw_kernel.specs.declared.labels.TheConstants.{EDGES, SETTLE}
use Rattle.law_fw_keys.proofs.Block.{Ends, Safe}
use Rattle.law_fw_keys.proofs.Blocks.{leaf}
use Rattle.law_fw_keys.specs.State.{kbd_of, debounces}
use Rattle.law_fw_logic.proofs.Block.{begin_at, put}
use Rattle.law_fw_logic.proofs.Kernel.{kernel_in}
use Rattle.law_fw_logic.proofs.Leads.{Leads}
use Rattle.law_fw_logic.proofs.Path.{Go, Until}
use Rattle.law_fw_logic.proofs.Short.{has_rows}
use Rattle.joint_run.specs.Run.{Board}
use Rattle.mcs48_ranges.specs.Sizes.{IsByte}

-- what this reading alone shows otherwise than held, of what it shows so and what was pending; what changes; and what is
-- held after it, of what the column showed
abbrev pub alone : ℕ → ℕ → ℕ
alone pending differing = bit_and differing (255 - pending)

abbrev pub changes_by : Bool → ℕ → ℕ → ℕ
changes_by false pending differing = differing
changes_by true pending differing = bit_xor (alone pending differing) differing

abbrev pub holds_by : Bool → ℕ → ℕ → ℕ → ℕ
holds_by false pending differing shown = shown
holds_by true pending differing shown = bit_xor shown (alone pending differing)

abbrev pub pends_by : Bool → ℕ → ℕ → ℕ
pends_by false pending differing = pending
pends_by true pending differing = alone pending differing

-- the cells after the twelve columns
abbrev fresh : (ℕ → ℕ) → ℕ → ℕ
fresh f c = alone (f (PENDING + c)) (f (CHANGED + c))

abbrev settled_on : (ℕ → ℕ) → ℕ → ℕ
settled_on f i =
    if nat_le HELD i && nat_lt i (HELD + 12) then bit_xor (f i) (fresh f (i - HELD)) else
    if nat_le CHANGED i && nat_lt i (CHANGED + 12) then bit_xor (fresh f (i - CHANGED)) (f i) else
    if nat_le PENDING i && nat_lt i (PENDING + 12) then fresh f (i - PENDING) else
    put (put (put f R0 (CHANGED + 12)) R1 (HELD + 11)) R2 (fresh f 11) i

abbrev pub settle_cycles : Bool → ℕ
settle_cycles false = 8
settle_cycles true = 322

-- to settle the keys takes 322 cycles at most
pub settle_short : (b : Bool) → settle_cycles b ≤ 322
settle_short false = omega arith
settle_short true = omega arith

-- what the block leaves
pub record Settled (debounce : Bool) (held : List Bool) (f : ℕ → ℕ) (ring : List ℕ) (acc : ℕ) (g : ℕ → ℕ) (r : List ℕ)
    : Type 0 where
  pub changes : (i : ℕ) → i < 12 → g (CHANGED + i) ≡ changes_by debounce (f (PENDING + i)) (f (CHANGED + i))
  pub helds : (i : ℕ) → i < 12 → g (HELD + i) ≡ holds_by debounce (f (PENDING + i)) (f (CHANGED + i)) (f (HELD + i))
  pub pendings : (i : ℕ) → i < 12 → g (PENDING + i) ≡ pends_by debounce (f (PENDING + i)) (f (CHANGED + i))
  pub kbd : kbd_of held g r ≡ kbd_of held f ring
  pub others : (i : ℕ) → CHANGED + 12 ≤ i → i < PENDING → g i ≡ f i
  pub stack : (g 8 ≡ f 8) × (g 9 ≡ f 9)

on_changes : (f : ℕ → ℕ) (i : ℕ) → i < 12 → settled_on f (CHANGED + i) ≡ bit_xor (fresh f i) (f (CHANGED + i))
on_changes f i l =
    let a : nat_lt (CHANGED + i) (HELD + 12) ≡ false = grind (arith, nat_tests) in
    let a0 : nat_le HELD (CHANGED + i) ≡ true = grind (arith, nat_tests) in
    let b : nat_le CHANGED (CHANGED + i) ≡ true = grind (arith, nat_tests) in
    let c : nat_lt (CHANGED + i) (CHANGED + 12) ≡ true = grind (arith, nat_tests, l) in
    let v : CHANGED + i - CHANGED ≡ i = omega arith in
    rw (a0, a, b, c, v) refl

on_helds : (f : ℕ → ℕ) (i : ℕ) → i < 12 → settled_on f (HELD + i) ≡ bit_xor (f (HELD + i)) (fresh f i)
on_helds f i l =
    let a : nat_le HELD (HELD + i) ≡ true = grind (arith, nat_tests) in
    let b : nat_lt (HELD + i) (HELD + 12) ≡ true = grind (arith, nat_tests, l) in
    let v : HELD + i - HELD ≡ i = omega arith in
    rw (a, b, v) refl

on_pendings : (f : ℕ → ℕ) (i : ℕ) → i < 12 → settled_on f (PENDING + i) ≡ fresh f i
on_pendings f i l =
    let a : nat_lt (PENDING + i) (HELD + 12) ≡ false = grind (arith, nat_tests) in
    let a0 : nat_le HELD (PENDING + i) ≡ true = grind (arith, nat_tests) in
    let b0 : nat_le CHANGED (PENDING + i) ≡ true = grind (arith, nat_tests) in
    let b : nat_lt (PENDING + i) (CHANGED + 12) ≡ false = grind (arith, nat_tests) in
    let c0 : nat_le PENDING (PENDING + i) ≡ true = grind (arith, nat_tests) in
    let c : nat_lt (PENDING + i) (PENDING + 12) ≡ true = grind (arith, nat_tests, l) in
    let v : PENDING + i - PENDING ≡ i = omega arith in
    rw (a0, a, b0, b, c0, c, v) refl

on_others : (f : ℕ → ℕ) (i : ℕ) → CHANGED + 12 ≤ i → i < PENDING → settled_on f i ≡ f i
on_others f i l u =
    let a : nat_lt i (HELD + 12) ≡ false = grind (arith, nat_tests, l) in
    let a0 : nat_le HELD i ≡ true = grind (arith, nat_tests, l) in
    let b0 : nat_le CHANGED i ≡ true = grind (arith, nat_tests, l) in
    let b : nat_lt i (CHANGED + 12) ≡ false = grind (arith, nat_tests, l) in
    let c0 : nat_le PENDING i ≡ false = grind (arith, nat_tests, u) in
    let x : (i == R0) ≡ false = grind (arith, nat_tests, l) in
    let y : (i == R1) ≡ false = grind (arith, nat_tests, l) in
    let z : (i == R2) ≡ false = grind (arith, nat_tests, l) in
    rw (a0, a, b0, b, c0, z, y, x) refl

module _ (d : Board) (bytes : List ℕ) (hk : HasKernel bytes) (small : All IsByte bytes)
    (low : (p1 p2 c : ℕ) (s : d.State) → (d.pins p1 p2 c s).bus < 256) (held : List Bool) where
  settle_by : (b : Bool) → not (slice_index bytes debounce_at == 0) ≡ b → (x : ℕ) (m : Cpu) (board : d.State) (f : ℕ → ℕ)
      (ring : List ℕ) → Safe m SETTLE f ring
      → Leads d (kernel_in true bytes) x (begin_at d SETTLE f ring m board)
      (Ends d x m board EDGES (settle_cycles b) (Settled b held f ring))
  settle_by false is x m board f ring safe =
      let off : (slice_index bytes debounce_at == 0) ≡ true = by (slice_index bytes debounce_at == 0) refl is in
      leaf d (kernel_in true bytes) (has_rows true bytes hk) small low (Settled false held f ring)
      (Go true ∷ Until EDGES ∷ []) SETTLE EDGES 8 f ring x m m board f ring safe.0
      (λ a. record {
        changes = λ i l. refl;
        helds = λ i l. refl;
        pendings = λ i l. refl;
        kbd = refl;
        others = λ i l u. refl;
        stack = (refl, refl);
      }) (off, (refl, refl, refl))
    where
      by : (z : Bool) → (slice_index bytes debounce_at == 0) ≡ z → not (slice_index bytes debounce_at == 0) ≡ false
          → (slice_index bytes debounce_at == 0) ≡ true
      by true e h = e
      by false e h = absurd (let bad : true ≡ false = sym (ap not e) ∙ h in cc bad)
  settle_by true is x m board f ring safe =
      let on : (slice_index bytes debounce_at == 0) ≡ false = by (slice_index bytes debounce_at == 0) refl is in
      leaf d (kernel_in true bytes) (has_rows true bytes hk) small low (Settled true held f ring)
      (Go false ∷ Until EDGES ∷ []) SETTLE EDGES 322 (settled_on f) ring x m m board f ring safe.0
      (λ a. record {
        changes = λ i l. on_changes f i l;
        helds = λ i l. on_helds f i l;
        pendings = λ i l. on_pendings f i l;
        kbd = refl;
        others = λ i l u. on_others f i l u;
        stack = (refl, refl);
      }) (on, (refl, refl, refl))
    where
      by : (z : Bool) → (slice_index bytes debounce_at == 0) ≡ z → not (slice_index bytes debounce_at == 0) ≡ true
          → (slice_index bytes debounce_at == 0) ≡ false
      by false e h = e
      by true e h = absurd (let bad : false ≡ true = sym (ap not e) ∙ h in cc bad)

  -- 8 cycles, or with a debounce 322
  pub settle_law : (x : ℕ) (m : Cpu) (board : d.State) (f : ℕ → ℕ) (ring : List ℕ) → Safe m SETTLE f ring
      → Leads d (kernel_in true bytes) x (begin_at d SETTLE f ring m board)
      (Ends d x m board EDGES (settle_cycles (debounces bytes)) (Settled (debounces bytes) held f ring))
  settle_law x m board f ring safe = settle_by (debounces bytes) refl x m board f ring safe
