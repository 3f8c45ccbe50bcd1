-- The edges of a tick by columns, and the processor as a tick begins.
use Rattle.std.proofs.Common.{◌≡◌, ◌≤◌, ◌<◌, ℕ, suc, zero, ◌+◌, ◌*◌, Bool, true, false, if◌then◌else◌}
use Rattle.std.proofs.Common.{List, [], ◌∷◌, ◌++◌, length, drop, bit_xor, refl, ap, sym, ◌∙◌, arith}
use Rattle.mcs48_core.specs.Cpu.{Cpu}
use Rattle.bits.specs.Bits.{bit}
use Rattle.mcs48_core.specs.Status.{digit}
use Rattle.mcs48_ranges.specs.Sizes.{IsFine}
use Rattle.law_fw_logic.proofs.Entered.{IsServed, entered_is, entered_served, entering_is, served_is}
use Rattle.law_fw_logic.proofs.Service.{begun, entering}
use Rattle.law_fw_logic.proofs.Timers.{IsRested, TimerState, timer_of}
use Rattle.law_fw_keys.proofs.Patch.{still}
use Rattle.law_fw_keys.specs.State.{Inv}
use Rattle.law_fw_keys.specs.Edges.{row_edges, column_edges}
use Rattle.law_fw_keys.specs.Frameless.{cells_in, IsStarted}
use Rattle.law_fw_keys.proofs.Rows.{marks}
use Rattle.law_fw_keys.proofs.Step5.{all_edges}
use Rattle.std.proofs.lemmas.Nat.{xor_of_8}

-- edges by the twelve columns' bytes
pub columns_same : (ch ch' dn dn' : ℕ → ℕ) (c n : ℕ) → c + n ≡ 12 → ((i : ℕ) → i < 12 → ch i ≡ ch' i)
    → ((i : ℕ) → i < 12 → dn i ≡ dn' i) → column_edges c n ch dn ≡ column_edges c n ch' dn'
columns_same ch ch' dn dn' c zero sum a b = refl
columns_same ch ch' dn dn' c (suc n) sum a b =
    let l : c < 12 = omega (arith, sum) in
    ap (λ v. row_edges (8 * c) 0 8 v (dn c) ++ column_edges (suc c) n ch dn) (a c l)
    ∙ ap (λ v. row_edges (8 * c) 0 8 (ch' c) v ++ column_edges (suc c) n ch dn) (b c l)
    ∙ ap (λ t. row_edges (8 * c) 0 8 (ch' c) (dn' c) ++ t)
    (columns_same ch ch' dn dn' (suc c) n (omega (arith, sum)) a b)

row_count : (place r n c dn : ℕ) → (b : Bool) → bit r c ≡ b → length (row_edges place (suc r) n c dn)
    ≡ marks (suc r) n c → length (row_edges place r (suc n) c dn) ≡ marks r (suc n) c
row_count place r n c dn true e ih =
    ap (λ b. length (if b then (place + r, bit r dn) ∷ row_edges place (suc r) n c dn else row_edges place (suc r) n c
    dn)) e ∙ ap suc ih
    ∙ (let one : suc (marks (suc r) n c) ≡ 1 + marks (suc r) n c = omega arith in one)
    ∙ sym (ap (λ b. digit b + marks (suc r) n c) e)
row_count place r n c dn false e ih =
    ap (λ b. length (if b then (place + r, bit r dn) ∷ row_edges place (suc r) n c dn else row_edges place (suc r) n c
    dn)) e ∙ ih
    ∙ (let none : marks (suc r) n c ≡ 0 + marks (suc r) n c = omega arith in none)
    ∙ sym (ap (λ b. digit b + marks (suc r) n c) e)

rows_count : (place r n c dn : ℕ) → length (row_edges place r n c dn) ≡ marks r n c
rows_count place r zero c dn = refl
rows_count place r (suc n) c dn = row_count place r n c dn (bit r c) refl (rows_count place (suc r) n c dn)

both_long : (xs ys : List (ℕ × Bool)) → length (xs ++ ys) ≡ length xs + length ys
both_long [] ys = let e : length ys ≡ 0 + length ys = omega arith in e
both_long (x ∷ xs) ys = let h : length (xs ++ ys) ≡ length xs + length ys = both_long xs ys in omega (arith, h)

-- some columns have as many edges as their bytes of changes have bits set
pub columns_count : (ch dn : ℕ → ℕ) (c n : ℕ) → length (column_edges c n ch dn) ≡ all_edges ch c n
columns_count ch dn c zero = refl
columns_count ch dn c (suc n) =
    both_long (row_edges (8 * c) 0 8 (ch c) (dn c)) (column_edges (suc c) n ch dn)
    ∙ ap (λ k. k + length (column_edges (suc c) n ch dn)) (rows_count (8 * c) 0 8 (ch c) (dn c))
    ∙ ap (λ k. marks 0 8 (ch c) + k) (columns_count ch dn (suc c) n)

-- a tick start at which data memory holds a keyboard, however late it is, if the timer isn't about to overflow again
pub record IsAnyStart (m : Cpu) : Type 0 where
  pub served : IsServed m
  pub fine : IsFine m
  pub inv : Inv (cells_in m.ram)
  pub rested : IsRested (timer_of m)

-- a processor as a tick begins is at such a start: memory holds a keyboard, and the timer has time left
pub any_start : (m : Cpu) → IsStarted m → IsAnyStart m
any_start m s = record {
  served = entered_served m s.entered;
  fine = s.fine;
  inv = s.inv;
  rested = record {
    clear = s.entered.clear;
    low = (let t : m.t ≡ 0 = s.entered.t in let late : m.pre ≤ 3 = s.entered.late in omega (arith, t, late));
  };
}

-- its processor is one that enters the service
pub start_entering : (m : Cpu) → IsAnyStart m → m ≡ entering (timer_of m) (cells_in m.ram) (drop 112 m.ram) m
start_entering m s = entering_is m s.served

-- and the other way round
pub entering_start : (b : TimerState) (now : ℕ → ℕ) (ring : List ℕ) (m : Cpu) → IsFine (entering b now ring m) → Inv now
    → IsRested b → IsAnyStart (entering b now ring m)
entering_start b now ring m fine inv rested = record {
  served = served_is b now ring m fine.long;
  fine = fine;
  inv = still (refl, refl, refl, refl, refl) inv;
  rested = rested;
}

-- one that begins in time is started
pub started_is : (late : ℕ) → late ≤ 1 → (tf last : Bool) (now : ℕ → ℕ) (ring : List ℕ) (m : Cpu)
    → IsFine (begun late tf last now ring m) → Inv now → IsStarted (begun late tf last now ring m)
started_is late few tf last now ring m fine inv = record {
  entered = entered_is late few tf last now ring m fine.long;
  fine = fine;
  inv = still (refl, refl, refl, refl, refl) inv;
}

-- the exclusive or of two bytes is a byte
pub xor_small : (a b : ℕ) → a < 256 → b < 256 → bit_xor a b < 256
xor_small a b l m = xor_of_8 a b l m
