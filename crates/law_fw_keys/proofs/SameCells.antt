-- Cells that are the same give the same keyboard.
use Rattle.std.proofs.Common.{◌+◌, ◌≡◌, ◌≤◌, ◌<◌, ℕ, List, Bool, true, false, ◌==◌, nat_le, nat_lt}
use Rattle.std.proofs.Common.{refl, arith}
use Rattle.std.proofs.lemmas.Bool.Decides.{nat_tests}
use Rattle.law_fw_keys.specs.State.{kbd_of, Inv}
use Rattle.law_fw_keys.proofs.Head.{headed}
use Rattle.fw_kernel.specs.declared.cells.TheConstants.{R0, R1, R3, R4, R5, REPLYDUE, AADUE, COUNT, HEAD, STARTED}
use Rattle.fw_kernel.specs.declared.cells.TheConstants.{TEST, MODE, DISABLED, RINDEX, RATE, RCOUNT, REPLY, LAST}
use Rattle.fw_kernel.specs.declared.cells.TheConstants.{LIGHTS, FN, HELD, CHANGED}

-- the keyboard is a matter of the cells 64 to 77
pub same_cells : (held : List Bool) (g f : ℕ → ℕ) (ring : List ℕ) → ((i : ℕ) → REPLYDUE ≤ i → i < FN → g i ≡ f i)
    → kbd_of held g ring ≡ kbd_of held f ring
same_cells held g f ring e =
    let a : g REPLYDUE ≡ f REPLYDUE = e REPLYDUE (omega arith) (omega arith) in
    let b : g AADUE ≡ f AADUE = e AADUE (omega arith) (omega arith) in
    let c : g COUNT ≡ f COUNT = e COUNT (omega arith) (omega arith) in
    let h : g HEAD ≡ f HEAD = e HEAD (omega arith) (omega arith) in
    let i : g STARTED ≡ f STARTED = e STARTED (omega arith) (omega arith) in
    let j : g TEST ≡ f TEST = e TEST (omega arith) (omega arith) in
    let k : g MODE ≡ f MODE = e MODE (omega arith) (omega arith) in
    let l : g DISABLED ≡ f DISABLED = e DISABLED (omega arith) (omega arith) in
    let m : g RINDEX ≡ f RINDEX = e RINDEX (omega arith) (omega arith) in
    let n : g RATE ≡ f RATE = e RATE (omega arith) (omega arith) in
    let o : g RCOUNT ≡ f RCOUNT = e RCOUNT (omega arith) (omega arith) in
    let p : g REPLY ≡ f REPLY = e REPLY (omega arith) (omega arith) in
    let q : g LAST ≡ f LAST = e LAST (omega arith) (omega arith) in
    let r : g LIGHTS ≡ f LIGHTS = e LIGHTS (omega arith) (omega arith) in
    rw (a, b, c, h, i, j, k, l, m, n, o, p, q, r) refl

-- what holds of the cells between blocks depends on the cells 40 to 4E (hexadecimal) alone
pub same_inv : (g f : ℕ → ℕ) → ((i : ℕ) → REPLYDUE ≤ i → i < FN + 1 → g i ≡ f i) → Inv f → Inv g
same_inv g f e inv =
    let c : g COUNT ≡ f COUNT = e COUNT (omega arith) (omega arith) in
    let i : g STARTED ≡ f STARTED = e STARTED (omega arith) (omega arith) in
    let k : g MODE ≡ f MODE = e MODE (omega arith) (omega arith) in
    let u : g LIGHTS ≡ f LIGHTS = e LIGHTS (omega arith) (omega arith) in
    let v : g FN ≡ f FN = e FN (omega arith) (omega arith) in
    record {
      most = rw c inv.most;
      started = rw i inv.started;
      some = rw (c, i) inv.some;
      mode = rw k inv.mode;
      lamps = rw u inv.lamps;
      fn = rw v inv.fn;
    }

-- the head of a tick changes none of the cells after the columns' changes
pub head_keeps : (look f : ℕ → ℕ) (r4 r5 i : ℕ) → CHANGED + 12 ≤ i → headed look f r4 r5 i ≡ f i
head_keeps look f r4 r5 i l =
    let a : nat_le HELD i ≡ true = (let u : HELD ≤ i = omega (arith, l) in grind (arith, nat_tests, u)) in
    let b : nat_lt i (HELD + 12) ≡ false = (let u : HELD + 12 ≤ i = omega (arith, l) in grind (arith, nat_tests, u)) in
    let c : nat_le CHANGED i ≡ true = (let u : CHANGED ≤ i = omega (arith, l) in grind (arith, nat_tests, u)) in
    let h : nat_lt i (CHANGED + 12) ≡ false = grind (arith, nat_tests, l) in
    let r0 : (i == R0) ≡ false = (let u : R0 < i = omega (arith, l) in grind (arith, nat_tests, u)) in
    let r1 : (i == R1) ≡ false = (let u : R1 < i = omega (arith, l) in grind (arith, nat_tests, u)) in
    let r3 : (i == R3) ≡ false = (let u : R3 < i = omega (arith, l) in grind (arith, nat_tests, u)) in
    let p4 : (i == R4) ≡ false = (let u : R4 < i = omega (arith, l) in grind (arith, nat_tests, u)) in
    let p5 : (i == R5) ≡ false = (let u : R5 < i = omega (arith, l) in grind (arith, nat_tests, u)) in
    rw (a, b, c, h, p5, p4, r3, r1, r0) refl
