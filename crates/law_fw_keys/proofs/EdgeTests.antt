-- What an edge reads and tests: a row's bit, the delay of the rate, whether a key repeats.
use Rattle.std.proofs.Common.{◌≡◌, ◌≤◌, ◌<◌, ◌&&◌, ℕ, suc, zero, ◌+◌, ◌-◌, ◌*◌, ◌^◌, ◌%◌, ◌/◌, List, Bool}
use Rattle.std.proofs.Common.{true, false, not, ◌==◌, bit_and, bit_xor, if◌then◌else◌, Some, None, refl, ap}
use Rattle.std.proofs.Common.{sym, ◌∙◌, arith, slice_index}
use Rattle.mcs48_isa.proofs.Cases.{from_each}
use Rattle.bits.specs.Bits.{bit}
use Rattle.mcs48_core.specs.Status.{digit}
use Rattle.fw_kernel.specs.Tables.{codes_at, fn_codes_at}
use Rattle.fw_kernel.specs.Places.{HasKernel, is_table}
use Rattle.law_fw_keys.proofs.Fold.{alike, ended_in, fn_cell}
use Rattle.law_fw_keys.specs.Edges.{image_code, IsSilentAlike}
use Rattle.law_fw_keys.specs.State.{repeat_of, place_of, is_upper}
use Rattle.bits.proofs.Every.{by_below, by_byte, pair_tests, tests_by}
use Rattle.std.proofs.lemmas.Bool.Decides.{nat_tests}
use Rattle.law_fw_logic.proofs.Image.{byte_is}
use Rattle.law_fw_logic.proofs.Kernel.{byte_in}
use Rattle.model_keyboard.specs.Typematic.{delay}

-- the bit of row r, by the rows left
pub row_bit : (bytes : List ℕ) → HasKernel bytes → (k : ℕ) → k < 8 → slice_index bytes ((1024 + suc k) % 2048)
    ≡ 2 ^ (7 - k)
row_bit bytes hk k l = from_each (λ k. slice_index bytes ((1024 + suc k) % 2048) ≡ 2 ^ (7 - k)) 0 8
    ((
      hk 1025 refl,
      (
        hk 1026 refl,
        (hk 1027 refl, (hk 1028 refl, (hk 1029 refl, (hk 1030 refl, (hk 1031 refl, (hk 1032 refl, tt)))))),
      ),
    )) k (omega arith) l

-- the test of a bit, either way round
pub bit_test_back : (r b : ℕ) → r < 8 → b < 256 → (bit_and b (2 ^ r) == 0) ≡ not (bit r b)
bit_test_back = pair_tests 8 256 (λ r b. bit_and b (2 ^ r) == 0) (λ r b. not (bit r b)) refl

-- the and of a row's bit and a byte is zero exactly if the byte doesn't have that bit
pub bit_test : (r b : ℕ) → r < 8 → b < 256 → (bit_and (2 ^ r) b == 0) ≡ not (bit r b)
bit_test = pair_tests 8 256 (λ r b. bit_and (2 ^ r) b == 0) (λ r b. not (bit r b)) refl

-- the code's turns of the rate's byte give the place of its delay in the kernel's table
pub delay_place : (b : ℕ) → b < 256
    → (bit_and (128 * digit (bit 0 (b % 16 * 16 + b / 16)) + (b % 16 * 16 + b / 16) / 2) 3 + 206) % 256
    ≡ 206 + b / 32 % 4
delay_place = by_byte (λ b. (bit_and (128 * digit (bit 0 (b % 16 * 16 + b / 16)) + (b % 16 * 16 + b / 16) / 2)
    3 + 206) % 256) (λ b. 206 + b / 32 % 4) refl

-- the kernel's table of delays has the model's delay at its place
pub delay_in : (b : ℕ) → b < 256 → byte_in (974 + b / 32 % 4) ≡ delay b
delay_in = by_byte (λ b. byte_in (974 + b / 32 % 4)) delay refl

-- a read from the image's table of delays gives the model's delay
pub delay_read : (bytes : List ℕ) → HasKernel bytes → (b : ℕ) → b < 256 → slice_index bytes (codes_at + (206 + b / 32 % 4))
    ≡ delay b
delay_read bytes hk b l =
    let e : codes_at + (206 + b / 32 % 4) ≡ 974 + b / 32 % 4 = omega arith in
    let low : b / 32 % 4 < 4 = omega arith in
    rw e (hk (974 + b / 32 % 4) (from_each (λ k. is_table (974 + k) ≡ false) 0 4 (refl, (refl, (refl, (refl, tt))))
    (b / 32 % 4) (omega arith) low) ∙ sym (byte_is (974 + b / 32 % 4) (omega (arith, low))) ∙ delay_in b l)

-- the exclusive or of two bytes isn't zero exactly if they differ
pub xor_test : (a b : ℕ) → a < 256 → b < 256 → not (bit_xor a b == 0) ≡ not (b == a)
xor_test = pair_tests 256 256 (λ a b. not (bit_xor a b == 0)) (λ a b. not (b == a)) refl

-- the index of a place in a layer
abbrev pub upper : Bool → ℕ
upper true = 97
upper false = 0

-- the Fn key's cell chooses the layer: 61 (hexadecimal) with the key down, else 0
pub fn_upper : (b : Bool) → bit_and (fn_cell b) 97 ≡ upper b
fn_upper true = refl
fn_upper false = refl

-- the sum of layer and place is an index without a carry
pub index_small : (b : Bool) (v p : ℕ) → v ≡ upper b → p < 96 → (v + p) % 256 ≡ upper b + p
index_small true v p e l = omega (arith, e, l)
index_small false v p e l = omega (arith, e, l)

-- the index of a place in either layer is a byte
pub index_byte : (b : Bool) (p : ℕ) → p < 96 → upper b + p < 256
index_byte true p l = omega (arith, l)
index_byte false p l = omega (arith, l)

-- the code at it
pub code_read : (bytes : List ℕ) (b : Bool) (p : ℕ) → slice_index bytes (codes_at + (upper b + p)) ≡ image_code bytes b p
code_read bytes true p = let e : codes_at + (97 + p) ≡ fn_codes_at + p = omega arith in ap (λ i. slice_index bytes i) e
code_read bytes false p = let e : codes_at + (0 + p) ≡ codes_at + p = omega arith in ap (λ i. slice_index bytes i) e

-- if a layout's places are silent in both layers alike, a place sends nothing with Fn exactly if it does without
pub silent_by : (bytes : List ℕ) → IsSilentAlike bytes → (b : Bool) (p : ℕ) → p < 96
    → (image_code bytes b p == 0) ≡ (image_code bytes false p == 0)
silent_by bytes alike true p l = alike p l
silent_by bytes alike false p l = refl

-- in either layer the code reads 00 exactly if the place sends nothing
pub silent_read : (bytes : List ℕ) → IsSilentAlike bytes → (b : Bool) (p : ℕ) → p < 96
    → (slice_index bytes (codes_at + (upper b + p)) == 0) ≡ (image_code bytes false p == 0)
silent_read bytes alike b p l = ap (λ v. v == 0) (code_read bytes b p) ∙ silent_by bytes alike b p l

-- the code of an index's place in its layer is the image's byte at that index
pub code_of_index : (bytes : List ℕ) (i : ℕ) (b : Bool) → is_upper i ≡ b
    → image_code bytes (is_upper i) (place_of i) ≡ slice_index bytes (codes_at + i)
code_of_index bytes i true e =
    let l : 97 ≤ i = grind (arith, nat_tests, e) in
    let n : fn_codes_at + (i - 97) ≡ codes_at + i = omega (arith, l) in
    ap (λ u. image_code bytes u (if u then i - 97 else i)) e ∙ ap (λ i. slice_index bytes i) n
code_of_index bytes i false e = ap (λ u. image_code bytes u (if u then i - 97 else i)) e

-- a place and a layer are an index
index_test : (b : Bool) (i p : ℕ) → i < 256 → p < 96 → ((place_of i == p) && alike (is_upper i) b) ≡ (i == upper b + p)
index_test true = pair_tests 256 96 (λ i p. (place_of i == p) && alike (is_upper i) true) (λ i p. i == 97 + p) refl
index_test false = pair_tests 256 96 (λ i p. (place_of i == p) && alike (is_upper i) false) (λ i p. i == 0 + p) refl

-- a key stops to repeat exactly if its place and layer are the index that repeats
pub stops : (count i p : ℕ) (on_fn : Bool) → i < 256 → p < 96 → (b : Bool) → (i == upper on_fn + p) ≡ b → (n : Bool)
    → (count == 0) ≡ n
    → ended_in p on_fn (repeat_of count i) ≡ (if b then None else repeat_of count i)
stops count i p on_fn li lp true e true n = rw n refl
stops count i p on_fn li lp false e true n = rw n refl
stops count i p on_fn li lp true e false n = rw n (ap (λ t. if t then None else Some (record {
  place = place_of i;
  count = count;
  on_fn = is_upper i;
})) (index_test on_fn i p li lp ∙ e))
stops count i p on_fn li lp false e false n = rw n (ap (λ t. if t then None else Some (record {
  place = place_of i;
  count = count;
  on_fn = is_upper i;
})) (index_test on_fn i p li lp ∙ e))

place_back : (b : Bool) (p : ℕ) → p < 96 → place_of (upper b + p) ≡ p
place_back true = by_below 96 (λ p. place_of (97 + p)) (λ p. p) refl
place_back false = by_below 96 (λ p. place_of (0 + p)) (λ p. p) refl

layer_back : (b : Bool) (p : ℕ) → p < 96 → is_upper (upper b + p) ≡ b
layer_back true = tests_by 96 (λ p. is_upper (97 + p)) (λ p. true) refl
layer_back false = tests_by 96 (λ p. is_upper (0 + p)) (λ p. false) refl

-- a delay is never 0
pub some_delay : (on_fn : Bool) (place rate : ℕ) → place < 96 → rate < 256
    → repeat_of (delay rate) (upper on_fn + place)
    ≡ Some (record { place = place; count = delay rate; on_fn = on_fn })
some_delay on_fn place rate l m = let h : (delay rate == 0) ≡ false =
    tests_by 256 (λ b. delay b == 0) (λ b. false) refl rate m in
    ap (λ b. if b then None else Some (record {
      place = place_of (upper on_fn + place);
      count = delay rate;
      on_fn = is_upper (upper on_fn + place);
    })) h
    ∙ ap (λ p. Some (record { place = p; count = delay rate; on_fn = is_upper (upper on_fn + place) }))
    (place_back on_fn place l)
    ∙ ap (λ u. Some (record { place = place; count = delay rate; on_fn = u })) (layer_back on_fn place l)

-- a byte turned right so many times
abbrev pub turned : ℕ → ℕ → ℕ
turned zero c = c
turned (suc r) c = 128 * digit (bit 0 (turned r c)) + turned r c / 2

-- after r + 1 turns right the bit of row r is the top one
pub bit_turned : (r c : ℕ) → r < 8 → c < 256 → bit 7 (turned (suc r) c) ≡ bit r c
bit_turned = pair_tests 8 256 (λ r c. bit 7 (turned (suc r) c)) (λ r c. bit r c) refl

-- a number that equals one above zero isn't zero
pub not_none : (n k : ℕ) → n ≡ k → 0 < k → not (n == 0) ≡ true
not_none n k e l = let g : 0 < n = omega (arith, e, l) in grind (arith, nat_tests, g)
