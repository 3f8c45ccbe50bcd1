-- What a reset heals, and what it leaves as it is.
use Rattle.std.proofs.Common.{◌≡◌, ◌≤◌, ◌<◌, ℕ, zero, suc, ◌/◌, ◌%◌, List, Bool, true, false}
use Rattle.std.proofs.Common.{not, ◌==◌, nat_lt, if◌then◌else◌, bit_xor, slice_index, refl, ap, sym, ◌∙◌, arith}
use Rattle.std.proofs.Common.{Some, None}
use Rattle.std.specs.Prelude.{slice_index_or}
use Rattle.std.specs.declared.option.Option.{Option}
use Rattle.std.proofs.lemmas.Bool.Decides.{nat_tests}
use Rattle.std.proofs.lemmas.Nat.{xor_comm}
use Rattle.std.specs.Int.Bits.{xor_assoc, xor_self, xor_zero_r}
use Rattle.bits.specs.Bits.{bit}
use Rattle.fw_kernel.specs.declared.cells.TheConstants.{REPLYDUE, FN}
use Rattle.fw_kernel.specs.Tables.{fn_place_at}
use Rattle.law_fw_keys.proofs.Fold.{fn_cell}
use Rattle.law_fw_keys.proofs.Heal.{before_edges, was_held}
use Rattle.law_fw_keys.proofs.Keyboard.{IsPressedAt}
use Rattle.law_fw_keys.specs.Edges.{image_keys}
use Rattle.law_fw_keys.specs.Frameless.{IsPressed}
use Rattle.law_fw_keys.specs.Healing.{healed, makes_reset, is_fn_held}
use Rattle.law_fw_keys.specs.State.{down_at, flags, held_by, layers_of, reply_of}
use Rattle.law_fw_logic.proofs.Block.{put}
use Rattle.model_keyboard.specs.Codes.{Keys}
use Rattle.model_keyboard.specs.Keyboard.{Keyboard}
use Rattle.model_keyboard.specs.Layers.{Layers}
use Rattle.model_keyboard.specs.Once.{is_reset_due}
use Rattle.model_keyboard.specs.Tick.{met, tested_if}
use Rattle.model_keyboard.specs.declared.meeting.Meeting.{Meeting}
use Rattle.model_keyboard.specs.declared.meeting.Meeting.TheVariants.{Sent}
use Rattle.model_keyboard.specs.declared.state.Repeat.{Repeat}

-- a change undone
pub xor_back : (a b : ℕ) → bit_xor b (bit_xor a b) ≡ a
xor_back a b =
    xor_comm b (bit_xor a b) ∙ xor_assoc a b b ∙ ap (λ v. bit_xor a v) (xor_self b) ∙ xor_zero_r a

-- without a reset the layers stay
pub not_healed : (bytes : List ℕ) (meeting : Meeting) (k : Keyboard) (l : Layers) → makes_reset meeting k ≡ false
    → healed bytes meeting k l ≡ l
not_healed bytes meeting k l none =
    ap (λ b. record l { fn_down = if b then is_fn_held bytes k else l.fn_down }) none

-- and with one, if the Fn key's layer followed the key before
pub healed_same : (bytes : List ℕ) (meeting : Meeting) (k : Keyboard) (l : Layers) → l.fn_down ≡ is_fn_held bytes k
    → healed bytes meeting k l ≡ l
healed_same bytes meeting k l is =
    ap (λ v. record l { fn_down = if makes_reset meeting k then v else l.fn_down }) (sym is) ∙ by (makes_reset meeting k)
  where
    by : (b : Bool) → record l { fn_down = if b then l.fn_down else l.fn_down } ≡ l
    by true = refl
    by false = refl

-- what repeats is a matter of the layers of the last presses
pub pressed_by : (keys : Keys) (l : Layers) (fn : Bool) (o : Option Repeat) → IsPressed keys l o
    → IsPressed keys (record l { fn_down = fn }) o
pressed_by keys l fn None h = tt
pressed_by keys l fn (Some r) h = h

-- what repeats is pressed in the healed layers too
pub pressed_healed : (bytes : List ℕ) (meeting : Meeting) (l : Layers) (k : Keyboard)
    → IsPressedAt (image_keys bytes) meeting l k → IsPressedAt (image_keys bytes) meeting (healed bytes meeting k l) k
pressed_healed bytes meeting l k h =
    pressed_by (image_keys bytes) l (if makes_reset meeting k then is_fn_held bytes k else l.fn_down)
    (tested_if (not (k.test == 0)) (met meeting (image_keys bytes) k)).repeats h

-- the held key at a place
flag_at : (g : ℕ → Bool) (n p : ℕ) → p < n → slice_index_or (flags g n) p false ≡ g p
flag_at g zero p l = absurd (omega (arith, l))
flag_at g (suc n) zero l = refl
flag_at g (suc n) (suc p) l = flag_at (λ i. g (suc i)) n p (omega (arith, l))

no_flag : (g : ℕ → Bool) (n p : ℕ) → n ≤ p → slice_index_or (flags g n) p false ≡ false
no_flag g zero p l = refl
no_flag g (suc n) zero l = absurd (omega (arith, l))
no_flag g (suc n) (suc p) l = no_flag (λ i. g (suc i)) n p (omega (arith, l))

-- the model's test whether a place is held is the bit of its column's byte
pub held_at : (g : ℕ → ℕ) (p : ℕ) (b : Bool) → nat_lt p 96 ≡ b
    → (if b then down_at g p else false) ≡ slice_index_or (held_by g) p false
held_at g p true e = sym (flag_at (down_at g) 96 p (grind (arith, nat_tests, e)))
held_at g p false e = sym (no_flag (down_at g) 96 p (grind (arith, nat_tests, e)))

-- the reset's reply is due by bit 1
resets_by : (due byte : ℕ) (b : Bool) → (due == 0) ≡ b → is_reset_due (reply_of due byte) ≡ bit 1 due
resets_by due byte true e =
    let z : due ≡ 0 = grind (arith, nat_tests, e) in
    ap (λ v. is_reset_due (reply_of v byte)) z ∙ sym (ap (λ v. bit 1 v) z)
resets_by due byte false e = rw e refl

-- the cell of a due reply says in bit 1 whether the reply is that of a reset
pub resets_is : (due byte : ℕ) → is_reset_due (reply_of due byte) ≡ bit 1 due
resets_is due byte = resets_by due byte (due == 0) refl

-- cells whose Fn cell is healed if the reset's reply is due
abbrev pub lifted : List ℕ → (ℕ → ℕ) → ℕ → ℕ
lifted bytes f = put f FN (if bit 1 (f REPLYDUE) then fn_cell (was_held bytes f) else f FN)

-- the healing of the Fn key's cell changes no cell before it
pub lifted_below : (bytes : List ℕ) (f : ℕ → ℕ) (i : ℕ) → i < FN → lifted bytes f i ≡ f i
lifted_below bytes f i l =
    let e : (i == FN) ≡ false = grind (arith, nat_tests, l) in rw e refl

-- the healing of the Fn key's cell changes no cell after it
pub lifted_above : (bytes : List ℕ) (f : ℕ → ℕ) (i : ℕ) → 79 ≤ i → lifted bytes f i ≡ f i
lifted_above bytes f i l =
    let e : (i == FN) ≡ false = grind (arith, nat_tests, l) in rw e refl

-- without a reset's reply nothing is healed
pub not_lifted : (bytes : List ℕ) (f : ℕ → ℕ) → bit 1 (f REPLYDUE) ≡ false → (i : ℕ) → lifted bytes f i ≡ f i
not_lifted bytes f none i =
    ap (λ b. put f FN (if b then fn_cell (was_held bytes f) else f FN) i) none ∙ by (i == FN) refl
  where
    by : (b : Bool) → (i == FN) ≡ b → put f FN (f FN) i ≡ f i
    by true e = let same : i ≡ FN = grind (arith, nat_tests, e) in rw e (ap f (sym same))
    by false e = rw e refl

-- the Fn key's cell shows whether the key is down
pub cell_shows : (b : Bool) → not (fn_cell b == 0) ≡ b
cell_shows true = refl
cell_shows false = refl

-- they show the healed layers, if the keys that were held before the edges are the keyboard's
pub lifted_layers : (bytes : List ℕ) (f : ℕ → ℕ) (k : Keyboard) (byte : ℕ) (held : ℕ → ℕ) → k.reply ≡ reply_of (f REPLYDUE) byte
    → k.held ≡ held_by held → ((c : ℕ) → c < 12 → before_edges f c ≡ held c)
    → layers_of (lifted bytes f) ≡ healed bytes Sent k (layers_of f)
lifted_layers bytes f k byte held reply keys same =
    let place : ℕ = slice_index bytes fn_place_at in
    let due : makes_reset Sent k ≡ bit 1 (f REPLYDUE) = ap is_reset_due reply ∙ resets_is (f REPLYDUE) byte in
    let is : was_held bytes f ≡ is_fn_held bytes k = was place (nat_lt place 96) refl
    ∙ held_at held place (nat_lt place 96) refl ∙ sym (ap (λ h. slice_index_or h place false) keys) in
    by (bit 1 (f REPLYDUE)) (was_held bytes f)
    ∙ ap (λ v. record (layers_of f) { fn_down = if bit 1 (f REPLYDUE) then v else not (f FN == 0) }) is
    ∙ ap (λ b. record (layers_of f) { fn_down = if b then is_fn_held bytes k else not (f FN == 0) }) (sym due)
  where
    was : (p : ℕ) (b : Bool) → nat_lt p 96 ≡ b
        → (if nat_lt p 96 then down_at (before_edges f) p else false) ≡ (if nat_lt p 96 then down_at held p else false)
    was p true e =
        let l : p < 96 = grind (arith, nat_tests, e) in
        let c : p / 8 < 12 = omega (arith, l) in
        rw e (ap (λ v. bit (p % 8) v) (same (p / 8) c))
    was p false e = rw e refl

    by : (b v : Bool) → record (layers_of f) { fn_down = not ((if b then fn_cell v else f FN) == 0) }
        ≡ record (layers_of f) { fn_down = if b then v else not (f FN == 0) }
    by true v = ap (λ t. record (layers_of f) { fn_down = t }) (cell_shows v)
    by false v = refl
