-- What blocks keep, and what step 5 writes, as a record of numbers.
use Rattle.std.specs.Prelude.{◌≡◌, ◌≤◌, ◌<◌, ◌⊎◌, ℕ, ◌+◌, ◌==◌, ◌%◌, not, Bool, List}
use Rattle.law_fw_logic.proofs.Block.{put}
use Rattle.model_keyboard.specs.Keyboard.{Keyboard}
use Rattle.law_fw_keys.proofs.Fold.{Deck}
use Rattle.law_fw_keys.specs.State.{kbd_of, Inv}
use Rattle.fw_kernel.specs.declared.cells.TheConstants.{R1, R2, R3, R4, R5, R6, COUNT, STARTED, MODE, RINDEX, RCOUNT}
use Rattle.fw_kernel.specs.declared.cells.TheConstants.{LIGHTS, FN, HELD, CHANGED, PENDING}

-- the cells that step 5 changes: R1, R2, R3, R4, R6, the count, and what repeats
pub record Patch : Type 0 where
  pub r1 : ℕ
  pub r2 : ℕ
  pub r3 : ℕ
  pub r4 : ℕ
  pub r6 : ℕ
  pub count : ℕ
  pub place : ℕ
  pub left : ℕ

abbrev pub over : (ℕ → ℕ) → Patch → ℕ → ℕ
over f p = put (put (put (put (put (put (put (put f R1 p.r1) R2 p.r2) R3 p.r3) R4 p.r4) R6 p.r6) COUNT p.count) RINDEX p.place)
    RCOUNT p.left

-- as they are
abbrev pub self : (ℕ → ℕ) → Patch
self f = record { r1 = f R1; r2 = f R2; r3 = f R3; r4 = f R4; r6 = f R6; count = f COUNT; place = f RINDEX; left = f RCOUNT }

-- after some of them: what the model says, and the queue has not become shorter
pub record Stepped (held : List Bool) (step : Keyboard → Keyboard) (f : ℕ → ℕ) (ring : List ℕ) (p : Patch) (g : ℕ → ℕ)
    (r : List ℕ) : Type 0 where
  pub now : g ≡ over f p
  pub kbd : kbd_of held (over f p) r ≡ step (kbd_of held f ring)
  pub most : p.count % 128 ≤ 16
  pub more : f COUNT % 128 ≤ p.count % 128

-- an edge changes R5 and the Fn key's cell too
abbrev pub struck : (ℕ → ℕ) → Patch → ℕ → ℕ → ℕ → ℕ
struck f p r5 fn = put (put (over f p) R5 r5) FN fn

abbrev pub deck_of : List Bool → (ℕ → ℕ) → List ℕ → Deck
deck_of held f ring = record { keyboard = kbd_of held f ring; fn = not (f FN == 0); byte = f R5 }

abbrev pub IsFnCell : ℕ → Type 0
IsFnCell v = (v ≡ 0) ⊎ (v ≡ 255)

pub record Struck (held : List Bool) (step : Deck → Deck) (f : ℕ → ℕ) (ring : List ℕ) (p : Patch) (r5 fn : ℕ)
    (g : ℕ → ℕ) (r : List ℕ) : Type 0 where
  pub now : g ≡ struck f p r5 fn
  pub deck : deck_of held (struck f p r5 fn) r ≡ step (deck_of held f ring)
  pub most : p.count % 128 ≤ 16
  pub more : f COUNT % 128 ≤ p.count % 128
  pub cell : IsFnCell fn

-- after a row's edge R3, R6 are and R4 has the turned changes
pub record AfterEdge (held : List Bool) (step : Deck → Deck) (a : ℕ) (f : ℕ → ℕ) (ring : List ℕ) (g : ℕ → ℕ)
    (r : List ℕ) : Type 0 where
  pub p : Patch
  pub r5 : ℕ
  pub fn : ℕ
  pub is : Struck held step f ring p r5 fn g r
  pub r3 : p.r3 ≡ f R3
  pub r4 : p.r4 ≡ a
  pub r6 : p.r6 ≡ f R6

-- a block that does a step of the model, keeps that, and leaves what the columns showed, the layers, what is pending, and
-- the service's way back
pub record Keeps (held : List Bool) (step : Keyboard → Keyboard) (f : ℕ → ℕ) (ring : List ℕ) (acc : ℕ)
    (g : ℕ → ℕ) (r : List ℕ) : Type 0 where
  pub kbd : kbd_of held g r ≡ step (kbd_of held f ring)
  pub inv : Inv g
  pub cells : (i : ℕ) → HELD ≤ i → i < CHANGED + 12 → g i ≡ f i
  pub layers : (i : ℕ) → FN ≤ i → i < PENDING + 12 → g i ≡ f i
  pub stack : (g 8 ≡ f 8) × (g 9 ≡ f 9)

-- what holds between blocks is a matter of these cells
pub still : {f g : ℕ → ℕ} → (g COUNT ≡ f COUNT) × (g STARTED ≡ f STARTED) × (g MODE ≡ f MODE) × (g LIGHTS ≡ f LIGHTS)
    × (g FN ≡ f FN)
    → Inv f → Inv g
still e inv = record {
  most = rw e.0 inv.most;
  started = rw e.1 inv.started;
  some = rw (e.0, e.1) inv.some;
  mode = rw e.2 inv.mode;
  lamps = rw e.3 inv.lamps;
  fn = rw e.4 inv.fn;
}

-- where another byte is awaited
pub awaits : {f g : ℕ → ℕ} → (g COUNT ≡ f COUNT) × (g STARTED ≡ f STARTED) × (g LIGHTS ≡ f LIGHTS) × (g FN ≡ f FN)
    → g MODE ≤ 2 → Inv f
    → Inv g
awaits e mode inv = record {
  most = rw e.0 inv.most;
  started = rw e.1 inv.started;
  some = rw (e.0, e.1) inv.some;
  mode = mode;
  lamps = rw e.2 inv.lamps;
  fn = rw e.3 inv.fn;
}
