-- A byte from the system: its one reply, and which key still repeats after it.
use Rattle.std.proofs.Common.{◌≡◌, ◌≤◌, ℕ, ◌%◌, ◌==◌, true, false, not, ◌&&◌, [], ◌∷◌, None, refl, ap, sym, ◌∙◌, arith}
use Rattle.std.specs.Prelude.{if◌then◌else◌, nat_lt, nat_le}
use Rattle.std.proofs.lemmas.Bool.Decides.{nat_tests}
use Rattle.std.proofs.lemmas.Bool.{eqb-true}
use Rattle.model_keyboard.specs.declared.state.Mode.{Mode}
use Rattle.model_keyboard.specs.declared.state.Mode.TheVariants.{Ready, WantRate, WantLights}
use Rattle.model_keyboard.specs.Codes.{Keys}
use Rattle.model_keyboard.specs.Keyboard.{Keyboard}
use Rattle.model_keyboard.specs.Commands.{commanded, parameter, obeyed_in}
use Rattle.model_keyboard.specs.Once.{clears_queue, reply_bytes}
use Rattle.model_keyboard.specs.Tick.{is_ready}
use Rattle.model_keyboard.proofs.Once.{either}
use Rattle.law_link_times.specs.Coming.{reply_to}

-- the reply, the repeat, and the test, by the mode that is awaited
pub record Answers (mode : Mode) (byte : ℕ) (k k' : Keyboard) : Type 0 where
  pub reply : reply_bytes k'.reply ≡ reply_to mode byte k.last ∷ []
  pub repeats : k'.repeats ≡ (if clears_queue byte then None else k.repeats)
  pub test : k'.test ≡ k.test

module _ (keys : Keys) (byte : ℕ) where
  -- a byte that is known
  known : (mode : Mode) (n : ℕ) (k k' : Keyboard) → (byte == n) ≡ true → reply_bytes k'.reply ≡ reply_to mode n k.last ∷ []
      → k'.repeats ≡ (if clears_queue n then None else k.repeats) → k'.test ≡ k.test → Answers mode byte k k'
  known mode n k k' e r p t =
      let is : byte ≡ n = eqb-true byte n e in
      record {
        reply = r ∙ ap (λ b. reply_to mode b k.last ∷ []) (sym is);
        repeats = p ∙ ap (λ b. if clears_queue b then None else k.repeats) (sym is);
        test = t;
      }

  -- one that clears nothing
  plain : (byte == 0xf6) ≡ false → (byte == 0xf5) ≡ false → (byte == 0xf4) ≡ false → clears_queue byte ≡ false
  plain a b c = rw (a, b, c) refl

  other : (mode : Mode) (k k' : Keyboard) (reply : ℕ) → clears_queue byte ≡ false → reply_to mode byte k.last ≡ reply
      → reply_bytes k'.reply ≡ reply ∷ [] → k'.repeats ≡ k.repeats → k'.test ≡ k.test → Answers mode byte k k'
  other mode k k' reply c e r p t = record {
    reply = r ∙ ap (λ v. v ∷ []) (sym e);
    repeats = p ∙ ap (λ v. if v then None else k.repeats) (sym c);
    test = t;
  }

  -- FA for what is at or above ED, and FE for what is no command and awaited by none
  acknowledged : (mode : Mode) (last : ℕ) → (byte == 0xfe) ≡ false → (byte == 0xee) ≡ false → nat_le 0xed byte ≡ true
      → reply_to mode byte last ≡ 0xfa
  acknowledged mode last a b c = rw (a, b, c) refl

  refused : (mode : Mode) (last : ℕ) → (byte == 0xfe) ≡ false → (byte == 0xee) ≡ false → nat_le 0xed byte ≡ false
      → (not (is_ready mode) && nat_lt byte 0x80) ≡ false → reply_to mode byte last ≡ 0xfe
  refused mode last a b c d = rw (a, b, c, d) refl

  awaited : (mode : Mode) (last : ℕ) → (byte == 0xfe) ≡ false → (byte == 0xee) ≡ false → nat_le 0xed byte ≡ false
      → (not (is_ready mode) && nat_lt byte 0x80) ≡ true → reply_to mode byte last ≡ 0xfa
  awaited mode last a b c d = rw (a, b, c, d) refl

  -- the commands
  commands : (mode : Mode) (k : Keyboard) → (not (is_ready mode) && nat_lt byte 0x80) ≡ false
      → Answers mode byte k (commanded keys byte k)
  commands mode k w =
      either (Answers mode byte k) (byte == 0xff) _ _ (λ e. known mode 0xff k _ e refl refl refl) (λ _.
      either (Answers mode byte k) (byte == 0xfe) _ _ (λ e. known mode 0xfe k _ e refl refl refl) (λ fe.
      either (Answers mode byte k) (byte == 0xf6) _ _ (λ e. known mode 0xf6 k _ e refl refl refl) (λ a.
      either (Answers mode byte k) (byte == 0xf5) _ _ (λ e. known mode 0xf5 k _ e refl refl refl) (λ b.
      either (Answers mode byte k) (byte == 0xf4) _ _ (λ e. known mode 0xf4 k _ e refl refl refl) (λ c.
      either (Answers mode byte k) (byte == 0xf3) _ _ (λ e. known mode 0xf3 k _ e refl refl refl) (λ _.
      either (Answers mode byte k) (byte == 0xed) _ _ (λ e. known mode 0xed k _ e refl refl refl) (λ ed.
      either (Answers mode byte k) (byte == 0xee) _ _ (λ e. known mode 0xee k _ e refl refl refl) (λ ee.
      either (Answers mode byte k) (nat_le 0xef byte) _ _
      (λ h. other mode k _ 0xfa (plain a b c)
      (acknowledged mode k.last fe ee (grind (arith, nat_tests, h))) refl refl refl)
      (λ h. other mode k _ 0xfe (plain a b c)
      (refused mode k.last fe ee (grind (arith, nat_tests, h, ed, ee)) w) refl refl refl)))))))))

  -- what is below ED
  low : (n : ℕ) → 0xed ≤ n → nat_lt byte 0xed ≡ true → (byte == n) ≡ false
  low n l h = grind (arith, nat_tests, h, l)

  parameters : (mode : Mode) (k with_it : Keyboard) → not (is_ready mode) ≡ true → with_it.repeats ≡ k.repeats
      → with_it.test ≡ k.test → Answers mode byte k (parameter keys byte with_it k)
  parameters mode k with_it m r t =
      either (Answers mode byte k) (nat_lt byte 0x80) _ _
      (λ h.
      let l : nat_lt byte 0xed ≡ true = grind (arith, nat_tests, h) in
      let g : nat_le 0xed byte ≡ false = grind (arith, nat_tests, h) in
      other mode k _ 0xfa (plain (low 0xf6 (omega arith) l) (low 0xf5 (omega arith) l) (low 0xf4 (omega arith) l))
      (awaited mode k.last (low 0xfe (omega arith) l) (low 0xee (omega arith) l) g
      (ap (λ c. c && nat_lt byte 0x80) m ∙ h)) refl r t)
      (λ n.
      let w : (not (is_ready mode) && nat_lt byte 0x80) ≡ false = ap (λ c. c && nat_lt byte 0x80) m ∙ n in
      either (Answers mode byte k) (nat_lt byte 0xed) _ _
      (λ l.
      let g : nat_le 0xed byte ≡ false = grind (arith, nat_tests, l) in
      other mode k _ 0xfe (plain (low 0xf6 (omega arith) l) (low 0xf5 (omega arith) l) (low 0xf4 (omega arith) l))
      (refused mode k.last (low 0xfe (omega arith) l) (low 0xee (omega arith) l) g w) refl refl refl)
      (λ _.
      let c = commands mode (record k { mode = Ready }) w in
      record { reply = c.reply; repeats = c.repeats; test = c.test }))

  -- by the mode
  pub answers : (mode : Mode) (k : Keyboard) → Answers mode byte k (obeyed_in mode keys byte k)
  answers Ready k = commands Ready k refl
  answers WantRate k = parameters WantRate k (record k { rate = byte }) refl refl refl
  answers WantLights k = parameters WantLights k (record k { lights = byte % 8 }) refl refl refl
