-- What a byte that goes leaves, and what the test's step leaves.
use Rattle.std.proofs.lemmas.Bool.Decides.{nat_tests}
use Rattle.std.proofs.Common.{arith, ◌≡◌, ℕ, ◌-◌, List, ◌++◌, Bool, true, false, not, ◌&&◌, ◌||◌}
use Rattle.std.proofs.Common.{◌==◌, Some, None, refl, ap, sym, ◌∙◌, append_assoc}
use Rattle.std.specs.Prelude.{if◌then◌else◌, is_some}
use Rattle.std.specs.declared.option.Option.{Option}
use Rattle.model_keyboard.specs.declared.state.Reply.{Reply}
use Rattle.model_keyboard.specs.Codes.{Keys}
use Rattle.model_keyboard.specs.Keyboard.{Keyboard}
use Rattle.model_keyboard.specs.Once.{byte_if, is_reset_due}
use Rattle.model_keyboard.specs.Queue.{clear, drop_first}
use Rattle.model_keyboard.specs.Tick.{tested_if, reset, without_offered}

-- more after what waits
pub waits_more : (r aa q more : List ℕ) → r ++ (aa ++ (q ++ more)) ≡ (r ++ (aa ++ q)) ++ more
waits_more r aa q more =
    ap (λ v. r ++ v) (sym (append_assoc aa q more)) ∙ sym (append_assoc r (aa ++ q) more)

-- a byte that goes leaves the queue, or was no byte of it
pub gone_queue : (r : Option Reply) (aa : Bool) (keys : Keys) (k : Keyboard) → k.reply ≡ r → k.aa_due ≡ aa
    → (without_offered r keys k).queue
    ≡ (if is_reset_due r then clear k.queue else if is_some r || aa then k.queue else drop_first k.queue)
gone_queue (Some r) aa keys k e a = by r.resets
  where
    by : (c : Bool) → (if c then reset keys k else record k { reply = None }).queue
        ≡ (if c then clear k.queue else k.queue)
    by true = refl
    by false = refl
gone_queue None true keys k e a = ap (λ c. if c then k.queue else drop_first k.queue) a
gone_queue None false keys k e a = ap (λ c. if c then k.queue else drop_first k.queue) a

-- the byte that goes ends what repeats exactly if it is the reply to a reset
pub gone_repeats : (r : Option Reply) (keys : Keys) (k : Keyboard)
    → (without_offered r keys k).repeats ≡ (if is_reset_due r then None else k.repeats)
gone_repeats (Some r) keys k = by r.resets
  where
    by : (c : Bool) → (if c then reset keys k else record k { reply = None }).repeats ≡ (if c then None else k.repeats)
    by true = refl
    by false = refl
gone_repeats None keys k = refl

-- the byte that goes starts the self-test anew, of 64 ticks, exactly if it is the reply to a reset
pub gone_test : (r : Option Reply) (keys : Keys) (k : Keyboard)
    → (without_offered r keys k).test ≡ (if is_reset_due r then 64 else k.test)
gone_test (Some r) keys k = by r.resets
  where
    by : (c : Bool) → (if c then reset keys k else record k { reply = None }).test ≡ (if c then 64 else k.test)
    by true = refl
    by false = refl
gone_test None keys k = refl

-- AA that falls due is before the queue
pub aa_first : (last due : Bool) (q more : List ℕ)
    → byte_if (if last then true else due) 0xaa ++ (q ++ more)
    ≡ byte_if (last && not due) 0xaa ++ ((byte_if due 0xaa ++ q) ++ more)
aa_first true true q more = refl
aa_first true false q more = refl
aa_first false true q more = refl
aa_first false false q more = refl

-- AA becomes due exactly if the self-test ends and none was due before
pub aa_new : (last due : Bool) → ((if last then true else due) && not due) ≡ (last && not due)
aa_new true true = refl
aa_new true false = refl
aa_new false true = refl
aa_new false false = refl

-- step 3, by whether the test runs
pub tested_queue : (c : Bool) (k : Keyboard) → (tested_if c k).queue ≡ k.queue
tested_queue true k = refl
tested_queue false k = refl

-- a tick of the self-test leaves what repeats
pub tested_repeats : (c : Bool) (k : Keyboard) → (tested_if c k).repeats ≡ k.repeats
tested_repeats true k = refl
tested_repeats false k = refl

-- a tick of the self-test leaves the reply
pub tested_reply : (c : Bool) (k : Keyboard) → (tested_if c k).reply ≡ k.reply
tested_reply true k = refl
tested_reply false k = refl

-- in the last tick of the test AA falls due
pub tested_aa : (k : Keyboard) → (tested_if (not (k.test == 0)) k).aa_due ≡ (if k.test == 1 then true else k.aa_due)
tested_aa k =
    elim (k.test == 0) as (λ c. (k.test == 0) ≡ c
    → (tested_if (not c) k).aa_due ≡ (if k.test == 1 then true else k.aa_due)) [
      | true ↦ λ e.
          let z : (k.test == 1) ≡ false = grind (arith, nat_tests, e) in
          ap (λ c. if c then true else k.aa_due) (sym z)
      | false ↦ λ e. refl
    ] refl

-- a tick of the self-test makes its count one less, down to 0
pub tested_test : (k : Keyboard) → (tested_if (not (k.test == 0)) k).test ≡ k.test - 1
tested_test k =
    elim (k.test == 0) as (λ c. (k.test == 0) ≡ c → (tested_if (not c) k).test ≡ k.test - 1) [
      | true ↦ λ e. let z : k.test ≡ k.test - 1 = grind (arith, nat_tests, e) in z
      | false ↦ λ e. refl
    ] refl
