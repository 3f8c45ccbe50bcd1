-- Blocks one after another.
use Rattle.std.proofs.Common.{◌≡◌, ◌*◌, ◌≤◌, ℕ, suc, zero, ◌+◌, List, true, nat_le, Some, refl, ap, sym, ◌∙◌, subst}
use Rattle.std.proofs.Common.{arith, zero-add, add-zero}
use Rattle.std.proofs.lemmas.Bool.Decides.{nat_tests}
use Rattle.mcs48_core.specs.Cpu.{Cpu}
use Rattle.joint_run.specs.Run.{Board, after_cycles}
use Rattle.joint_run.specs.Starts.{calm}
use Rattle.law_fw_logic.proofs.TimerParts.{IsFree, timer_parts, total}
use Rattle.law_fw_logic.proofs.Path.{Stage, Code, Note, Path}
use Rattle.law_fw_logic.proofs.Leads.{Leads, HasRows}
use Rattle.law_fw_logic.proofs.Block.{memory, scratched, begin_at, At}
use Rattle.law_fw_logic.proofs.Sound.{weaken, sound, ticks_from}

-- n cycles and then k more are n + k cycles of the board
pub ticks_add : {S : Type 0} (n k x : ℕ) (f : ℕ → S → S) (s : S)
    → after_cycles (n + k) x f s ≡ after_cycles k (x + n) f (after_cycles n x f s)
ticks_add zero k x f s = let e : x + 0 ≡ x = omega arith in rw (zero-add, e) refl
ticks_add (suc n) k x f s =
    let e : suc n + k ≡ suc (n + k) = omega arith in
    let a : x + suc n ≡ x + 1 + n = omega arith in
    rw (e, a) (ticks_add n k (x + 1) f (f x s))

-- a number that the test finds at most as large as another is so
pub within : (a b : ℕ) → nat_le a b ≡ true → a ≤ b
within a b h = grind (arith, nat_tests, h)

module _ (d : Board) (code : Code) (has : HasRows code) where
  abbrev pub later : ℕ → Stage d.State → Stage d.State
  later o s = record { cpu = s.cpu; board = s.board; off = o + s.off }

  -- a law whose time is counted from a stage on
  pub resume : (x o : ℕ) (s : Stage d.State) (R T : Stage d.State → Type 0)
      → ((e : Stage d.State) → R e → T (later o e)) → Leads d code (x + o) s R → Leads d code x (later o s) T
  resume x o s R T f h =
      let begin : x + o + s.off ≡ x + (o + s.off) = omega arith in
      let stop : x + o + h.end.off ≡ x + (o + h.end.off) = omega arith in
      let l : s.off ≤ h.end.off = h.order in
      record {
        steps = h.steps;
        end = later o h.end;
        run =
            ap (λ n. calm d code.tick code.bytes h.steps (record { cpu = s.cpu; board = s.board; cycle = n }))
            (sym begin) ∙ h.run
            ∙ ap (λ n. Some (record { cpu = h.end.cpu; board = h.end.board; cycle = n })) stop;
        goal = f h.end h.goal;
        each = λ k one l at.
            h.each k one l
            (ap (λ n. calm d code.tick code.bytes k (record { cpu = s.cpu; board = s.board; cycle = n })) begin ∙ at);
        free = h.free;
        order = omega (arith, l);
        timer_later = λ timed timing room.
            let k = h.timer_later timed timing (omega (arith, room)) in
            let c : total (timer_parts h.end.cpu) + s.off ≡ total (timer_parts s.cpu) + h.end.off = k.count in
            record { count = omega (arith, c); timing = k.timing; tf = k.tf; rq = k.rq; tim_on = k.tim_on };
        over = λ timed timing on.
            let k = h.over timed timing on in
            let n : ℕ = k.counts.0 in
            let c : total (timer_parts h.end.cpu) + s.off + 8192 * n ≡ total (timer_parts s.cpu) + h.end.off = k.counts.1 in
            record {
              timing = k.timing;
              tim_on = k.tim_on;
              keeps = k.keeps;
              asks = λ room. k.asks (omega (arith, room));
              counts = (n, omega (arith, c));
            };
      }

  -- a law of a block, from a stage at which the block begins
  pub from_stage : (x pc : ℕ) (n : Cpu) (g : ℕ → ℕ) (ring : List ℕ) (e : Stage d.State) (R T : Stage d.State → Type 0)
      → e.cpu ≡ scratched n pc (memory g ring) e.cpu → ((e2 : Stage d.State) → R e2 → T (later e.off e2))
      → Leads d code (x + e.off) (begin_at d pc g ring e.cpu e.board) R → Leads d code x e T
  from_stage x pc n g ring e R T is f h =
      let c : Cpu = e.cpu in
      let begin = begin_at d pc g ring c e.board in
      let same : begin.cpu ≡ e.cpu =
      ap (λ k. scratched c k.pc k.ram c) (sym is) ∙ ap (λ k. record c { rb = k.rb; mb = k.mb }) (sym is) in
      let z : e.off + 0 ≡ e.off = add-zero e.off in
      let done : Leads d code x (later e.off begin) T = resume x e.off begin R T f h in
      subst (λ k. Leads d code x (record { cpu = k; board = e.board; off = e.off }) T) same
      (subst (λ k. Leads d code x (record { cpu = begin.cpu; board = e.board; off = k }) T) z done)

  -- a block that is a path of known length
  pub straight : (plan : List Note) (y : ℕ) (k : Cpu) (from to n : ℕ) (f g : ℕ → ℕ) (ring : List ℕ) (k' : Cpu)
      (board after : d.State)
      → IsFree k
      → Path d code y plan (begin_at d from f ring k board) (λ e. (e.cpu ≡ scratched k' to (memory g ring) e.cpu)
      × (e.off ≡ n) × (e.board ≡ after))
      → Leads d code y (begin_at d from f ring k board) (At d k' to g ring n after)
  straight plan y k from to n f g ring k' board after free path =
      let Q : Stage d.State → Type 0 =
      λ e. (e.cpu ≡ scratched k' to (memory g ring) e.cpu) × (e.off ≡ n) × (e.board ≡ after) in
      weaken d code has y Q (At d k' to g ring n after) (begin_at d from f ring k board)
      (λ e h. record { cpu = h.0; off = h.1; now = h.2 })
      (sound d code has y plan Q (begin_at d from f ring k board) path free)

-- cycles by offsets from a cycle
pub absolute : {S : Type 0} (n y : ℕ) (f : ℕ → S → S) (s : S) → after_cycles n 0 (λ o. f (y + o)) s ≡ after_cycles n y f s
absolute n y f s = sym (ticks_from n 0 y f s) ∙ ap (λ c. after_cycles n c f s) (add-zero y)

-- cycles of a board after other cycles of it
pub joined : {S : Type 0} (n m y z : ℕ) (f : ℕ → S → S) (s : S) → z ≡ y + n
    → after_cycles m z f (after_cycles n y f s) ≡ after_cycles (n + m) y f s
joined n m y z f s e = ap (λ c. after_cycles m c f (after_cycles n y f s)) e ∙ sym (ticks_add n m y f s)
