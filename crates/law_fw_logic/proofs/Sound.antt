-- A path that is shown is a joint run.
use Rattle.std.proofs.Common.{◌≡◌, ℕ, suc, zero, ◌+◌, ◌%◌, List, [], ◌∷◌, Bool, true, false, ◌==◌}
use Rattle.std.proofs.Common.{Some, None, refl, ap, sym, subst}
use Rattle.std.specs.declared.option.Option.{Option}
use Rattle.mcs48_isa.specs.declared.operation.Decoded.{Decoded}
use Rattle.mcs48_isa.specs.declared.operation.Op.{Op}
use Rattle.mcs48_isa.specs.declared.operation.Op.TheVariants.{Moves, Alu, Unary, Flow, PortIo, Control}
use Rattle.mcs48_isa.specs.declared.operation.FlowOp.{FlowOp}
use Rattle.mcs48_isa.specs.declared.operation.FlowOp.TheVariants.{Jmp, Call, Ret, Retr, Jmpp, Djnz, Jb, Jc, Jnc, Jz}
use Rattle.mcs48_isa.specs.declared.operation.FlowOp.TheVariants.{Jnz, Jt0, Jnt0, Jt1, Jnt1, Jf0, Jf1, Jtf, Jni}
use Rattle.mcs48_core.specs.declared.levels.Pins.{Pins}
use Rattle.mcs48_core.specs.Cpu.{Cpu}
use Rattle.mcs48_core.specs.Registers.{past, register, with_register}
use Rattle.mcs48_core.specs.Flow.{branch, flow}
use Rattle.mcs48_core.specs.Timer.{after_timer}
use Rattle.joint_run.specs.Run.{Board}
use Rattle.law_fw_logic.proofs.TimerParts.{IsFree}
use Rattle.law_fw_logic.proofs.Path.{Stage, Code, Note, Run, Until, Go, Count, Acc, Ram, Fork, Path, jumped, Meets, Forks}
use Rattle.law_fw_logic.proofs.Path.{Runs, Untils, Quiet, Plainly, Answers, Jumps, Parts, Is, condition, answered, pins_at}
use Rattle.law_fw_logic.proofs.Path.{moved, left, is_taken, tests_at}
use Rattle.law_fw_logic.proofs.Leads.{Leads, HasRows}
pub use Rattle.law_fw_logic.proofs.Chain.{stepped_is, ticks_from, chain, stay, weaken}
use Rattle.law_fw_logic.proofs.Chain.{then, here, by_row}

module _ (d : Board) (code : Code) (has : HasRows code) (x : ℕ) where
  -- a stage comes to one of the set
  abbrev To : Stage d.State → (Stage d.State → Type 0) → Type 0
  To s K = IsFree s.cpu → Leads d code x s K

  -- an instruction of which nothing is asked: it may be on a path, so the run comes to what it leaves
  row_leads_by : (K : Stage d.State → Type 0) (s : Stage d.State) (r : Decoded) → code.row s.cpu.pc ≡ Some r
      → (s.cpu.pc % 2048 == code.tick) ≡ false → (b : Bool) → is_taken code.timed r.op ≡ b
      → (elim b as (λ v. Type 0) [ true ↦ K (moved d x r.cycles (left d code x r s) s) | false ↦ ⊥ ]) → To s K
  row_leads_by K s r row off false is h = absurd h
  row_leads_by K s r row off true is h = by_row d code has x K s r row is off h

  -- the code has a row at the counter
  row_leads : (K : Stage d.State → Type 0) (s : Stage d.State) (o : Option Decoded) → code.row s.cpu.pc ≡ o
      → (s.cpu.pc % 2048 == code.tick) ≡ false → Plainly d code x o s K → To s K
  row_leads K s None row off h = absurd h
  row_leads K s (Some r) row off h = row_leads_by K s r row off (is_taken code.timed r.op) refl h

  -- the counter isn't at the tick's place
  step_leads_by : (K : Stage d.State → Type 0) (s : Stage d.State) (b : Bool) → (s.cpu.pc % 2048 == code.tick) ≡ b
      → (elim b as (λ v. Type 0) [ true ↦ ⊥ | false ↦ Plainly d code x (code.row s.cpu.pc) s K ]) → To s K
  step_leads_by K s true off h = absurd h
  step_leads_by K s false off h = row_leads K s (code.row s.cpu.pc) refl off h

  -- a `Quiet` step leads on
  step_leads : (K : Stage d.State → Type 0) (s : Stage d.State) → Quiet d code x s K → To s K
  step_leads K s h = step_leads_by K s (s.cpu.pc % 2048 == code.tick) refl h

  -- n such steps lead on, as `Run n` notes
  steps_lead : (n : ℕ) (K : Stage d.State → Type 0) (s : Stage d.State) → Runs d code x n s K → To s K
  steps_lead zero K s h = here d code has x K s h
  steps_lead (suc n) K s h =
      then d code has x (λ t. Runs d code x n t K) K s (step_leads (λ t. Runs d code x n t K) s h) (λ t g. steps_lead n K t g)

  -- such steps up to the last place lead on, as `Until`, `Go` and `Fork` notes: none at the place, else one and then
  -- the others
  until_leads_by : (last : ℕ → Bool) (n : ℕ) (K : Stage d.State → Type 0) (s : Stage d.State)
      → ((t : Stage d.State) → Untils d code x last n t K → To t K) → (b : Bool)
      → (elim b as (λ v. Type 0) [ true ↦ K s | false ↦ Quiet d code x s (λ t. Untils d code x last n t K) ])
      → To s K
  until_leads_by last n K s ih true h = here d code has x K s h
  until_leads_by last n K s ih false h =
      then d code has x (λ t. Untils d code x last n t K) K s (step_leads (λ t. Untils d code x last n t K) s h) ih

  until_leads : (last : ℕ → Bool) (n : ℕ) (K : Stage d.State → Type 0) (s : Stage d.State) → Untils d code x last n s K → To s K
  until_leads last zero K s h = absurd h
  until_leads last (suc n) K s h = until_leads_by last n K s (λ t g. until_leads last n K t g) (last s.cpu.pc) h

  -- an answered jump is the jump
  answered_is_jump : (op : FlowOp) (pins : Pins) (m : Cpu) (b : Bool) (P : Type 0) → Is (condition op pins m) b P
      → (answered op b m ≡ flow op code.bytes pins m) × P
  answered_is_jump (Djnz r to) pins m b P h =
      (ap (λ b. branch b to (with_register r ((register r m + 255) % 256) m)) (sym h.0), h.1)
  answered_is_jump (Jb k to) pins m b P h = (ap (λ b. branch b to m) (sym h.0), h.1)
  answered_is_jump (Jc to) pins m b P h = (ap (λ b. branch b to m) (sym h.0), h.1)
  answered_is_jump (Jnc to) pins m b P h = (ap (λ b. branch b to m) (sym h.0), h.1)
  answered_is_jump (Jz to) pins m b P h = (ap (λ b. branch b to m) (sym h.0), h.1)
  answered_is_jump (Jnz to) pins m b P h = (ap (λ b. branch b to m) (sym h.0), h.1)
  answered_is_jump (Jt0 to) pins m b P h = (ap (λ b. branch b to m) (sym h.0), h.1)
  answered_is_jump (Jnt0 to) pins m b P h = (ap (λ b. branch b to m) (sym h.0), h.1)
  answered_is_jump (Jt1 to) pins m b P h = (ap (λ b. branch b to m) (sym h.0), h.1)
  answered_is_jump (Jnt1 to) pins m b P h = (ap (λ b. branch b to m) (sym h.0), h.1)
  answered_is_jump (Jf0 to) pins m b P h = (ap (λ b. branch b to m) (sym h.0), h.1)
  answered_is_jump (Jf1 to) pins m b P h = (ap (λ b. branch b to m) (sym h.0), h.1)
  answered_is_jump (Jni to) pins m b P h = (ap (λ b. branch b to m) (sym h.0), h.1)
  answered_is_jump (Jmp to) pins m b P h = absurd h
  answered_is_jump (Call to) pins m b P h = absurd h
  answered_is_jump Ret pins m b P h = absurd h
  answered_is_jump Retr pins m b P h = absurd h
  answered_is_jump Jmpp pins m b P h = absurd h
  answered_is_jump (Jtf to) pins m b P h = (ap (λ b. branch b to (record m { tf = false })) (sym h.0), h.1)

  -- a jump whose condition has the answer b, as `Go b` and `Count b` notes: the instruction may be on a path
  answer_leads_by : (b : Bool) (K : Stage d.State → Type 0) (s : Stage d.State) (len cycles : ℕ) (op : FlowOp)
      → code.row s.cpu.pc ≡ Some (record { op = Flow op; len = len; cycles = cycles })
      → (s.cpu.pc % 2048 == code.tick) ≡ false
      → (c : Bool) → is_taken code.timed (Flow op) ≡ c
      → (elim c as (λ v.
      Type 0) [
        | true ↦ Is (condition op (pins_at d x s) (past s.cpu)) b
            (K (moved d x cycles (after_timer s.cpu.run cycles (pins_at d x s) (answered op b (past s.cpu))) s))
        | false ↦ ⊥
      ])
      → To s K
  answer_leads_by b K s len cycles op row off false taken h = absurd h
  answer_leads_by b K s len cycles op row off true taken h =
      let pins = pins_at d x s in
      let a =
      answered_is_jump op pins (past s.cpu) b
      (K (moved d x cycles (after_timer s.cpu.run cycles pins (answered op b (past s.cpu))) s)) h in
      by_row d code has x K s (record { op = Flow op; len = len; cycles = cycles }) row taken off
      (subst (λ m. K (moved d x cycles (after_timer s.cpu.run cycles pins m) s)) a.0 a.1)

  -- it is a jump, since no other instruction has a condition
  answer_of_jump_leads : (b : Bool) (K : Stage d.State → Type 0) (s : Stage d.State) (len cycles : ℕ) (op : Op)
      → code.row s.cpu.pc ≡ Some (record { op = op; len = len; cycles = cycles })
      → (s.cpu.pc % 2048 == code.tick) ≡ false
      → Jumps d code x (Some (record { op = op; len = len; cycles = cycles })) b s K → To s K
  answer_of_jump_leads b K s len cycles (Moves op) row off h = absurd h
  answer_of_jump_leads b K s len cycles (Alu op) row off h = absurd h
  answer_of_jump_leads b K s len cycles (Unary op) row off h = absurd h
  answer_of_jump_leads b K s len cycles (PortIo op) row off h = absurd h
  answer_of_jump_leads b K s len cycles (Control op) row off h = absurd h
  answer_of_jump_leads b K s len cycles (Flow op) row off h =
      answer_leads_by b K s len cycles op row off (is_taken code.timed (Flow op)) refl h

  -- the code has a row there
  answer_of_row_leads : (b : Bool) (K : Stage d.State → Type 0) (s : Stage d.State) (o : Option Decoded) → code.row s.cpu.pc ≡ o
      → (s.cpu.pc % 2048 == code.tick) ≡ false → Jumps d code x o b s K → To s K
  answer_of_row_leads b K s None row off h = absurd h
  answer_of_row_leads b K s (Some r) row off h = answer_of_jump_leads b K s r.len r.cycles r.op row off h

  -- and the counter isn't at the tick's place
  answer_leads : (b : Bool) (K : Stage d.State → Type 0) (s : Stage d.State) (c : Bool)
      → (s.cpu.pc % 2048 == code.tick) ≡ c
      → (elim c as (λ v. Type 0) [ true ↦ ⊥ | false ↦ Jumps d code x (code.row s.cpu.pc) b s K ]) → To s K
  answer_leads b K s true off h = absurd h
  answer_leads b K s false off h = answer_of_row_leads b K s (code.row s.cpu.pc) refl off h

  -- an answered jump lets no interrupt in
  answered_stays_free : (op : FlowOp) (b : Bool) (m : Cpu) → IsFree m → IsFree (answered op b m)
  answered_stays_free (Jmp to) b m h = h
  answered_stays_free op b m h = h

  -- an answered jump, and what follows it
  jump_leads : (K : Stage d.State → Type 0) (s : Stage d.State) (len cycles : ℕ) (op : FlowOp) (b : Bool)
      → code.row s.cpu.pc ≡ Some (record { op = Flow op; len = len; cycles = cycles })
      → is_taken code.timed (Flow op) ≡ true → (s.cpu.pc % 2048 == code.tick) ≡ false
      → condition op (pins_at d x s) (past s.cpu) ≡ Some b → Leads d code x (jumped d x cycles op b s) K → To s K
  jump_leads K s len cycles op b row taken off is rest free =
      let pins = pins_at d x s in
      let a = answered_is_jump op pins (past s.cpu) b (Unit {0}) (subst (λ o. Is o b (Unit {0})) (sym is) (refl, tt)) in
      chain d code has x (λ e. e ≡ jumped d x cycles op b s) K s
      (by_row d code has x (λ e. e ≡ jumped d x cycles op b s) s (record { op = Flow op; len = len; cycles = cycles })
      row taken off (ap (λ m. moved d x cycles (after_timer s.cpu.run cycles pins m) s) (sym a.0)) free)
      (λ e same f. subst (λ t. Leads d code x t K) (sym same) rest)

  -- both ways of a jump meet at one place, in states that F tells apart, as `Fork` notes: whichever way the run goes, it
  -- comes to what is shown of both
  both_ways_lead : (p : ℕ) (F : Cpu → Bool → Cpu → Cpu) (K : Stage d.State → Type 0) (s : Stage d.State) (len cycles : ℕ)
      (op : FlowOp)
      → code.row s.cpu.pc ≡ Some (record { op = Flow op; len = len; cycles = cycles })
      → is_taken code.timed (Flow op) ≡ true
      → (s.cpu.pc % 2048 == code.tick) ≡ false → (o : Option Bool) → condition op (pins_at d x s) (past s.cpu) ≡ o
      → Meets d code x p F cycles op s o K → To s K
  both_ways_lead p F K s len cycles op row taken off None is h free = absurd h
  both_ways_lead p F K s len cycles op row taken off (Some true) is h free =
      jump_leads K s len cycles op true row taken off is
      (chain d code has x (λ t. (t.cpu ≡ F s.cpu true t.cpu)
      × Untils d code x (λ pc. pc == p) 200 (jumped d x cycles op false s)
      (λ u. (u.cpu ≡ F s.cpu false u.cpu) × (u.board ≡ t.board) × (u.off ≡ t.off)
      × ((e : Cpu) → K (record { cpu = F s.cpu true e; board = t.board; off = t.off })))) K
      (jumped d x cycles op true s)
      (until_leads (λ pc. pc == p) 200 (λ t. (t.cpu ≡ F s.cpu true t.cpu)
      × Untils d code x (λ pc. pc == p) 200 (jumped d x cycles op false s)
      (λ u. (u.cpu ≡ F s.cpu false u.cpu) × (u.board ≡ t.board) × (u.off ≡ t.off)
      × ((e : Cpu) → K (record { cpu = F s.cpu true e; board = t.board; off = t.off })))) (jumped d x cycles op true s)
      h (answered_stays_free op true (past s.cpu) free))
      (λ t g f.
      let other =
      until_leads (λ pc. pc == p) 200
      (λ u. (u.cpu ≡ F s.cpu false u.cpu) × (u.board ≡ t.board) × (u.off ≡ t.off)
      × ((e : Cpu) → K (record { cpu = F s.cpu true e; board = t.board; off = t.off })))
      (jumped d x cycles op false s) g.1 (answered_stays_free op false (past s.cpu) free) in
      stay d code has x K t (subst (λ c. K (record { cpu = c; board = t.board; off = t.off })) (sym g.0)
      (other.goal.3 t.cpu)) f))
      free
  both_ways_lead p F K s len cycles op row taken off (Some false) is h free =
      let first =
      until_leads (λ pc. pc == p) 200
      (λ t. (t.cpu ≡ F s.cpu true t.cpu) × Untils d code x (λ pc. pc == p) 200 (jumped d x cycles op false s)
      (λ u. (u.cpu ≡ F s.cpu false u.cpu) × (u.board ≡ t.board) × (u.off ≡ t.off)
      × ((e : Cpu) → K (record { cpu = F s.cpu false e; board = t.board; off = t.off }))))
      (jumped d x cycles op true s) h (answered_stays_free op true (past s.cpu) free) in
      let t = first.end in
      let Q : Stage d.State → Type 0 =
      λ u. (u.cpu ≡ F s.cpu false u.cpu) × (u.board ≡ t.board) × (u.off ≡ t.off) ×
      ((e : Cpu) → K (record { cpu = F s.cpu false e; board = t.board; off = t.off })) in
      jump_leads K s len cycles op false row taken off is
      (chain d code has x Q K (jumped d x cycles op false s)
      (until_leads (λ pc. pc == p) 200 Q (jumped d x cycles op false s) first.goal.1
      (answered_stays_free op false (past s.cpu) free))
      (λ u g f.
      stay d code has x K u
      (subst (λ c. K (record { cpu = c; board = u.board; off = u.off })) (sym g.0)
      (subst (λ v. K (record { cpu = F s.cpu false u.cpu; board = v; off = u.off })) (sym g.1)
      (subst (λ v. K (record { cpu = F s.cpu false u.cpu; board = t.board; off = v })) (sym g.2) (g.3 u.cpu)))) f))
      free

  -- the instruction may be on a path
  fork_leads_by : (p : ℕ) (F : Cpu → Bool → Cpu → Cpu) (K : Stage d.State → Type 0) (s : Stage d.State) (len cycles : ℕ)
      (op : FlowOp)
      → code.row s.cpu.pc ≡ Some (record { op = Flow op; len = len; cycles = cycles })
      → (s.cpu.pc % 2048 == code.tick) ≡ false
      → (c : Bool) → is_taken code.timed (Flow op) ≡ c
      → (elim c as (λ v.
      Type 0) [ true ↦ Meets d code x p F cycles op s (condition op (pins_at d x s) (past s.cpu)) K | false ↦ ⊥ ])
      → To s K
  fork_leads_by p F K s len cycles op row off false taken h = absurd h
  fork_leads_by p F K s len cycles op row off true taken h =
      both_ways_lead p F K s len cycles op row taken off (condition op (pins_at d x s) (past s.cpu)) refl h

  -- it is a jump
  fork_of_jump_leads : (p : ℕ) (F : Cpu → Bool → Cpu → Cpu) (K : Stage d.State → Type 0) (s : Stage d.State) (len cycles : ℕ)
      (op : Op)
      → code.row s.cpu.pc ≡ Some (record { op = op; len = len; cycles = cycles })
      → (s.cpu.pc % 2048 == code.tick) ≡ false
      → Forks d code x p F (Some (record { op = op; len = len; cycles = cycles })) s K → To s K
  fork_of_jump_leads p F K s len cycles (Moves op) row off h = absurd h
  fork_of_jump_leads p F K s len cycles (Alu op) row off h = absurd h
  fork_of_jump_leads p F K s len cycles (Unary op) row off h = absurd h
  fork_of_jump_leads p F K s len cycles (PortIo op) row off h = absurd h
  fork_of_jump_leads p F K s len cycles (Control op) row off h = absurd h
  fork_of_jump_leads p F K s len cycles (Flow op) row off h =
      fork_leads_by p F K s len cycles op row off (is_taken code.timed (Flow op)) refl h

  -- the code has a row there
  fork_of_row_leads : (p : ℕ) (F : Cpu → Bool → Cpu → Cpu) (K : Stage d.State → Type 0) (s : Stage d.State) (o : Option Decoded)
      → code.row s.cpu.pc ≡ o → (s.cpu.pc % 2048 == code.tick) ≡ false → Forks d code x p F o s K → To s K
  fork_of_row_leads p F K s None row off h = absurd h
  fork_of_row_leads p F K s (Some r) row off h = fork_of_jump_leads p F K s r.len r.cycles r.op row off h

  -- and the counter isn't at the tick's place
  fork_leads : (p : ℕ) (F : Cpu → Bool → Cpu → Cpu) (K : Stage d.State → Type 0) (s : Stage d.State) (c : Bool)
      → (s.cpu.pc % 2048 == code.tick) ≡ c
      → (elim c as (λ v. Type 0) [ true ↦ ⊥ | false ↦ Forks d code x p F (code.row s.cpu.pc) s K ]) → To s K
  fork_leads p F K s true off h = absurd h
  fork_leads p F K s false off h = fork_of_row_leads p F K s (code.row s.cpu.pc) refl off h

  -- what is shown note by note is so of the joint run
  pub sound : (plan : List Note) (Q : Stage d.State → Type 0) (s : Stage d.State) → Path d code x plan s Q → To s Q
  sound [] Q s h = here d code has x Q s h
  sound (Run n ∷ rest) Q s h =
      then d code has x (λ t. Path d code x rest t Q) Q s (steps_lead n (λ t. Path d code x rest t Q) s h)
      (λ t g. sound rest Q t g)
  sound (Until p ∷ rest) Q s h =
      then d code has x (λ t. Path d code x rest t Q) Q s (until_leads (λ pc. pc == p) 1000 (λ t. Path d code x rest t Q) s h)
      (λ t g. sound rest Q t g)
  sound (Go b ∷ rest) Q s h =
      then d code has x (λ t. Answers d code x b t (λ u. Path d code x rest u Q)) Q s
      (until_leads (tests_at code) 1000 (λ t. Answers d code x b t (λ u. Path d code x rest u Q)) s h)
      (λ t g.
      then d code has x (λ u. Path d code x rest u Q) Q t
      (answer_leads b (λ u. Path d code x rest u Q) t (t.cpu.pc % 2048 == code.tick) refl g) (λ u k. sound rest Q u k))
  sound (Count b ∷ rest) Q s h =
      then d code has x (λ t. Path d code x rest t Q) Q s
      (answer_leads b (λ t. Path d code x rest t Q) s (s.cpu.pc % 2048 == code.tick) refl h) (λ t g. sound rest Q t g)
  sound (Acc v ∷ rest) Q s h =
      subst (λ a. To (record s { cpu = record s.cpu { a = a } }) Q) (sym h.0)
      (sound rest Q (record s { cpu = record s.cpu { a = v } }) h.1)
  sound (Ram ram ∷ rest) Q s h =
      subst (λ a. To (record s { cpu = record s.cpu { ram = a } }) Q) (sym h.0)
      (sound rest Q (record s { cpu = record s.cpu { ram = ram } }) h.1)
  sound (Fork p F ∷ rest) Q s h =
      then d code has x (λ t. Parts d code x p F t (λ u. Path d code x rest u Q)) Q s
      (until_leads (tests_at code) 1000 (λ t. Parts d code x p F t (λ u. Path d code x rest u Q)) s h)
      (λ t g.
      then d code has x (λ u. Path d code x rest u Q) Q t
      (fork_leads p F (λ u. Path d code x rest u Q) t (t.cpu.pc % 2048 == code.tick) refl g) (λ u k. sound rest Q u k))
