-- What a keyboard reports of the wires is what passes over them, and is heard on them.
use Rattle.std.proofs.Common.{◌≡◌, ℕ, zero, suc, ◌+◌, ◌-◌, List, [], ◌∷◌, ◌++◌, append_assoc, map, Some, None}
use Rattle.std.proofs.Common.{refl, ap, sym, subst, ◌∙◌, arith}
use Rattle.std.proofs.lemmas.List.{append-nil}
use Rattle.std.specs.declared.option.Option.{Option}
use Rattle.run_probes.specs.Transfers.{Ear}
use Rattle.fw_compile.specs.Image.{image_of}
use Rattle.host_turn.specs.declared.stamped.Stamped.{Stamped}
use Rattle.live_items.specs.declared.happened.Happened.{Happened}
use Rattle.joint_feed.proofs.Going.{same_state}
use Rattle.joint_feed.specs.Stories.{Story, state_at}
use Rattle.joint_run.specs.Joint.{Beside, joint_board}
use Rattle.joint_run.specs.Run.{World, after_step, seen}
use Rattle.live_board.proofs.Timed.{joined}
use Rattle.live_board.specs.Heard.{said_so}
use Rattle.live_board.specs.Passing.{passed_at as reported_at}
use Rattle.live_board.specs.Passing.{passed_between as reported_between}
use Rattle.live_board.specs.Passing.{passed_in as reported_in}
use Rattle.live_board.specs.Pasts.{Past, story_of}
use Rattle.law_live_heard.proofs.Cycles.{same_bytes}
use Rattle.law_live_heard.specs.Heard.{BytesAreHeard, BytesArePassed, byte_of, bytes_among, history_of, passed_from, transfers_from}
use Rattle.mcs48_core.specs.Step.{Stepped, stepped}
use Rattle.law_wires_heard.specs.Hearing.{AnyMemoryHeard, heard_in, heard_to, transfer_at, transfer_in}
use Rattle.law_wires_heard.specs.Passing.{ended_within, passed_at, passed_between, passed_in}

-- in a step
same_step : (s : Story) (w v : World Beside) (o : Option Stepped) → after_step (joint_board s.edges s.events) w o ≡ Some v
    → bytes_among (reported_in w v) ≡ passed_in s.events w v
same_step s w v None h = absurd cc
same_step s w v (Some n) h =
    let count : n.cycles ≡ w.cycle + n.cycles - w.cycle = omega arith in
    subst (λ (u : World Beside). bytes_among (reported_in w u) ≡ passed_in s.events w u) (same_state h)
    (same_bytes s.events n.cpu.p2 n.cycles w.cycle w.cycle w.board
    ∙ ap (λ c. ended_within s.events n.cpu.p2 w.cycle c w.board) count)

between : (s : Story) (k : ℕ) (o q : Option (World Beside)) → state_at s k ≡ o → state_at s (suc k) ≡ q
    → bytes_among (reported_between o q) ≡ passed_between s.events o q
between s k None q h g = refl
between s k (Some w) None h g = refl
between s k (Some w) (Some v) h g =
    same_step s w v (stepped s.bytes (seen (joint_board s.edges s.events) w) w.cpu) (joined s k w v h g)

among_join : (a b : List Happened) → bytes_among (a ++ b) ≡ bytes_among a ++ bytes_among b
among_join [] b = refl
among_join (it ∷ a) b =
    ap (λ v. byte_of it.what ++ v) (among_join a b) ∙ sym (append_assoc (byte_of it.what) (bytes_among a) (bytes_among b))

among_said : (items : List Stamped) → bytes_among (map said_so items) ≡ []
among_said [] = refl
among_said (s ∷ items) = among_said items

in_step : (p : Past) (k : ℕ) (items : List Stamped)
    → bytes_among (reported_at p k ++ map said_so items) ≡ passed_at (story_of p) k
in_step p k items =
    among_join (reported_at p k) (map said_so items)
    ∙ ap (λ v. bytes_among (reported_at p k) ++ v) (among_said items)
    ∙ append-nil (bytes_among (reported_at p k))
    ∙ between (story_of p) k (state_at (story_of p) k) (state_at (story_of p) (suc k)) refl refl

-- the bytes that a keyboard reports of the wires are those that the controller takes and sends, in order
pub bytes_passed : BytesArePassed
bytes_passed p from zero all h = ap bytes_among h
bytes_passed p from (suc n) all h =
    let before = bytes_passed p from n h.0 h.2 in
    let last = in_step p (from + n) h.1 in
    let rest : List Happened = reported_at p (from + n) ++ map said_so h.1 in
    let both : bytes_among h.0 ++ bytes_among rest ≡ passed_from (story_of p) from n ++ passed_at (story_of p) (from + n) =
    λ i. before i ++ last i in
    ap bytes_among h.4 ∙ among_join h.0 rest ∙ both

-- a story of these keys and events, with this end
abbrev ended_story : Past → List ℕ → ℕ → Story
ended_story p bytes stop = record { bytes = bytes; edges = p.edges; events = p.events; stop = stop; held = p.held }

-- what is heard doesn't depend on the end
heard_alike : (p : Past) (bytes : List ℕ) (stop k : ℕ) → heard_to (ended_story p bytes stop) k ≡ heard_to (ended_story p bytes 0) k
heard_alike p bytes stop zero = refl
heard_alike p bytes stop (suc k) = ap (λ (e : Ear). heard_in (state_at (ended_story p bytes 0) (suc k)) e) (heard_alike p bytes stop k)

transfer_alike : (p : Past) (bytes : List ℕ) (stop k : ℕ) → transfer_at (ended_story p bytes stop) k ≡ transfer_at (ended_story p bytes 0) k
transfer_alike p bytes stop k =
    ap (λ (e : Ear). transfer_in (state_at (ended_story p bytes 0) (suc k)) e) (heard_alike p bytes stop k)

all_alike : (s : Story) (from n : ℕ) → ((k : ℕ) → transfer_at s k ≡ passed_at s k) → passed_from s from n ≡ transfers_from s from n
all_alike s from zero each = refl
all_alike s from (suc n) each =
    let before = all_alike s from n each in
    let last = sym (each (from + n)) in
    λ i. before i ++ last i

-- in a lawful past the bytes that a keyboard reports of the wires are those that are heard on them, in order
pub bytes_heard : AnyMemoryHeard → BytesAreHeard
bytes_heard law layout p stop from n all is bytes fine lawful h =
    let image = image_of layout in
    let hears = law layout (history_of p stop) p.held is lawful fine in
    let there : (k : ℕ) → transfer_at (ended_story p image 0) k ≡ passed_at (ended_story p image 0) k =
    λ k. sym (transfer_alike p image stop k) ∙ hears.each k in
    let each : (k : ℕ) → transfer_at (story_of p) k ≡ passed_at (story_of p) k =
    subst (λ b. (k : ℕ) → transfer_at (ended_story p b 0) k ≡ passed_at (ended_story p b 0) k) (sym bytes) there in
    bytes_passed p from n all h ∙ all_alike (story_of p) from n each
