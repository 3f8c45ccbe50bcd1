-- The byte that passes in a step, as the machine has it, and what is kept of more than one step.
use Rattle.std.proofs.Common.{◌≡◌, ℕ, suc, Bool, true, false, List, [], ◌∷◌, ◌++◌, append_assoc, Some, None, refl, ap, sym, ◌∙◌}
use Rattle.std.specs.Prelude.{if◌then◌else◌, map}
use Rattle.std.specs.declared.option.Option.{Option}
use Rattle.host_turn.specs.declared.stamped.Stamped.{Stamped}
use Rattle.joint_feed.specs.Stories.{state_at}
use Rattle.joint_run.specs.Joint.{Beside}
use Rattle.joint_run.specs.Run.{World}
use Rattle.joint_run.specs.declared.outside.Outside.{Outside}
use Rattle.live_board.proofs.Stepping.{here}
use Rattle.live_board.specs.Heard.{heard_all, heard_one, item_of, said_among, said_so}
use Rattle.live_board.specs.Passing.{at_fall, ended_at, passed_at, passed_between, passed_by}
use Rattle.live_board.specs.Pasts.{Past, gone_on, state_of, story_of}
use Rattle.live_board.specs.States.{HasPast}
use Rattle.live_items.specs.declared.happened.Happened.{Happened}
use Rattle.board_terms.specs.declared.transfer.Transfer.{Transfer}
use Rattle.live_board.specs.declared.heard.Heard.{Heard}
use Rattle.live_board.specs.declared.parts.Parts.{Parts as Keyboard}

-- what happens in two parts happens
pub heard_more : (h : Heard) (a b : List Happened) → heard_all (heard_all h a) b ≡ heard_all h (a ++ b)
heard_more h [] b = refl
heard_more h (it ∷ a) b = heard_more (heard_one h it) a b

-- as long as the clock keeps its level, no byte passes
high_none : (o : Option Transfer) (cycle : ℕ) → passed_by o cycle true ≡ []
high_none None cycle = refl
high_none (Some byte) cycle = refl

-- while the clock stays as it is no byte passes
pub still_none : (o : Outside) (cycle : ℕ) → passed_by (at_fall o) cycle o.clock ≡ []
still_none o cycle =
    elim o.clock as (λ b. passed_by (if b then ended_at o.desk.port.link else None) cycle b ≡ []) [
      | true ↦ high_none (ended_at o.desk.port.link) cycle
      | false ↦ refl
    ]

-- the byte that passes from one past to the next, as the machine before and after the step has it
pub passed_over : (p q : Past) (k new : Keyboard) → HasPast p k → HasPast q new
    → passed_between (state_of p) (state_of q) ≡ passed_by (at_fall k.joint.outside) k.joint.cycle new.joint.outside.clock
passed_over p q k new s t =
    ap (λ (o : Option (World Beside)). passed_between o (state_of q)) (here p k s)
    ∙ ap (λ (o : Option (World Beside)). passed_between (Some s.world) o) (here q new t)
    ∙ ap (λ (o : Outside). passed_by (at_fall o) s.world.cycle t.world.board.pc.clock) (sym s.in_run.outside)
    ∙ ap (λ (n : ℕ). passed_by (at_fall k.joint.outside) n t.world.board.pc.clock) (sym s.in_run.cycle)
    ∙ ap (λ (o : Outside). passed_by (at_fall k.joint.outside) k.joint.cycle o.clock) (sym t.in_run.outside)

-- in a run
pub passed_on : (p : Past) (k new : Keyboard)
    → HasPast (gone_on p k.joint.steps) k → HasPast (gone_on p new.joint.steps) new → new.joint.steps ≡ suc k.joint.steps
    → passed_at p k.joint.steps ≡ passed_by (at_fall k.joint.outside) k.joint.cycle new.joint.outside.clock
passed_on p k new s t steps =
    ap (λ n. passed_between (state_at (story_of p) k.joint.steps) (state_at (story_of p) n)) (sym steps)
    ∙ passed_over (gone_on p k.joint.steps) (gone_on p new.joint.steps) k new s t

-- what the log says among more
said_join : (a b : List Happened) → said_among (a ++ b) ≡ said_among a ++ said_among b
said_join [] b = refl
said_join (it ∷ a) b =
    ap (λ (l : List Stamped). item_of it.cycle it.what ++ l) (said_join a b)
    ∙ sym (append_assoc (item_of it.cycle it.what) (said_among a) (said_among b))

said_all : (items : List Stamped) → said_among (map said_so items) ≡ items
said_all [] = refl
said_all (s ∷ items) = ap (λ (l : List Stamped). s ∷ l) (said_all items)

silent : (o : Option Transfer) (cycle : ℕ) (clock : Bool) → said_among (passed_by o cycle clock) ≡ []
silent None cycle clock = refl
silent (Some byte) cycle true = refl
silent (Some byte) cycle false = refl

-- of what happened, what was said goes on by the step's items, and a byte that passed isn't among them
pub said_more : (before : List Happened) (o : Option Transfer) (cycle : ℕ) (clock : Bool) (items : List Stamped)
    → said_among (before ++ (passed_by o cycle clock ++ map said_so items)) ≡ said_among before ++ items
said_more before o cycle clock items =
    said_join before (passed_by o cycle clock ++ map said_so items)
    ∙ ap (λ (l : List Stamped). said_among before ++ l)
    (said_join (passed_by o cycle clock) (map said_so items)
    ∙ ap (λ (l : List Stamped). l ++ said_among (map said_so items)) (silent o cycle clock) ∙ said_all items)
