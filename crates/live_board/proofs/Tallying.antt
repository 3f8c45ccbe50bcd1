-- What happens in a run is kept, and the rises of the line are counted.
use Rattle.std.proofs.Common.{◌≡◌, ◌≤◌, suc, ◌+◌, Bool, true, false, List, [], ◌++◌, append_assoc}
use Rattle.std.proofs.Common.{refl, ap, sym, subst, ◌∙◌, arith}
use Rattle.std.specs.Prelude.{if◌then◌else◌, map}
use Rattle.std.proofs.lemmas.List.{append-nil}
use Rattle.host_turn.specs.declared.stamped.Stamped.{Stamped}
use Rattle.joint_feed.proofs.Going.{same_state}
use Rattle.joint_feed.specs.Stories.{state_at}
use Rattle.joint_run.specs.Joint.{Beside, log_of}
use Rattle.joint_run.specs.Run.{World}
use Rattle.joint_run.specs.declared.machine.Machine.{Machine}
use Rattle.live_board.proofs.Gliding.{steady}
use Rattle.live_board.proofs.Passed.{heard_more, passed_on, said_more}
use Rattle.live_board.proofs.Stepping.{here}
use Rattle.live_board.specs.Calls.{Says}
use Rattle.live_board.specs.Heard.{HasKeptAll, heard_all, rise, rises_in, said_among, said_so}
use Rattle.live_board.specs.Passing.{at_fall, passed_at, passed_by}
use Rattle.live_board.specs.Pasts.{Past, gone_on, state_of, story_of}
use Rattle.live_board.specs.Rising.{irq_in, irq_of, rises, rose}
use Rattle.live_board.specs.States.{HasPast}
use Rattle.live_items.specs.declared.happened.Happened.{Happened}
use Rattle.live_board.specs.declared.irq.Irq.{Irq}
use Rattle.live_board.specs.declared.parts.Parts.{Parts as Keyboard}

-- a line that stays as it is doesn't rise, and it rises once at most
pub still_rise : (i : Irq) → rise i i ≡ 0
still_rise i = ap (λ (b : Bool). if b then 1 else 0) (steady i)

once : (b : Bool) → (if b then 1 else 0) ≤ 1
once true = omega arith
once false = omega arith

-- in a step the interrupt line rises once at most
pub rise_few : (was is : Irq) → rise was is ≤ 1
rise_few was is = once (rose was is)

-- before the first step
pub tally_first : (p : Past) (old k : Keyboard) → k.joint ≡ old.joint → k.heard ≡ old.heard → k.rises ≡ 0 → HasKeptAll p old k
tally_first p old k joint heard none =
    let at = ap (λ (m : Machine). m.steps) joint in
    record {
      steps = 0;
      made = omega (arith, at);
      all = [];
      happened = refl;
      said = λ w v from to.
          let same : w ≡ v = same_state (sym from ∙ ap (λ n. state_at (story_of p) n) (sym at) ∙ to) in
          ap (λ (u : World Beside). log_of u.board) (sym same) ∙ sym (append-nil (log_of w.board));
      kept = heard;
      risen = none;
    }

-- where nothing of it has changed
pub tally_still : (p : Past) (old k new : Keyboard)
    → new.joint ≡ k.joint → new.heard ≡ k.heard → new.rises ≡ k.rises → HasKeptAll p old k → HasKeptAll p old new
tally_still p old k new joint heard same h =
    let at = ap (λ (m : Machine). m.steps) joint in
    record {
      steps = h.steps;
      made = at ∙ h.made;
      all = h.all;
      happened = h.happened;
      said = subst (λ n. Says (gone_on p old.joint.steps) (gone_on p n) (said_among h.all)) (sym at) h.said;
      kept = heard ∙ h.kept;
      risen = same ∙ h.risen;
    }

-- the line as the machine has it is that of the state
pub line_here : (p : Past) (k : Keyboard) (s : HasPast p k) → irq_of k.joint.outside.desk.port ≡ irq_in (state_of p)
line_here p k s =
    ap (λ o. irq_of o.desk.port) s.in_run.outside ∙ sym (ap irq_in (here p k s))

-- whether the step from here raises it
rise_is : (p : Past) (k new : Keyboard)
    → HasPast (gone_on p k.joint.steps) k → HasPast (gone_on p new.joint.steps) new → new.joint.steps ≡ suc k.joint.steps
    → rises p k.joint.steps ≡ rose (irq_of k.joint.outside.desk.port) (irq_of new.joint.outside.desk.port)
rise_is p k new s t steps =
    let a = line_here (gone_on p k.joint.steps) k s in
    let b : irq_of new.joint.outside.desk.port ≡ irq_in (state_at (story_of p) (suc k.joint.steps)) =
    line_here (gone_on p new.joint.steps) new t ∙ ap (λ n. irq_in (state_at (story_of p) n)) steps in
    ap (λ x. rose x (irq_in (state_at (story_of p) (suc k.joint.steps)))) (sym a)
    ∙ ap (λ x. rose (irq_of k.joint.outside.desk.port) x) (sym b)

-- what happens in one step more is kept, and a rise is counted
pub tally_more : (p : Past) (old k new : Keyboard) (s : HasPast (gone_on p k.joint.steps) k) (t : HasPast (gone_on p new.joint.steps) new)
    → new.joint.steps ≡ suc k.joint.steps → (items : List Stamped) → Says (gone_on p k.joint.steps) (gone_on p new.joint.steps) items
    → new.heard ≡ heard_all k.heard (passed_by (at_fall k.joint.outside) k.joint.cycle new.joint.outside.clock ++ map said_so items)
    → new.rises ≡ k.rises + rise (irq_of k.joint.outside.desk.port) (irq_of new.joint.outside.desk.port)
    → HasKeptAll p old k → HasKeptAll p old new
tally_more p old k new s t steps items said kept risen h =
    let made = h.made in
    let passed : List Happened = passed_by (at_fall k.joint.outside) k.joint.cycle new.joint.outside.clock in
    let more : List Happened = passed ++ map said_so items in
    let mid = here (gone_on p k.joint.steps) k s in
    let is : rises p (old.joint.steps + h.steps) ≡ _ = ap (rises p) (sym made) ∙ rise_is p k new s t steps in
    record {
      steps = suc h.steps;
      made = omega (arith, made, steps);
      all = h.all ++ more;
      happened = (
        h.all,
        items,
        h.happened,
        subst (λ n. Says (gone_on p n) (gone_on p (suc n)) items) made
            (subst (λ n. Says (gone_on p k.joint.steps) (gone_on p n) items) steps said),
        ap (λ (v : List Happened). h.all ++ (v ++ map said_so items))
            (sym (ap (passed_at p) (sym made) ∙ passed_on p k new s t steps)),
      );
      said = λ w v from to.
          said s.world v mid to ∙ ap (λ l. l ++ items) (h.said w s.world from mid)
          ∙ append_assoc (log_of w.board) (said_among h.all) items
          ∙ ap (λ (l : List Stamped). log_of w.board ++ l)
          (sym (said_more h.all (at_fall k.joint.outside) k.joint.cycle new.joint.outside.clock items));
      kept = kept ∙ ap (λ x. heard_all x more) h.kept ∙ heard_more old.heard h.all more;
      risen = risen
          ∙ ap (λ n. n + rise (irq_of k.joint.outside.desk.port) (irq_of new.joint.outside.desk.port)) h.risen
          ∙ ap (λ (b : Bool). rises_in p old.joint.steps h.steps + (if b then 1 else 0)) (sym is);
    }
