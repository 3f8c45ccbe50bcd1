-- What a step does of what a run is to stop for.
use Rattle.std.proofs.Common.{◌≡◌, ◌≤◌, ◌<◌, ℕ, suc, Bool, true, false, ◌&&◌, List, [], ◌∷◌, ◌++◌, length}
use Rattle.std.proofs.Common.{Some, None, refl, ap, sym, ◌∙◌, ◌⊎◌, inl, inr, length-append, ltb, arith}
use Rattle.std.specs.Prelude.{◌||◌, nat_lt}
use Rattle.std.specs.declared.option.Option.{Option}
use Rattle.std.proofs.lemmas.Bool.Decides.{nat_tests}
use Rattle.board_terms.specs.declared.lines.Lines.{Lines}
use Rattle.host_turn.specs.declared.stamped.Stamped.{Stamped}
use Rattle.joint_feed.specs.Stories.{state_at}
use Rattle.joint_run.specs.Cycle.{outside_wires}
use Rattle.joint_run.specs.Due.{outside_of}
use Rattle.joint_run.specs.Joint.{Beside, joint_board, log_of}
use Rattle.joint_run.specs.Run.{World, joint_step, step_on}
use Rattle.joint_run.specs.declared.machine.Machine.{Machine}
use Rattle.live_board.proofs.Stepping.{here}
use Rattle.live_board.specs.Calls.{Says}
use Rattle.live_board.specs.Pasts.{Past, gone_on, story_of}
use Rattle.live_board.specs.Rising.{irq_in, irq_of, rises, rose}
use Rattle.live_board.specs.Running.{AreUnmet, at_rise, counter_met, differ, is_met, item_met, met_at, met_between, met_by, met_from}
use Rattle.live_board.specs.Running.{nothing_met, wires_met}
use Rattle.live_board.specs.States.{HasPast}
use Rattle.live_board.specs.declared.irq.Irq.{Irq}
use Rattle.live_board.specs.declared.parts.Parts.{Parts as Keyboard}
use Rattle.live_board.specs.declared.stops.Met.{Met}
use Rattle.live_board.specs.declared.stops.Stops.{Stops}

abbrev pub lines_of : Machine → Lines
lines_of m = outside_wires m.mcu.p2 m.outside

-- a log grows by what is said, if anything is
grows : (a b : List Stamped) → nat_lt (length a) (length (a ++ b)) ≡ item_met b
grows a [] = let l = length-append a [] in grind (arith, nat_tests, l)
grows a (x ∷ b) = let l = length-append a (x ∷ b) in grind (arith, nat_tests, l)

-- wires that stay as they are
same_level : (b : Bool) → differ b b ≡ false
same_level true = refl
same_level false = refl

-- wires that stay as they are don't change
pub flat_wires : (l : Lines) → wires_met l l ≡ false
flat_wires l = ap (λ b. b || differ l.dat l.dat) (same_level l.clk) ∙ same_level l.dat

-- a condition that isn't met
pub not_met : (asked met : Bool) → met ≡ false → (asked && met) ≡ false
not_met true met e = e
not_met false met e = refl

-- if none of the four is so, nothing is met
pub none_of : (a b c d : Bool) → a ≡ false → b ≡ false → c ≡ false → d ≡ false → (a || (b || (c || d))) ≡ false
none_of a b c d e f g h = ap (λ x. x || (b || (c || d))) e ∙ ap (λ x. x || (c || d)) f ∙ ap (λ x. x || d) g ∙ h

-- what a step does is what the machines before it and after it show
module _ (stops : Stops) (p : Past) (k new : Keyboard) (s : HasPast (gone_on p k.joint.steps) k)
    (t : HasPast (gone_on p new.joint.steps) new) (steps : new.joint.steps ≡ suc k.joint.steps)
    (said : Says (gone_on p k.joint.steps) (gone_on p new.joint.steps) new.seen.items.items) where
  first : state_at (story_of p) k.joint.steps ≡ Some s.world
  first = here (gone_on p k.joint.steps) k s

  next : state_at (story_of p) new.joint.steps ≡ Some t.world
  next = here (gone_on p new.joint.steps) new t

  grown : nat_lt (length (log_of s.world.board)) (length (log_of t.world.board)) ≡ item_met new.seen.items.items
  grown =
      ap (λ (l : List Stamped). nat_lt (length (log_of s.world.board)) (length l)) (said s.world t.world first next)
      ∙ grows (log_of s.world.board) new.seen.items.items

  shown : met_from stops s.world t.world ≡ met_by stops (irq_of k.joint.outside.desk.port) (lines_of k.joint) new
  shown =
      let a : outside_of s.world.board ≡ k.joint.outside = sym s.in_run.outside in
      let b : outside_of t.world.board ≡ new.joint.outside = sym t.in_run.outside in
      let c : s.world.cpu ≡ k.joint.mcu = sym s.in_run.mcu in
      let d : t.world.cpu ≡ new.joint.mcu = sym t.in_run.mcu in
      let e = grown in
      λ i. record {
        rise = stops.rise && rose (irq_of (a i).desk.port) (irq_of (b i).desk.port);
        item = stops.item && e i;
        wires = stops.wires && wires_met (outside_wires (c i).p2 (a i)) (outside_wires (d i).p2 (b i));
        counter = counter_met stops.counter (d i).pc;
      }

  -- whether a step meets a stop is seen from the machines before it and after it
  pub met_here : met_at stops p k.joint.steps ≡ met_by stops (irq_of k.joint.outside.desk.port) (lines_of k.joint) new
  met_here =
      ap (λ n. met_between stops (state_at (story_of p) k.joint.steps) (state_at (story_of p) n)) (sym steps)
      ∙ ap (λ o. met_between stops o (state_at (story_of p) new.joint.steps)) first
      ∙ ap (λ o. met_between stops (Some s.world) o) next
      ∙ shown

-- a step of the first k + 1 is one of the first k, or the last
pub last_or_before : (j k : ℕ) → j < suc k → (j < k) ⊎ (j ≡ k)
last_or_before j k l =
    elim (ltb j k) as (λ b. ltb j k ≡ b → (j < k) ⊎ (j ≡ k)) [
      | true ↦ λ h. inl (grind (arith, nat_tests, h))
      | false ↦ λ h. let m : k ≤ j = grind (arith, nat_tests, h) in inr (omega (arith, l, m))
    ] refl

-- a step more that does nothing of it
pub unmet_more : (stops : Stops) (p : Past) (from to new : ℕ) → AreUnmet stops p from to → new ≡ suc to
    → is_met (met_at stops p to) ≡ false → AreUnmet stops p from new
unmet_more stops p from to new before steps flat j l m =
    let less : j < suc to = omega (arith, m, steps) in
    elim (last_or_before j to less) [
      | inl b ↦ before j l b
      | inr e ↦ ap (λ n. is_met (met_at stops p n)) e ∙ flat
    ]

-- what the step did, by the line and the wires before it
pub as_met : (stops : Stops) (new : Keyboard) (m : Met) (was i : Irq) (lines l : Lines)
    → m ≡ met_by stops was lines new → was ≡ i → lines ≡ l → met_by stops i l new ≡ m
as_met stops new m was i lines l e a b = sym (e ∙ (λ j. met_by stops (a j) (b j) new))

or_not : (b : Bool) → (b || false) ≡ b
or_not true = refl
or_not false = refl

and_not : (b : Bool) → false ≡ (b && false)
and_not true = refl
and_not false = refl

rise_between : (watched : Bool) (p : Past) (o : Option (World Beside))
    → is_met (met_between (at_rise watched) o (step_on (joint_board p.edges p.events) p.bytes o))
    ≡ (watched && rose (irq_in o) (irq_in (step_on (joint_board p.edges p.events) p.bytes o)))
rise_between watched p None = and_not watched
rise_between watched p (Some w) = by (joint_step (joint_board p.edges p.events) p.bytes w)
  where
    by : (n : Option (World Beside))
        → is_met (met_between (at_rise watched) (Some w) n) ≡ (watched && rose (irq_in (Some w)) (irq_in n))
    by None = and_not watched
    by (Some v) = or_not (watched && rose (irq_in (Some w)) (irq_in (Some v)))

-- a run that stops for a rise of the line alone meets a stop exactly in a step that raises it, if the line is watched
pub rise_is_met : (watched : Bool) (p : Past) (j : ℕ) → is_met (met_at (at_rise watched) p j) ≡ (watched && rises p j)
rise_is_met watched p j = rise_between watched p (state_at (story_of p) j)

rise_of : (b : Bool) → is_met (record nothing_met { rise = b }) ≡ true → record nothing_met { rise = b } ≡ record nothing_met { rise = true }
rise_of true h = refl
rise_of false h = absurd cc

only_between : (o n : Option (World Beside)) → is_met (met_between (at_rise true) o n) ≡ true
    → met_between (at_rise true) o n ≡ record nothing_met { rise = true }
only_between None n h = absurd cc
only_between (Some w) None h = absurd cc
only_between (Some w) (Some v) h = rise_of (rose (irq_in (Some w)) (irq_in (Some v))) h

-- and what it meets is the rise
pub only_rise : (p : Past) (j : ℕ) → is_met (met_at (at_rise true) p j) ≡ true
    → met_at (at_rise true) p j ≡ record nothing_met { rise = true }
only_rise p j h = only_between (state_at (story_of p) j) (state_at (story_of p) (suc j)) h
