-- Under contacts that settle the run goes by what the columns show, and that is the model without a debounce.
use Rattle.std.proofs.Common.{◌≡◌, ◌<◌, ℕ, ◌+◌, true, Bool, List, refl, ap, ◌∙◌, subst, arith}
use Rattle.law_agreement.specs.Agreement.{IsPrompt, switched_on}
use Rattle.law_agreement.specs.AnyStart.{AsShown, GoesOnAs, model_from}
use Rattle.board_terms.specs.Cadence.{KeepsCadence}
use Rattle.board_terms.specs.declared.event.Edge.{Edge}
use Rattle.board_terms.specs.declared.event.HostEvent.{HostEvent}
use Rattle.model_controller.specs.declared.UnderWay.{UnderWay}
use Rattle.host_turn.specs.Run.{Side}
use Rattle.joint_run.specs.Joint.{Beside}
use Rattle.joint_run.specs.Run.{World}
use Rattle.law_keys_bounce.specs.Bounces.{BouncesShowFew}
use Rattle.law_keys_settle.proofs.Once.{TypesAs, typed as types_as}
use Rattle.law_keys_settle.specs.Settling.{AreSwitches}
use Rattle.layout_reader.specs.Layouts.{KeyLayout}
use Rattle.model_link.proofs.Taken.{AreWide, turned_shown}
use Rattle.model_link.specs.Debounce.{is_down_at, turned_all}
use Rattle.model_link.specs.Expected.{Whole, whole_at}
use Rattle.model_link.specs.Machine.{LayeredKeyboard, keyboard}
use Rattle.model_link.specs.TickEdges.{downs_before, downs_in, shown}
use Rattle.law_switches_settle.specs.Running.{BouncesRunClean, RunsClean, SwitchesRunClean}

module _ (layout : KeyLayout) (keys contacts : List Edge) (host : List HostEvent) (on : layout.debounce ≡ true)
    (sw : AreSwitches keys contacts) (from : World Beside)
    (goes : GoesOnAs layout contacts host from 0 (λ stamp. whole_at (keyboard layout) contacts host (λ n. stamp) 0)) where
  abbrev starts : ℕ → ℕ
  starts = goes.starts

  prompt : (n : ℕ) → IsPrompt n (starts n)
  prompt n = let same : 0 + n ≡ n = omega arith in subst (λ k. IsPrompt k (starts n)) same (goes.prompt n)

  cadence : KeepsCadence starts
  cadence n =
      let most = (prompt n).most in
      record { least = (prompt n).least; most = omega (arith, most) }

  -- the model under the contacts, by what the columns show
  abbrev V : ℕ → Whole LayeredKeyboard
  V n = model_from (keyboard layout) contacts host starts (whole_at (keyboard layout) contacts host (λ n. starts 0) 0) n

  abbrev es : ℕ → List (ℕ × Bool)
  es n = shown (is_down_at (V n).keys.switches.read) (downs_in starts contacts n)

  reading : (n p : ℕ) → AreWide (V n).keys.switches
      → ((q : ℕ) → q < 96 → is_down_at (V n).keys.switches.read q ≡ downs_before starts contacts n q) → p < 96
      → is_down_at (turned_all (es n) (V n).keys.switches.read) p ≡ downs_in starts contacts n p
  reading n p wide read l = turned_shown (V n).keys.switches.read (downs_in starts contacts n) p wide.read l

  typed : TypesAs layout keys host starts V
  typed = types_as layout keys contacts host starts on cadence sw V es refl (λ n. refl) reading

  -- a run under contacts that settle late is the model's under clean keys
  pub clean : RunsClean layout keys contacts host from
  clean = record {
    goes_on = goes.goes_on;
    starts = starts;
    each = goes.each;
    prompt = prompt;
    seen = typed.seen;
    later = typed.later;
    holds = λ n stamp s.
        let h = goes.holds n stamp s in
        let same = typed.like n in
        (h.0 ∙ same.keyboard, h.1 ∙ same.layers);
    log = λ n stamp s. goes.log n stamp s ∙ ap (λ (m : Side UnderWay). m.log) (typed.like n).side;
  }

-- with a debounce the run under contacts that settle late is the model's under clean keys, if each tick shows few
-- changes
pub run_clean : AsShown → SwitchesRunClean
run_clean law layout keys contacts host fine on ok sw few m small =
    clean layout keys contacts host on sw (switched_on contacts host m) (law layout contacts host fine ok few m small)

-- with a debounce the run is the model's under clean keys, if in each window of 2,225 cycles at most four places have
-- edges
pub bounces_run_clean : AsShown → BouncesShowFew → BouncesRunClean
bounces_run_clean law shows layout keys contacts host fine on ok sw few m small =
    run_clean law layout keys contacts host fine on ok sw (λ n. shows contacts few n) m small
