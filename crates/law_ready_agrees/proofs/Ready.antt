-- A keyboard that is ready: the rise that ended its run is that of the self-test's AA.
use Rattle.std.proofs.Common.{◌≡◌, ◌≤◌, ◌<◌, ◌^◌, ℕ, suc, ◌+◌, ◌-◌, ◌*◌, ◌&&◌, Bool, true, false, leb, List, [], ◌∷◌}
use Rattle.std.proofs.Common.{Ok, Err, Some, None, refl, ap, sym, ◌∙◌, subst, inl, inr, arith}
use Rattle.std.proofs.lemmas.Bool.Decides.{nat_tests}
use Rattle.std.proofs.lemmas.List.Elements.{All-cons, All-nil}
use Rattle.std.specs.declared.result.Result.{Result}
use Rattle.law_agreement.specs.Agreement.{IsPrompt, PromptLaw}
use Rattle.bits.specs.Bits.{has_bit}
use Rattle.board_terms.specs.Flips.{FlipsDataOrParity}
use Rattle.board_terms.specs.declared.event.Edge.{Edge}
use Rattle.board_terms.specs.declared.event.HostAct.TheVariants.{Mask}
use Rattle.board_terms.specs.declared.event.HostEvent.{HostEvent}
use Rattle.ctl_core.specs.Controller.{ControllerState}
use Rattle.fw_compile.specs.Image.{image_of}
use Rattle.joint_feed.specs.Stories.{Story, state_at}
use Rattle.joint_run.specs.Filled.{filled}
use Rattle.joint_run.specs.Joint.{Beside}
use Rattle.joint_run.specs.Run.{World}
use Rattle.joint_run.specs.declared.outside.Outside.{Outside}
use Rattle.key_file.specs.Accepted.{IsLawfulFor, WritesByte}
use Rattle.layout_reader.specs.Layouts.{IsKeyLayout, KeyLayout}
use Rattle.law_link_times.specs.Reads.{EachIsReadOnce}
use Rattle.law_live_agrees.proofs.Ends.{later_cycle}
use Rattle.law_live_agrees.proofs.Logs.{goes_between}
use Rattle.law_live_agrees.proofs.Opened.{ends_at_0}
use Rattle.law_live_agrees.specs.Law.{AnyUseIsLawful, FillsAreFine, LogsAgree, NeverStuck, history_of}
use Rattle.law_live_agrees.specs.Opened.{IsMasked, masked_at}
use Rattle.live_board.proofs.Growing.{grows}
use Rattle.live_board.proofs.Meeting.{only_rise, rise_is_met}
use Rattle.live_board.proofs.Stepping.{here}
use Rattle.live_board.specs.Answers.{raises}
use Rattle.live_board.specs.Calls.{IsActed}
use Rattle.live_board.specs.Pasts.{Past, acted, gone_on, state_of, story_of, untouched}
use Rattle.live_board.specs.Ready.{IsReady}
use Rattle.live_board.specs.Rising.{irq_in}
use Rattle.live_board.specs.Running.{AreUnmet, EndsSo, HasRun, at_rise, is_met, met_at, nothing_met}
use Rattle.live_board.specs.States.{HasPast}
use Rattle.live_board.specs.declared.parts.Parts.{Parts as Keyboard}
use Rattle.live_board.specs.declared.ran.RunEnd.{RunEnd}
use Rattle.live_board.specs.declared.ran.RunEnd.TheVariants as ends
use Rattle.live_board.specs.declared.refused.Refused.{Refused}
use Rattle.live_board.specs.declared.refused.Refused.TheVariants as R
use Rattle.mcs48_ranges.specs.Sizes.{IsFine}
use Rattle.law_ready_agrees.proofs.Keeping.{Keeps}
use Rattle.law_ready_agrees.proofs.Rising.{Rises, is_up, rises_between, up_after}
use Rattle.law_ready_agrees.proofs.Starts.{AtStarts, aa_put, model_at_starts, none_put}
use Rattle.law_ready_agrees.proofs.States.{kept_at, keeps_between, story}
use Rattle.law_ready_agrees.proofs.Tested.{none_waits, sends_it, waits_for_it}
use Rattle.law_ready_agrees.specs.Opened.{HasPutOut, ReadyHasPutOut, masked_history}

-- the line is up if the output buffer is full, where its interrupt is enabled
raises_by : (c : ControllerState) → c.command_byte ≡ 0x45 → raises c ≡ c.output_full
raises_by c command = ap (λ b. c.output_full && has_bit 0x01 b) command ∙ and_true c.output_full
  where
    and_true : (b : Bool) → (b && true) ≡ b
    and_true true = refl
    and_true false = refl

module _ (stuck : NeverStuck) (logs : LogsAgree) (use_any : AnyUseIsLawful) (fills : FillsAreFine) (prompt : PromptLaw)
    (reads : EachIsReadOnce) (layout : KeyLayout) (fine : IsKeyLayout layout) where
  abbrev bytes : List ℕ
  bytes = image_of layout

  small : IsFine (filled 0)
  small = fills 0 (omega arith)

  goes : (p : Past) → p.bytes ≡ bytes → p.held ≡ filled 0 → (w : World Beside) × (state_of p ≡ Some w)
  goes p is held = stuck layout p fine is (subst (λ m. IsFine m) (sym held) small)

  abbrev masks : ℕ → HostEvent
  masks stamp = record { stamp = stamp; act = Mask }

  lawful : (stamp steps stop : ℕ) → IsLawfulFor layout (history_of (masked_at 0 bytes stamp steps) stop)
  lawful stamp steps stop =
      use_any layout (masked_at 0 bytes stamp steps) stop refl tt
      (All-cons (λ (e : HostEvent). WritesByte e.act) (masks stamp) [] tt (All-nil (λ (e : HostEvent). WritesByte e.act)))
      (All-cons (λ (e : HostEvent). FlipsDataOrParity e.act) (masks stamp) [] tt
      (All-nil (λ (e : HostEvent). FlipsDataOrParity e.act)))

  is_masked : (stamp steps : ℕ) (k : Keyboard) → stamp ≤ 1 → HasPast (masked_at 0 bytes stamp steps) k → IsMasked layout 0 k
  is_masked stamp steps k soon s = record {
    stamp = stamp;
    soon = soon;
    steps = steps;
    has_past = s;
    fine = small;
    lawful = lawful stamp steps;
    agrees = logs layout (masked_at 0 bytes stamp steps) 0 k s fine refl small (lawful stamp steps 0);
  }

  -- the call that masks is done
  acted_so : (old new : Keyboard) (answer : Result (Unit {0}) Refused) (steps : ℕ) → HasPast (untouched 0 bytes steps) old
      → 4096 ≤ old.joint.cycle → old.joint.cycle ≤ 4097 → IsActed Mask old answer new
      → HasPast (masked_at 0 bytes (old.joint.cycle - 4096) (suc steps)) new
  acted_so old new (Ok done) steps s late soon a = a.1 (untouched 0 bytes steps) s
  acted_so old new (Err R.Early) steps s late soon a = absurd (let l : old.joint.cycle < 4096 = a.0 in omega (arith, l, late))
  acted_so old new (Err R.LastCycle) steps s late soon a = absurd (let l = a.0 in omega (arith, l, soon))
  acted_so old new (Err R.Full) steps s late soon a = absurd (let e : false ≡ true = a.0.2 in cc)
  acted_so old new (Err (R.Stuck place)) steps s late soon a =
      absurd (let w = goes (acted (untouched 0 bytes steps) (old.joint.cycle - 4096) Mask) refl refl in
      let e : None ≡ Some w.0 = sym (a.0.2 (untouched 0 bytes steps) s) ∙ w.1 in cc)

  module _ (middle opened : Keyboard) (late : 4096 ≤ middle.joint.cycle) (soon : middle.joint.cycle ≤ 4097)
      (s : HasPast (untouched 0 bytes middle.joint.steps) middle)
      (t : HasPast (masked_at 0 bytes (middle.joint.cycle - 4096) (suc middle.joint.steps)) opened) where
    abbrev stamp : ℕ
    stamp = middle.joint.cycle - 4096

    abbrev q : Past
    q = masked_at 0 bytes stamp (suc middle.joint.steps)

    abbrev run : Story
    run = story bytes stamp

    a : AtStarts layout stamp
    a = model_at_starts layout stamp fine (lawful stamp 0 0) small

    abbrev w64 : World Beside
    w64 = (a.each 64).state

    abbrev w65 : World Beside
    w65 = (a.each 65).state

    abbrev n64 : ℕ
    n64 = (a.each 64).steps

    abbrev n65 : ℕ
    n65 = (a.each 65).steps

    near : (n : ℕ) → IsPrompt n (a.starts n)
    near n = prompt layout (masked_history stamp) fine (lawful stamp 0 0) (filled 0) small n (a.starts n) (a.each n)

    cycle64 : (4096 + 2048 * 64 ≤ w64.cycle) × (w64.cycle ≤ 4096 + 2048 * 64 + 1)
    cycle64 =
        let c : w64.cycle ≡ 4096 + a.starts 64 = (a.each 64).cycle in
        let l = (near 64).least in
        let m = (near 64).most in
        (omega (arith, c, l), omega (arith, c, m))

    cycle65 : (4096 + 2048 * 65 ≤ w65.cycle) × (w65.cycle ≤ 4096 + 2048 * 65 + 1)
    cycle65 =
        let c : w65.cycle ≡ 4096 + a.starts 65 = (a.each 65).cycle in
        let l = (near 65).least in
        let m = (near 65).most in
        (omega (arith, c, l), omega (arith, c, m))

    -- of two states the one of the earlier cycle has fewer steps
    sooner : (i j : ℕ) (w v : World Beside) → state_at run i ≡ Some w → state_at run j ≡ Some v → w.cycle < v.cycle → i < j
    sooner i j w v h g l = by (leb j i) refl
      where
        by : (b : Bool) → leb j i ≡ b → i < j
        by true e =
            let back : j ≤ i = grind (arith, nat_tests, e) in
            let sum : i - j + j ≡ i = omega (arith, back) in
            let on = (goes_between run j (i - j) v w g (ap (state_at run) sum ∙ h)).0 in
            absurd (omega (arith, on, l))
        by false e = grind (arith, nat_tests, e)

    no_later : (i j : ℕ) (w v : World Beside) → i ≤ j → state_at run i ≡ Some w → state_at run j ≡ Some v → w.cycle ≤ v.cycle
    no_later i j w v l h g =
        let sum : j - i + i ≡ j = omega (arith, l) in
        (goes_between run i (j - i) w v h (ap (state_at run) sum ∙ g)).0

    -- up to the mask the run is that without it
    middle_at : state_at run middle.joint.steps ≡ Some s.world
    middle_at =
        let cycle : middle.joint.cycle ≡ s.world.cycle = s.in_run.cycle in
        let ahead : s.world.cycle ≤ stamp + 4096 = omega (arith, cycle, late) in
        grows (story_of (untouched 0 bytes 0)) [] (masks stamp ∷ []) middle.joint.steps s.world
        (here (untouched 0 bytes middle.joint.steps) middle s)
        (record {
          edges_ahead = All-nil (λ (e : Edge). s.world.cycle ≤ e.stamp + 4096);
          events_ahead =
              All-cons (λ (e : HostEvent). s.world.cycle ≤ e.stamp + 4096) (masks stamp) [] ahead
              (All-nil (λ (e : HostEvent). s.world.cycle ≤ e.stamp + 4096));
        })

    abbrev n0 : ℕ
    n0 = suc middle.joint.steps

    abbrev w0 : World Beside
    w0 = t.world

    opened_at : state_at run n0 ≡ Some w0
    opened_at = here q opened t

    order0 : n0 ≤ n64
    order0 =
        let cycle : middle.joint.cycle ≡ s.world.cycle = s.in_run.cycle in
        let c = cycle64.0 in
        sooner middle.joint.steps n64 s.world w64 middle_at (a.each 64).reached (omega (arith, cycle, soon, c))

    order : n64 ≤ n65
    order =
        let c = cycle64.1 in
        let e = cycle65.0 in
        let l : n64 < n65 = sooner n64 n65 w64 w65 (a.each 64).reached (a.each 65).reached (omega (arith, c, e)) in
        omega (arith, l)

    cycle0 : (4096 ≤ w0.cycle) × (w0.cycle ≤ w64.cycle)
    cycle0 =
        let cycle : middle.joint.cycle ≡ s.world.cycle = s.in_run.cycle in
        let on = no_later middle.joint.steps n0 s.world w0 (omega arith) middle_at opened_at in
        (omega (arith, cycle, late, on), no_later n0 n64 w0 w64 order0 opened_at (a.each 64).reached)

    done0 : w0.board.pc.side.done ≡ 1
    done0 = t.all_done

    keep : (j : ℕ) (v : World Beside) → n0 ≤ j → state_at run j ≡ Some v → Keeps stamp w0.board.pc.side v.board.pc.side
    keep j v l g = keeps_between bytes stamp n0 j w0 v l opened_at g done0

    keep_on : (i j : ℕ) (w v : World Beside) → n0 ≤ i → i ≤ j → state_at run i ≡ Some w → state_at run j ≡ Some v
        → Keeps stamp w.board.pc.side v.board.pc.side
    keep_on i j w v l m h g = keeps_between bytes stamp i j w v m h g (keep i w l h).done

    abbrev full : World Beside → Bool
    full w = w.board.pc.side.port.core.output_full

    -- while the buffer is full at one state, it is full at each later one
    empty_before : (i : ℕ) (w : World Beside) → n0 ≤ i → i ≤ n64 → state_at run i ≡ Some w → full w ≡ false
    empty_before i w l m h = by (full w) refl
      where
        by : (b : Bool) → full w ≡ b → full w ≡ false
        by true e =
            let same = (keep_on i n64 w w64 l m h (a.each 64).reached).stays e in
            let both : true ≡ false =
            sym e ∙ ap (λ (c : ControllerState). c.output_full) (sym same) ∙ (none_put reads layout stamp a).1 in
            absurd cc
        by false e = e

    put : (full w65 ≡ true) × (w65.board.pc.side.port.core.output ≡ 0xaa)
    put =
        aa_put reads layout stamp a
        ((keep_on n64 n65 w64 w65 order0 order (a.each 64).reached (a.each 65).reached).reads ∙ (none_put reads layout stamp a).0)

    up_is : (j : ℕ) (w : World Beside) → state_at run j ≡ Some w → is_up q j ≡ full w
    up_is j w h =
        ap (λ o. (irq_in o).up) h ∙ raises_by w.board.pc.side.port.core (kept_at bytes stamp j w h).command

    rise : Rises q n0 n65
    rise =
        rises_between q n0 n65 (let l = order0 in let m = order in omega (arith, l, m))
        (up_is n0 w0 opened_at ∙ empty_before n0 w0 (omega arith) order0 opened_at)
        (up_is n65 w65 (a.each 65).reached ∙ put.0)

    module _ (k : Keyboard) (end : RunEnd) (r : HasRun (at_rise true) q opened 400000 None end k) where
      abbrev e : HasPast (gone_on q k.joint.steps) k
      e = r.has_past

      abbrev n : ℕ
      n = k.joint.steps

      k_at : state_at run n ≡ Some e.world
      k_at = here (gone_on q n) k e

      from : opened.joint.steps ≡ n0
      from = t.steps

      k_cycle : k.joint.cycle ≡ e.world.cycle
      k_cycle = e.in_run.cycle

      first_cycle : opened.joint.cycle ≡ w0.cycle
      first_cycle = t.in_run.cycle

      -- it ended at a rise of the line, at start 65 at the latest
      record Ended (x : RunEnd) : Type 0 where
        rose : x ≡ ends.Met (record nothing_met { rise = true })
        up : is_up q n ≡ true
        least : n0 ≤ n
        most : n ≤ n65

      not_unmet : (to : ℕ) → n65 ≤ to → AreUnmet (at_rise true) q opened.joint.steps to → ⊥
      not_unmet to l unmet =
          let late = rise.late in
          let soon = rise.soon in
          let begun = from in
          let off = unmet rise.step (omega (arith, late, begun)) (omega (arith, soon, l)) in
          let both : true ≡ false = sym rise.rises ∙ sym (rise_is_met true q rise.step) ∙ off in
          absurd cc

      ended : (x : RunEnd) → EndsSo (at_rise true) q opened 400000 None x k → Ended x
      ended ends.Passed h = elim h.0 [
        | inl far ↦
            let c = first_cycle in
            let d = k_cycle in
            let low = cycle0.0 in
            let high = cycle65.1 in
            let past : n65 < n =
            sooner n65 n w65 e.world (a.each 65).reached k_at (omega (arith, far, c, d, low, high)) in
            absurd (not_unmet n (omega (arith, past)) h.1)
        | inr none ↦ absurd none
      ]
      ended (ends.Met what) h =
          let last : ℕ = h.0 in
          let is : n ≡ suc last = h.1 in
          let begun : opened.joint.steps ≤ last = h.2 in
          let first = from in
          let met : is_met (met_at (at_rise true) q last) ≡ true = ap is_met h.4 ∙ h.5 in
          record {
            rose = ap (λ m. ends.Met m) (sym h.4 ∙ only_rise q last met);
            up = ap (is_up q) is
                ∙ up_after (irq_in (state_at (story_of q) last)) (irq_in (state_at (story_of q) (suc last)))
                (sym (rise_is_met true q last) ∙ met);
            least = omega (arith, is, begun, first);
            most = by (leb n65 last) last refl is h.3;
          }
        where
          by : (b : Bool) (last : ℕ) → leb n65 last ≡ b → n ≡ suc last → AreUnmet (at_rise true) q opened.joint.steps last
              → n ≤ n65
          by true last is same unmet = absurd (not_unmet last (grind (arith, nat_tests, is)) unmet)
          by false last is same unmet =
              let l : last < n65 = grind (arith, nat_tests, is) in omega (arith, l, same)
      ended ends.LastCycle h =
          let far : 2 ^ 62 ≤ k.joint.cycle = h.0 in
          let near : k.joint.cycle < opened.joint.cycle + 400000 = h.1.soon in
          let c = first_cycle in
          let high = cycle0.1 in
          let most = cycle64.1 in
          absurd (omega (arith, far, near, c, high, most))
      ended (ends.Stuck place) h =
          absurd (let w = goes (gone_on q (suc n)) refl refl in
          let none : None ≡ Some w.0 = sym h.0 ∙ w.1 in cc)

      the_end : Ended end
      the_end = ended end r.ends

      full_now : full e.world ≡ true
      full_now = sym (up_is n e.world k_at) ∙ the_end.up

      -- and after start 64
      begun : n64 < n
      begun = by (leb n n64) refl
        where
          by : (b : Bool) → leb n n64 ≡ b → n64 < n
          by true l =
              let both : true ≡ false =
              sym full_now ∙ empty_before n e.world the_end.least (grind (arith, nat_tests, l)) k_at in
              absurd cc
          by false l = grind (arith, nat_tests, l)

      core_is : k.joint.outside.desk.port.core ≡ e.world.board.pc.side.port.core
      core_is = ap (λ (o : Outside). o.desk.port.core) e.in_run.outside

      -- a run of a second from an opened keyboard ends at the rise of the line, with AA put out
      pub put_out : (end ≡ ends.Met (record nothing_met { rise = true })) × HasPutOut layout k
      unfolding is_masked
      put_out = (
        the_end.rose,
        record {
          masked = is_masked stamp n k (omega (arith, soon)) e;
          line = ap raises core_is ∙ raises_by e.world.board.pc.side.port.core (kept_at bytes stamp n e.world k_at).command
              ∙ full_now;
          output = ap (λ (c : ControllerState). c.output) core_is
              ∙ sym (ap (λ (c : ControllerState). c.output)
              ((keep_on n n65 e.world w65 the_end.least the_end.most k_at (a.each 65).reached).stays full_now))
              ∙ put.1;
          unread = (let l = begun in
              keep_on n64 n w64 e.world order0 (omega (arith, l)) (a.each 64).reached k_at).reads
              ∙ (none_put reads layout stamp a).0;
          starts = a.starts;
          each = a.each;
          begun = (let c : w64.cycle ≡ 4096 + a.starts 64 = (a.each 64).cycle in
              let d = k_cycle in
              let l : w64.cycle < e.world.cycle =
              later_cycle q n64 n w64 e.world begun (a.each 64).reached k_at in
              omega (arith, c, d, l));
          still = (let c : w65.cycle ≡ 4096 + a.starts 65 = (a.each 65).cycle in
              let d = k_cycle in
              let l = no_later n n65 e.world w65 the_end.most k_at (a.each 65).reached in
              omega (arith, c, d, l));
          waits = waits_for_it layout stamp a.starts;
          sends = sends_it layout stamp a.starts;
          empty = none_waits layout stamp a.starts;
          holds = λ start s. (a.there 65 start s).holds;
        },
      )

  -- the run of each keyboard that is ready ended at the rise of the line, with AA put out
  pub ready_by : (k : Keyboard) (r : IsReady bytes k) → (r.end ≡ ends.Met (record nothing_met { rise = true })) × HasPutOut layout k
  ready_by k r =
      let o = r.is_opened in
      let p : Past = untouched 0 bytes 0 in
      let ends = ends_at_0 p o.first o.middle o.end refl o.at_first o.first_cycle o.ran (λ n. goes (gone_on p n) refl refl) in
      let t = acted_so o.middle r.opened o.answer o.middle.joint.steps o.ran.has_past ends.0 ends.1 o.masked in
      put_out o.middle r.opened ends.0 ends.1 o.ran.has_past t k r.end
      (r.ran (masked_at 0 bytes (o.middle.joint.cycle - 4096) (suc o.middle.joint.steps)) t)

-- a keyboard that is ready has put out the AA of its self-test, and the rise of the interrupt line ended its run
pub ready : NeverStuck → LogsAgree → AnyUseIsLawful → FillsAreFine → PromptLaw → EachIsReadOnce → ReadyHasPutOut
ready stuck logs use_any fills prompt reads layout k fine r = ready_by stuck logs use_any fills prompt reads layout fine k r
