-- What is read of such a run is what the laws of the model say under keys without bounces.
use Rattle.std.proofs.Common.{◌≡◌, ℕ, false, List, ap, sym, ◌∙◌, arith}
use Rattle.std.proofs.lemmas.List.Folds.{flat_map-map}
use Rattle.board_terms.specs.Cadence.{KeepsCadence, tick_of}
use Rattle.board_terms.specs.declared.event.Edge.{Edge}
use Rattle.board_terms.specs.declared.event.HostEvent.{HostEvent}
use Rattle.model_controller.specs.declared.UnderWay.{UnderWay}
use Rattle.fw_compile.specs.Image.{image_of}
use Rattle.fw_kernel.specs.declared.labels.TheConstants.{TICK}
use Rattle.host_turn.specs.Run.{Side}
use Rattle.host_turn.specs.declared.stamped.Stamped.{Stamped}
use Rattle.joint_run.specs.Joint.{Beside, joint_board, log_of}
use Rattle.joint_run.specs.Run.{World}
use Rattle.joint_run.specs.Starts.{IsStart}
use Rattle.key_file.specs.Histories.{KeyHistory}
use Rattle.law_keys_settle.specs.Settling.{undebounced}
use Rattle.law_keys_settle.specs.Taking.{EdgesAreTakenOnce}
use Rattle.layout_reader.specs.Layouts.{KeyLayout}
use Rattle.model_link.specs.declared.line.LogLine.{LogLine}
use Rattle.law_link_times.specs.Coming.{ComesExactly, NothingElseArrives}
use Rattle.law_link_times.specs.Flowing.{IsHostQuiet}
use Rattle.law_link_times.specs.Reads.{PortLinesAreArrivals, put_out_for}
use Rattle.law_quiet_log.specs.Once.{all_arrived, at_tick}
use Rattle.law_quiet_log.specs.Ports.{port_of}
use Rattle.law_switches_settle.specs.Reading.{StrokesAreRead, bytes_read, clean_history}
use Rattle.law_switches_settle.specs.Running.{RunsClean}

near : (layout : KeyLayout) (keys contacts : List Edge) (host : List HostEvent) (from : World Beside)
    (c : RunsClean layout keys contacts host from) → KeepsCadence c.starts
near layout keys contacts host from c n =
    let most = (c.prompt n).most in
    record { least = (c.prompt n).least; most = omega (arith, most) }

module _ (lines : PortLinesAreArrivals) (layout : KeyLayout) (keys contacts : List Edge) (host : List HostEvent)
    (from : World Beside) (c : RunsClean layout keys contacts host from) (quiet : IsHostQuiet (clean_history c.seen host)) where
  abbrev history : KeyHistory
  history = clean_history c.seen host

  -- what INT 09h has read is what was put out for the bytes that arrived in the model under clean keys
  pub reads : (n stamp : ℕ) (s : IsStart (joint_board contacts host) TICK (image_of layout) from n stamp)
      → bytes_read (log_of s.state.board) ≡ put_out_for false (all_arrived (undebounced layout) history c.starts 0 n)
  reads n stamp s =
      let m : Side UnderWay = (at_tick (undebounced layout) history c.starts n).side in
      ap bytes_read (c.log n stamp s)
      ∙ sym (flat_map-map (λ (l : LogLine). port_of l.item)
      (λ (s : Stamped). record { tick = tick_of c.starts n s.cycle; item = s.item }) m.log)
      ∙ lines (undebounced layout) history c.starts n quiet (λ k l. near layout keys contacts host from c k)

-- with switches that settle late each stroke of a key is read once, if the host only takes words and reads the status
pub strokes_are_read : EdgesAreTakenOnce → ComesExactly → NothingElseArrives → PortLinesAreArrivals → StrokesAreRead
strokes_are_read taken exact arrives lines layout keys contacts host from c sw quiet =
    let history : KeyHistory = clean_history c.seen host in
    record {
      reads = reads lines layout keys contacts host from c quiet;
      arrives = λ n. arrives (undebounced layout) history c.starts n;
      comes = λ n. exact (undebounced layout) history c.starts n;
      takes = λ place n l.
          taken layout keys c.seen host c.starts place n (near layout keys contacts host from c) l
          (sw.apart place) (c.later place l);
    }
