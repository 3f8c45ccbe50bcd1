-- The model of a quiet history in the middle of its ticks, in a form that has no starts in it.
use Rattle.std.specs.Prelude.{ℕ, ◌+◌, ◌*◌, Bool, true, false, ◌==◌, nat_le, List, [], ◌∷◌, ◌++◌, map, Some, None, slice_get, if◌then◌else◌}
use Rattle.std.proofs.Common.{zero, suc}
use Rattle.std.specs.declared.option.Option.{Option}
use Rattle.ctl_core.specs.Controller.{ControllerState, at_start, status_of}
use Rattle.ctl_core.specs.Translation.{translation}
use Rattle.ctl_core.specs.declared.translation.Translated.{Translated}
use Rattle.pc_tables.specs.declared.item.Item.{Item}
use Rattle.pc_tables.specs.declared.item.Item.TheVariants.{Port, Taken, Status, Lights}
use Rattle.int09.specs.Bios.{State, start, first_word, without_first}
use Rattle.int09.specs.Rules.{fed}
use Rattle.board_terms.specs.declared.event.HostAct.{HostAct}
use Rattle.board_terms.specs.declared.event.HostAct.TheVariants.{Write60, Write64, Read60, Mask, Unmask, Take, Flip, Status as AskStatus}
use Rattle.board_terms.specs.declared.event.HostEvent.{HostEvent}
use Rattle.model_controller.specs.declared.meeting.Meeting.{Meeting}
use Rattle.model_controller.specs.declared.meeting.Meeting.TheVariants.{Got, Inhibited, Idle, Sent, Cut}
use Rattle.key_file.specs.Histories.{KeyHistory}
use Rattle.model_link.specs.declared.line.LogLine.{LogLine}
use Rattle.model_link.specs.Machine.{KeyboardMachine}
use Rattle.model_link.specs.TickEdges.{tick_edges}
use Rattle.law_quiet_log.specs.Quiet.{even}

-- the PC's side between bytes: the break mark, the last byte put out, INT 09h, the events done. All else stands still
pub record Pc : Type 0 where
  pub mark : Bool
  pub out : ℕ
  pub bios : State
  pub done : ℕ

abbrev pub core_of : Bool → Pc → ControllerState
core_of full q = record at_start { output_full = full; output = q.out; break_mark = q.mark }

-- what an event does, and what is said of it
abbrev pub bios_by : HostAct → State → State
bios_by (Write60 byte) s = s
bios_by (Write64 byte) s = s
bios_by Read60 s = s
bios_by Mask s = s
bios_by Unmask s = s
bios_by Take s = without_first s
bios_by AskStatus s = s
bios_by (Flip bit) s = s

abbrev pub items_by : HostAct → Pc → List Item
items_by (Write60 byte) q = []
items_by (Write64 byte) q = []
items_by Read60 q = []
items_by Mask q = []
items_by Unmask q = []
items_by Take q = Taken (first_word q.bios) ∷ []
items_by AskStatus q = Status (status_of (core_of false q)) ∷ []
items_by (Flip bit) q = []

-- the same in a cycle, where the next event is due
abbrev pub after_event : ℕ → Option HostEvent → Pc → Pc
after_event now None q = q
after_event now (Some e) q = record {
  mark = q.mark;
  out = q.out;
  bios = if nat_le (e.stamp + 4096) now then bios_by e.act q.bios else q.bios;
  done = if nat_le (e.stamp + 4096) now then q.done + 1 else q.done;
}

abbrev pub items_now : ℕ → Option HostEvent → Pc → List Item
items_now now None q = []
items_now now (Some e) q = if nat_le (e.stamp + 4096) now then items_by e.act q else []

-- and in so many cycles
abbrev pub pc_after : List HostEvent → ℕ → ℕ → Pc → Pc
pc_after events zero now q = q
pc_after events (suc n) now q = pc_after events n (suc now) (after_event now (slice_get events q.done) q)

abbrev pub items_in : List HostEvent → ℕ → ℕ → Pc → List Item
items_in events zero now q = []
items_in events (suc n) now q =
    items_now now (slice_get events q.done) q
    ++ items_in events n (suc now) (after_event now (slice_get events q.done) q)

-- a byte that arrives begins a break, or is put out and read
abbrev pub marked : Bool → Pc → Pc
marked mark q = record q { mark = mark }

abbrev pub read_of : Option ℕ → Pc → Pc
read_of None q = q
read_of (Some code) q = record q { out = code; bios = (fed code q.bios).after }

abbrev pub said_of_read : Option ℕ → Pc → List Item
said_of_read None q = []
said_of_read (Some code) q = Port code ∷ (fed code q.bios).items

-- the meeting of a tick, and what it comes to
abbrev pub calm_meeting : Bool → Option ℕ → Meeting
calm_meeting true None = Idle
calm_meeting true (Some byte) = Sent byte
calm_meeting false offer = Idle

abbrev pub met_by : Meeting → Pc → Pc
met_by (Got byte) q = q
met_by Inhibited q = q
met_by Idle q = q
met_by (Sent byte) q = let t : Translated = translation true q.mark byte in read_of t.byte (marked t.mark q)
met_by Cut q = q

abbrev pub items_of_meeting : Meeting → Pc → List Item
items_of_meeting (Got byte) q = []
items_of_meeting Inhibited q = []
items_of_meeting Idle q = []
items_of_meeting (Sent byte) q = let t : Translated = translation true q.mark byte in said_of_read t.byte q
items_of_meeting Cut q = []

abbrev pub light_items : ℕ → ℕ → List Item
light_items shown lights = if lights == shown then [] else Lights lights ∷ []

-- the whole at a tick start
pub record Calm (S : Type 0) : Type 0 where
  pub keys : S
  pub pc : Pc
  pub shown : ℕ

abbrev pub meets : {S : Type 0} → KeyboardMachine S → Calm S → Meeting
meets kb c = calm_meeting (kb.tested c.keys) (kb.offer c.keys)

-- a tick: the byte, and then the events of its second half, which begins at cycle 5,120 + 2,048 n
abbrev pub calm_tick : {S : Type 0} → KeyboardMachine S → KeyHistory → ℕ → Calm S → Calm S
calm_tick kb h n c = record {
  keys = kb.ticked (meets kb c) (tick_edges even h.edges n) c.keys;
  pc = pc_after h.host 1024 (5120 + 2048 * n) (met_by (meets kb c) c.pc);
  shown = kb.lights c.keys;
}

abbrev pub calm_at : {S : Type 0} → KeyboardMachine S → KeyHistory → ℕ → Calm S
calm_at kb h zero =
    record { keys = kb.start; pc = record { mark = false; out = 0; bios = start; done = 0 }; shown = 0 }
calm_at kb h (suc n) = calm_tick kb h n (calm_at kb h n)

-- what is said in a tick, and up to it
abbrev pub calm_items : {S : Type 0} → KeyboardMachine S → KeyHistory → ℕ → Calm S → List Item
calm_items kb h n c =
    light_items c.shown (kb.lights c.keys)
    ++ (items_of_meeting (meets kb c) c.pc ++ items_in h.host 1024 (5120 + 2048 * n) (met_by (meets kb c) c.pc))

abbrev pub in_tick : ℕ → List Item → List LogLine
in_tick n items = map (λ item. record { tick = n; item = item }) items

abbrev pub calm_lines : {S : Type 0} → KeyboardMachine S → KeyHistory → ℕ → List LogLine
calm_lines kb h zero = []
calm_lines kb h (suc n) = calm_lines kb h n ++ in_tick n (calm_items kb h n (calm_at kb h n))
