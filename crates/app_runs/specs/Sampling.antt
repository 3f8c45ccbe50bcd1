-- `sample`: a load of so many strokes of keys on the sample layout, with a debounce or without, and the line that is printed
-- of its run.
use Rattle.std.specs.Prelude.{◌≡◌, ℕ, ◌+◌, ◌-◌, ◌*◌, ◌%◌, Bool, true, false, List, [], ◌∷◌, ◌++◌, length, map, codes, decimal}
use Rattle.std.specs.List.{flat_map, range_with_len}
use Rattle.board_terms.specs.declared.event.Edge.{Edge}
use Rattle.board_terms.specs.declared.event.HostEvent.{HostEvent}
use Rattle.fw_compile.specs.Image.{image_of}
use Rattle.joint_feed.specs.Stories.{Story, story}
use Rattle.key_file.specs.Histories.{KeyHistory}
use Rattle.layout_reader.specs.Layouts.{KeyLayout, us84, with_debounce}
use Rattle.subsystem.specs.Agreement.{IsAsExpected}
use Rattle.subsystem.specs.Counts.{none_counted, with_lines}
use Rattle.subsystem.specs.LayoutOutcomes.{IsOutcome, Outcome}
use Rattle.subsystem.specs.declared.counts.Counts.{Counts}
use Rattle.law_typed_log.specs.Typing.{first_up, stroke_start, take_of}

-- the number of a stroke's key, which is also the key's place on the sample layout; strokes are counted from 0, and begin
-- when those of a text that is typed do
abbrev pub stroke_key : ℕ → ℕ
stroke_key k = (29 + 25 * k) % 84

-- the key goes down, and up
abbrev pub stroke_edges : ℕ → List Edge
stroke_edges k =
    record { stamp = stroke_start k; place = stroke_key k; down = true }
    ∷ record { stamp = first_up (stroke_start k); place = stroke_key k; down = false } ∷ []

-- the host takes a word from the buffer
abbrev pub stroke_take : ℕ → HostEvent
stroke_take k = take_of (stroke_start k)

-- so many strokes; the end is if the next one would begin
abbrev pub sample_history : ℕ → KeyHistory
sample_history count = record {
  edges = flat_map stroke_edges (range_with_len 0 count);
  host = map stroke_take (range_with_len 0 count);
  end = stroke_start count;
}

abbrev pub sample_layout : Bool → KeyLayout
sample_layout debounced = with_debounce debounced us84

abbrev pub sample_story : ℕ → Bool → Story
sample_story count debounced = story (image_of (sample_layout debounced)) (sample_history count)

-- how many events the history has, how many bytes, words and beeps the run's log, and the number of its last tick start
abbrev pub counts_line : ℕ → Counts → ℕ → List ℕ
counts_line count counts tick =
    codes "events " ++ decimal (3 * count) ++ codes " ports " ++ decimal counts.ports ++ codes " words "
    ++ decimal counts.words ++ codes " beeps " ++ decimal counts.beeps ++ codes " ticks " ++ decimal tick ++ codes "\n"

abbrev pub sample_text : ℕ → Outcome → List ℕ
sample_text count run = counts_line count (with_lines none_counted run.log) (length run.starts - 1)

-- the text is that of the run of this layout's image under these strokes, whose log is the one that the model expects
abbrev pub IsSampleText : ℕ → Bool → List ℕ → Outcome → Type 0
IsSampleText count debounced text run =
    IsOutcome (sample_story count debounced) run × IsAsExpected (sample_layout debounced) (sample_history count) run
    × (text ≡ sample_text count run)
