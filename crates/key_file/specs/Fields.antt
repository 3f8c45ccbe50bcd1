-- What a line of a key file says. Each line is given by its fields, the parts between spaces and tabs.
use Rattle.std.specs.Prelude.{ℕ, ◌-◌, ◌*◌, ◌==◌, ◌&&◌, nat_le, Bool, true, false, List, [], ◌∷◌, length, take}
use Rattle.std.specs.Prelude.{slice_index, None, Some, Ok, Err, codes, if◌then◌else◌}
use Rattle.std.specs.Option.{option_map, option_and_then}
use Rattle.std.specs.Str.{bytes_eq}
use Rattle.std.specs.declared.option.Option.{Option}
use Rattle.std.specs.declared.result.Result.{Result}
use Rattle.pc_tables.specs.Keys.{key_with_name}
use Rattle.layout_reader.specs.Layouts.{KeyLayout, place_of}
use Rattle.text_lines.specs.Numbers.{decimal_of, hexadecimal_of}
use Rattle.first_fault.specs.FirstFault.{some_or, and_then}
use Rattle.board_terms.specs.declared.event.HostAct.{HostAct}
use Rattle.board_terms.specs.declared.event.HostAct.TheVariants as act
use Rattle.key_file.specs.declared.event.Event.{Event}
use Rattle.key_file.specs.declared.event.Event.TheVariants.{EdgeOf, HostOf, End}
use Rattle.key_file.specs.declared.word.Word.{Word}
use Rattle.key_file.specs.declared.word.Word.TheVariants as word
use Rattle.key_file.specs.declared.rule.Rule.{Rule}
use Rattle.key_file.specs.declared.rule.Rule.TheVariants.{Form, UnknownWord, UnknownKey}

-- a line is skipped if it is blank, or its first character past spaces and tabs is #
abbrev pub is_skipped : List (List ℕ) → Bool
is_skipped [] = true
is_skipped (first ∷ others) = slice_index first 0 == 35

-- a field ends in `ms`
abbrev pub has_ms : List ℕ → Bool
has_ms field =
    nat_le 2 (length field)
    && slice_index field (length field - 2) == 109
    && slice_index field (length field - 1) == 115

-- a stamp is one to nine decimal digits, which count cycles, or these followed by `ms`, which count 400 cycles each
abbrev pub stamp_of : List ℕ → Option ℕ
stamp_of field =
    if has_ms field then option_map (λ n. 400 * n) (decimal_of 9 (take (length field - 2) field))
    else decimal_of 9 field

-- the words
abbrev pub word_named : List ℕ → Option Word
word_named name =
    if bytes_eq name (codes "press") then Some word.Press
    else (if bytes_eq name (codes "release") then Some word.Release
    else (if bytes_eq name (codes "write60") then Some word.Write60
    else (if bytes_eq name (codes "write64") then Some word.Write64
    else (if bytes_eq name (codes "read60") then Some word.Read60
    else (if bytes_eq name (codes "mask") then Some word.Mask
    else (if bytes_eq name (codes "unmask") then Some word.Unmask
    else (if bytes_eq name (codes "take") then Some word.Take
    else (if bytes_eq name (codes "status") then Some word.Status
    else (if bytes_eq name (codes "flip") then Some word.Flip
    else (if bytes_eq name (codes "end") then Some word.End
    else None))))))))))

-- the one argument of a word; none if it has none or more
abbrev pub only : List (List ℕ) → Option (List ℕ)
only (argument ∷ []) = Some argument
only arguments = None

-- the place of the key with this name, compared as bytes; none if the layout has no entry with this key
abbrev pub place_named : KeyLayout → List ℕ → Option ℕ
place_named layout name = option_and_then (λ key. place_of key layout) (key_with_name name)

-- an edge of the key that the argument names
abbrev pub edge_of : KeyLayout → ℕ → Bool → List (List ℕ) → Result Event Rule
edge_of layout stamp down arguments =
    and_then (some_or Form (only arguments))
    (λ key. and_then (some_or UnknownKey (place_named layout key))
    (λ place. Ok (EdgeOf (record { stamp = stamp; place = place; down = down }))))

-- a write of the byte that the argument gives, in two hexadecimal digits
abbrev pub write_of : ℕ → (ℕ → HostAct) → List (List ℕ) → Result Event Rule
write_of stamp act arguments =
    and_then (some_or Form (option_and_then (hexadecimal_of 2) (only arguments)))
    (λ byte. Ok (HostOf (record { stamp = stamp; act = act byte })))

-- the number of a bit that noise turns round: one digit from 1 to 9
abbrev pub bit_of : List ℕ → Option ℕ
bit_of field = option_and_then (λ bit. if bit == 0 then None else Some bit) (decimal_of 1 field)

-- noise that turns round the bit that the argument gives
abbrev pub flip_of : ℕ → List (List ℕ) → Result Event Rule
flip_of stamp arguments =
    and_then (some_or Form (option_and_then bit_of (only arguments)))
    (λ bit. Ok (HostOf (record { stamp = stamp; act = act.Flip bit })))

-- an event without an argument
abbrev pub alone : Event → List (List ℕ) → Result Event Rule
alone event [] = Ok event
alone event (first ∷ others) = Err Form

abbrev pub act_of : ℕ → HostAct → List (List ℕ) → Result Event Rule
act_of stamp act arguments = alone (HostOf (record { stamp = stamp; act = act })) arguments

-- the event that a known word gives with its arguments
abbrev pub event_of : KeyLayout → ℕ → Word → List (List ℕ) → Result Event Rule
event_of layout stamp word.Press arguments = edge_of layout stamp true arguments
event_of layout stamp word.Release arguments = edge_of layout stamp false arguments
event_of layout stamp word.Write60 arguments = write_of stamp act.Write60 arguments
event_of layout stamp word.Write64 arguments = write_of stamp act.Write64 arguments
event_of layout stamp word.Read60 arguments = act_of stamp act.Read60 arguments
event_of layout stamp word.Mask arguments = act_of stamp act.Mask arguments
event_of layout stamp word.Unmask arguments = act_of stamp act.Unmask arguments
event_of layout stamp word.Take arguments = act_of stamp act.Take arguments
event_of layout stamp word.Status arguments = act_of stamp act.Status arguments
event_of layout stamp word.Flip arguments = flip_of stamp arguments
event_of layout stamp word.End arguments = alone (End stamp) arguments

-- the event of a line, or the first of the first three rules that it breaks: its form; its word; its key
abbrev pub event_in : KeyLayout → List (List ℕ) → Result Event Rule
event_in layout (first ∷ second ∷ arguments) =
    and_then (some_or Form (stamp_of first))
    (λ stamp. and_then (some_or UnknownWord (word_named second)) (λ word. event_of layout stamp word arguments))
event_in layout fields = Err Form

-- what a line says: nothing if it is skipped
abbrev pub said_by : KeyLayout → List (List ℕ) → Result (Option Event) Rule
said_by layout fields =
    if is_skipped fields then Ok None else and_then (event_in layout fields) (λ event. Ok (Some event))
