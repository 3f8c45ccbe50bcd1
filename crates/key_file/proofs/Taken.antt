-- Each line keeps what the lines before it came to sound.
use Rattle.std.proofs.Common.{◌≡◌, ◌<◌, ℕ, Bool, true, false, ◌==◌, List, [], ◌∷◌, cond, None, Some, Ok, Err, refl, subst, arith}
use Rattle.std.specs.Prelude.{find, IsSome}
use Rattle.std.specs.Option.{option_map, option_and_then}
use Rattle.std.specs.declared.option.Option.{Option}
use Rattle.std.specs.declared.result.Result.{Result}
use Rattle.std.proofs.lemmas.Bool.Decides.{nat_tests}
use Rattle.board_terms.specs.declared.event.HostAct.{HostAct}
use Rattle.board_terms.specs.declared.event.HostAct.TheVariants as act
use Rattle.board_terms.specs.Flips.{FlipsDataOrParity, IsDataOrParity}
use Rattle.pc_tables.specs.Keys.{key_with_name}
use Rattle.layout_reader.specs.declared.entry.Entry.{Entry}
use Rattle.layout_reader.specs.Layouts.{KeyLayout, place_of}
use Rattle.text_lines.specs.Fields.{fields}
use Rattle.text_lines.specs.Numbers.{hexadecimal_of}
use Rattle.first_fault.specs.FirstFault.{and_then, some_or, unless, first_broken}
use Rattle.key_file.specs.declared.event.Event.{Event}
use Rattle.key_file.specs.declared.event.Event.TheVariants.{EdgeOf, HostOf, End}
use Rattle.key_file.specs.declared.word.Word.{Word}
use Rattle.key_file.specs.declared.word.Word.TheVariants as word
use Rattle.key_file.specs.declared.rule.Rule.{Rule}
use Rattle.key_file.specs.declared.rule.Rule.TheVariants.{Form, UnknownWord, UnknownKey}
use Rattle.key_file.specs.Accepted.{IsPlaceOf, WritesByte}
use Rattle.key_file.specs.Histories.{Before, with_event}
use Rattle.key_file.specs.Briefs.{brief_of}
use Rattle.key_file.specs.Fields.{is_skipped, place_named, edge_of, write_of, bit_of, flip_of, alone}
use Rattle.key_file.specs.Fields.{event_of, event_in, said_by, stamp_of, word_named, only}
use Rattle.key_file.specs.Rules.{judgements}
use Rattle.key_file.specs.KeyFile.{take_event, take_said, take_line}
use Rattle.key_file.proofs.FlipBits.{argument_bit}
use Rattle.key_file.proofs.HexBytes.{argument_below}
use Rattle.key_file.proofs.Sound.{IsSound, sound-edge, sound-host, sound-end}
use Rattle.key_file.proofs.Unbroken.{Fits, fits}

-- a value that was followed
record Step {X Y : Type 0} (r : Result X Rule) (next : X → Result Y Rule) (y : Y) : Type 0 where
  value : X
  was : r ≡ Ok value
  then : next value ≡ Ok y

step : {X Y : Type 0} (r : Result X Rule) (next : X → Result Y Rule) (y : Y) → and_then r next ≡ Ok y → Step r next y
step (Ok x) next y h = record { value = x; was = refl; then = h }
step (Err rule) next y h = absurd (cc)

some_of : {X : Type 0} (rule : Rule) (o : Option X) (x : X) → some_or rule o ≡ Ok x → o ≡ Some x
some_of rule None x h = absurd (cc)
some_of rule (Some y) x h = cc

-- an entry that is found by its key is found by its place
found-cases : (p : Entry → Bool) (entry : Entry) (entries : List Entry) (place : ℕ) (b c : Bool)
    → option_map (λ e. e.place) (cond b (Some entry) (find p entries)) ≡ Some place → (entry.place == place) ≡ c
    → (option_map (λ e. e.place) (find p entries) ≡ Some place → IsSome (find (λ e. e.place == place) entries))
    → IsSome (cond c (Some entry) (find (λ e. e.place == place) entries))
found-cases p entry entries place b true is test more = refl
found-cases p entry entries place true false is test more =
    absurd (let same : entry.place ≡ place = cc in grind (arith, nat_tests, same, test))
found-cases p entry entries place false false is test more = more is

found : (p : Entry → Bool) (entries : List Entry) (place : ℕ)
    → option_map (λ entry. entry.place) (find p entries) ≡ Some place → IsSome (find (λ entry. entry.place == place) entries)
found p [] place is = absurd (cc)
found p (entry ∷ entries) place is = found-cases p entry entries place (p entry) (entry.place == place) is refl (found p entries place)

named : (layout : KeyLayout) (key : Option ℕ) (place : ℕ)
    → option_and_then (λ key. place_of key layout) key ≡ Some place → IsPlaceOf layout place
unfolding place_of
named layout None place h = absurd (cc)
named layout (Some key) place h = found (λ entry. entry.key == key) layout.entries place h

-- an event fits the layout where its place is the layout's, what the host writes is a byte, and what noise turns round
-- is a data bit or the parity
abbrev pub IsOf : KeyLayout → Event → Type 0
IsOf layout (EdgeOf e) = IsPlaceOf layout e.place
IsOf layout (HostOf e) = WritesByte e.act × FlipsDataOrParity e.act
IsOf layout (End stamp) = Unit {0}

edge_of-layout : (layout : KeyLayout) (stamp : ℕ) (down : Bool) (arguments : List (List ℕ)) (event : Event)
    → edge_of layout stamp down arguments ≡ Ok event → IsOf layout event
edge_of-layout layout stamp down arguments event h =
    let edge : ℕ → Result Event Rule = λ place. Ok (EdgeOf (record { stamp = stamp; place = place; down = down })) in
    let a = step (some_or Form (only arguments)) (λ key. and_then (some_or UnknownKey (place_named layout key)) edge) event h in
    let b = step (some_or UnknownKey (place_named layout a.value)) edge event a.then in
    let same : EdgeOf (record { stamp = stamp; place = b.value; down = down }) ≡ event = cc (b.then) in
    subst (IsOf layout) same (named layout (key_with_name a.value) b.value (some_of UnknownKey (place_named layout a.value) b.value b.was))

write_of-layout : (layout : KeyLayout) (stamp : ℕ) (act : ℕ → HostAct) (arguments : List (List ℕ)) (event : Event)
    → ((byte : ℕ) → byte < 256 → WritesByte (act byte) × FlipsDataOrParity (act byte))
    → write_of stamp act arguments ≡ Ok event → IsOf layout event
write_of-layout layout stamp act arguments event writes h =
    let write : ℕ → Result Event Rule = λ byte. Ok (HostOf (record { stamp = stamp; act = act byte })) in
    let a = step (some_or Form (option_and_then (hexadecimal_of 2) (only arguments))) write event h in
    let same : HostOf (record { stamp = stamp; act = act a.value }) ≡ event = cc (a.then) in
    let number = some_of Form (option_and_then (hexadecimal_of 2) (only arguments)) a.value a.was in
    let below : a.value < 256 = argument_below (only arguments) a.value number in
    subst (IsOf layout) same (writes a.value below)

flip_of-layout : (layout : KeyLayout) (stamp : ℕ) (arguments : List (List ℕ)) (event : Event)
    → flip_of stamp arguments ≡ Ok event → IsOf layout event
flip_of-layout layout stamp arguments event h =
    let flip : ℕ → Result Event Rule = λ bit. Ok (HostOf (record { stamp = stamp; act = act.Flip bit })) in
    let a = step (some_or Form (option_and_then bit_of (only arguments))) flip event h in
    let same : HostOf (record { stamp = stamp; act = act.Flip a.value }) ≡ event = cc (a.then) in
    let bit : IsDataOrParity a.value =
    argument_bit (only arguments) a.value (some_of Form (option_and_then bit_of (only arguments)) a.value a.was) in
    subst (IsOf layout) same (tt, bit)

alone-layout : (layout : KeyLayout) (event after : Event) (arguments : List (List ℕ))
    → IsOf layout event → alone event arguments ≡ Ok after → IsOf layout after
alone-layout layout event after [] fit h = let same : event ≡ after = cc in subst (IsOf layout) same fit
alone-layout layout event after (a ∷ more) fit h = absurd (cc)

event_of-layout : (layout : KeyLayout) (stamp : ℕ) (w : Word) (arguments : List (List ℕ)) (event : Event)
    → event_of layout stamp w arguments ≡ Ok event → IsOf layout event
event_of-layout layout stamp word.Press arguments event h = edge_of-layout layout stamp true arguments event h
event_of-layout layout stamp word.Release arguments event h = edge_of-layout layout stamp false arguments event h
event_of-layout layout stamp word.Write60 arguments event h =
    write_of-layout layout stamp act.Write60 arguments event (λ byte below. (below, tt)) h
event_of-layout layout stamp word.Write64 arguments event h =
    write_of-layout layout stamp act.Write64 arguments event (λ byte below. (below, tt)) h
event_of-layout layout stamp word.Read60 arguments event h =
    alone-layout layout (HostOf (record { stamp = stamp; act = act.Read60 })) event arguments (tt, tt) h
event_of-layout layout stamp word.Mask arguments event h =
    alone-layout layout (HostOf (record { stamp = stamp; act = act.Mask })) event arguments (tt, tt) h
event_of-layout layout stamp word.Unmask arguments event h =
    alone-layout layout (HostOf (record { stamp = stamp; act = act.Unmask })) event arguments (tt, tt) h
event_of-layout layout stamp word.Take arguments event h =
    alone-layout layout (HostOf (record { stamp = stamp; act = act.Take })) event arguments (tt, tt) h
event_of-layout layout stamp word.Status arguments event h =
    alone-layout layout (HostOf (record { stamp = stamp; act = act.Status })) event arguments (tt, tt) h
event_of-layout layout stamp word.Flip arguments event h = flip_of-layout layout stamp arguments event h
event_of-layout layout stamp word.End arguments event h = alone-layout layout (End stamp) event arguments tt h

event_in-layout : (layout : KeyLayout) (parts : List (List ℕ)) (event : Event) → event_in layout parts ≡ Ok event → IsOf layout event
event_in-layout layout [] event h = absurd (cc)
event_in-layout layout (first ∷ []) event h = absurd (cc)
event_in-layout layout (first ∷ second ∷ arguments) event h =
    let a = step (some_or Form (stamp_of first))
    (λ stamp. and_then (some_or UnknownWord (word_named second)) (λ w. event_of layout stamp w arguments)) event h in
    let b = step (some_or UnknownWord (word_named second)) (λ w. event_of layout a.value w arguments) event a.then in
    event_of-layout layout a.value b.value arguments event b.then

sound-event : (layout : KeyLayout) (before : Before) (event : Event)
    → IsSound layout before → IsOf layout event → Fits (brief_of before) event → IsSound layout (with_event before event)
sound-event layout before (EdgeOf e) sound fit kept = sound-edge layout before e sound kept fit
sound-event layout before (HostOf e) sound fit kept = sound-host layout before e sound fit kept
sound-event layout before (End stamp) sound fit kept = sound-end layout before stamp sound kept

unless_ok : (o : Option Rule) (value after : Before) → unless o value ≡ Ok after → (o ≡ None) × (value ≡ after)
unless_ok None value after h = (refl, cc)
unless_ok (Some rule) value after h = absurd (cc)

sound-take_event : (layout : KeyLayout) (before after : Before) (event : Event)
    → IsSound layout before → IsOf layout event → take_event before event ≡ Ok after → IsSound layout after
sound-take_event layout before after event sound fit h =
    let kept = unless_ok (first_broken (judgements (brief_of before) event)) (with_event before event) after h in
    subst (IsSound layout) kept.1 (sound-event layout before event sound fit (fits (brief_of before) event kept.0))

-- what a line says fits the layout
said-unskipped : (layout : KeyLayout) (parts : List (List ℕ)) (event : Event) → (b : Bool)
    → cond b (Ok None) (and_then (event_in layout parts) (λ e. Ok (Some e))) ≡ Ok (Some event) → IsOf layout event
said-unskipped layout parts event true h = absurd (cc)
said-unskipped layout parts event false h =
    let a = step (event_in layout parts) (λ e. Ok (Some e)) (Some event) h in
    let same : a.value ≡ event = cc (a.then) in
    subst (IsOf layout) same (event_in-layout layout parts a.value a.was)

sound-said : (layout : KeyLayout) (before after : Before) (parts : List (List ℕ)) (said : Option Event)
    → IsSound layout before → said_by layout parts ≡ Ok said → take_said before said ≡ Ok after → IsSound layout after
sound-said layout before after parts None sound is h = let same : before ≡ after = cc in subst (IsSound layout) same sound
sound-said layout before after parts (Some event) sound is h =
    sound-take_event layout before after event sound (said-unskipped layout parts event (is_skipped parts) is) h

-- a line that breaks no rule keeps what the lines before it came to sound
pub sound-line : (layout : KeyLayout) (before after : Before) (line : List ℕ)
    → IsSound layout before → take_line layout before line ≡ Ok after → IsSound layout after
sound-line layout before after line sound h =
    let a = step (said_by layout (fields line)) (take_said before) after h in
    sound-said layout before after (fields line) a.value sound a.was a.then
