use Rattle.std.proofs.Common.{sym, ◌∙◌, ap, map, string_bytes, Some}
use Rattle.app_answers.specs.FileAnswers.{file_said}
use Rattle.app_words.specs.Kinds.{kind_of}
use Rattle.app_words.specs.declared.words.Command.TheVariants.{OverFile, OverPair, Debug, Probe, Board, Capture, Typed}
use Rattle.kbd48_app.specs.Plans.{Boards, Fetches, Gives, capture_plan, debug_plan, pair_plan, probe_plan, program_plan, typed_plan}
use Rattle.app_words.specs.Words.{clock_in, name_in, second_in, third_in, typed_clock_in}
use Rattle.kbd48_app.proofs.AnswersAreSpoken.{sample_spoken, spoken_as, unsaid_as}
use Rattle.kbd48_app.proofs.WordsAreNames.{named_1, named_2, named_3, named_4, named_after}
use Rattle.kbd48_app.proofs.answering.answer.Goals as goal

pub returns-in-Some-OverFile-clause-ends : goal.returns-in-Some-OverFile-clause-ends
returns-in-Some-OverFile-clause-ends g c =
    unsaid_as c.args.words.now (g.F.Shelf.in_memory c.args.shelf.now) _ (OverFile c.in-Some-OverFile.command) _ _ _
    (sym c.read_command.ensures.command ∙ (c.in-Some-OverFile.is ∙ ap (λ f. Some f) c.in-Some-OverFile.field-0-is))
    (named_1 c.args.words.now
    (λ name. Fetches (kind_of c.in-Some-OverFile.command) name (λ bytes. Gives (file_said c.in-Some-OverFile.command bytes)))
    c.index-words-1.result _ (rw c.in-Some-OverFile.field-0-is at c.in-Some-OverFile.ensures.named) c.index-words-1.is c.deref.ensures)
    c.to_say-in-Some-OverFile.result c.over_file.result
    (g.K.Sink.shown c.args.out.now)
    c.to_say-in-Some-OverFile.ensures (c.over_file.ensures.ends _)

pub returns-in-Some-OverPair-clause-ends : goal.returns-in-Some-OverPair-clause-ends
returns-in-Some-OverPair-clause-ends g c =
    spoken_as c.args.words.now (g.F.Shelf.in_memory c.args.shelf.now) _ (OverPair c.in-Some-OverPair.command) _ _ _
    (sym c.read_command.ensures.command ∙ (c.in-Some-OverPair.is ∙ ap (λ f. Some f) c.in-Some-OverPair.field-0-is))
    (named_2 c.args.words.now (pair_plan c.in-Some-OverPair.command) c.index-words-1-in-Some-OverPair.result c.index-words-2.result _ _
    (rw c.in-Some-OverPair.field-0-is at c.in-Some-OverPair.ensures.named) c.index-words-1-in-Some-OverPair.is c.index-words-2.is
    c.deref-in-Some-OverPair.ensures c.deref-in-Some-OverPair-2.ensures)
    c.over_pair.result
    (g.K.Sink.shown c.args.out.now)
    (g.K.Sink.shown c.over_pair.new.out) c.over_pair.ensures.ends

pub returns-in-Some-Debug-clause-ends : goal.returns-in-Some-Debug-clause-ends
returns-in-Some-Debug-clause-ends g c =
    unsaid_as c.args.words.now (g.F.Shelf.in_memory c.args.shelf.now) _ Debug _ _ _
    (sym c.read_command.ensures.command ∙ (c.in-Some-Debug.is ∙ ap (λ f. Some f) c.in-Some-Debug.field-0-is))
    (named_3 c.args.words.now debug_plan c.index-words-1-in-Some-Debug.result c.index-words-2-in-Some-Debug.result c.index-words-3.result
    _ _ _ (rw c.in-Some-Debug.field-0-is at c.in-Some-Debug.ensures.named)
    c.index-words-1-in-Some-Debug.is c.index-words-2-in-Some-Debug.is c.index-words-3.is
    c.deref-in-Some-Debug.ensures c.deref-in-Some-Debug-2.ensures c.deref-in-Some-Debug-3.ensures)
    c.to_say-in-Some-Debug.result c.over_debug.result
    (g.K.Sink.shown c.args.out.now)
    c.to_say-in-Some-Debug.ensures c.over_debug.ensures.ends

pub returns-in-Some-Probe-clause-ends : goal.returns-in-Some-Probe-clause-ends
returns-in-Some-Probe-clause-ends g c =
    unsaid_as c.args.words.now (g.F.Shelf.in_memory c.args.shelf.now) _ (Probe c.in-Some-Probe.fill) _ _ _
    (sym c.read_command.ensures.command ∙ (c.in-Some-Probe.is ∙ ap (λ f. Some f) c.in-Some-Probe.field-0-is))
    (named_4 c.args.words.now (probe_plan c.in-Some-Probe.fill) c.index-words-1-in-Some-Probe.result
    c.index-words-2-in-Some-Probe.result c.index-words-3-in-Some-Probe.result c.index-words-4.result
    _ _ _ _ (rw c.in-Some-Probe.field-0-is at c.in-Some-Probe.ensures.named)
    c.index-words-1-in-Some-Probe.is c.index-words-2-in-Some-Probe.is c.index-words-3-in-Some-Probe.is c.index-words-4.is
    c.deref-in-Some-Probe.ensures c.deref-in-Some-Probe-2.ensures c.deref-in-Some-Probe-3.ensures c.deref-in-Some-Probe-4.ensures)
    c.to_say-in-Some-Probe.result c.over_probe.result
    (g.K.Sink.shown c.args.out.now)
    c.to_say-in-Some-Probe.ensures c.over_probe.ensures.ends

pub returns-in-Some-Sample-clause-ends : goal.returns-in-Some-Sample-clause-ends
returns-in-Some-Sample-clause-ends g c =
    sample_spoken c.args.words.now (g.F.Shelf.in_memory c.args.shelf.now) c.in-Some-Sample.strokes _ c.in-Some-Sample.debounced _ _ c.sample.result
    (g.K.Sink.shown c.args.out.now)
    (g.K.Sink.shown c.sample.new.out)
    (sym c.read_command.ensures.command ∙ (c.in-Some-Sample.is ∙ ap (λ f. Some f) c.in-Some-Sample.field-0-is))
    c.count.ensures.count c.sample.ensures.says

pub returns-in-Some-Board-clause-ends : goal.returns-in-Some-Board-clause-ends
returns-in-Some-Board-clause-ends g c =
    spoken_as c.args.words.now (g.F.Shelf.in_memory c.args.shelf.now) _ (Board c.in-Some-Board.wanted) _ _ _
    (sym c.read_command.ensures.command ∙ (c.in-Some-Board.is ∙ ap (λ f. Some f) c.in-Some-Board.field-0-is))
    (named_3 c.args.words.now (program_plan (Boards c.in-Some-Board.wanted)) c.index-words-1-in-Some-Board.result
    c.index-words-2-in-Some-Board.result c.index-words-3-in-Some-Board.result
    _ _ _ (rw c.in-Some-Board.field-0-is at c.in-Some-Board.ensures.named)
    c.index-words-1-in-Some-Board.is c.index-words-2-in-Some-Board.is c.index-words-3-in-Some-Board.is
    c.deref-in-Some-Board.ensures c.deref-in-Some-Board-2.ensures c.deref-in-Some-Board-3.ensures)
    c.over_board.result
    (g.K.Sink.shown c.args.out.now)
    (g.K.Sink.shown c.over_board.new.out) c.over_board.ensures.ends

pub returns-in-Some-Capture-clause-ends : goal.returns-in-Some-Capture-clause-ends
returns-in-Some-Capture-clause-ends g c =
    spoken_as c.args.words.now (g.F.Shelf.in_memory c.args.shelf.now) _ Capture
    (capture_plan c.clock_in.result.now c.data_in.result.now c.deref-in-Some-Capture.result.now) _ _
    (sym c.read_command.ensures.command ∙ (c.in-Some-Capture.is ∙ ap (λ f. Some f) c.in-Some-Capture.field-0-is))
    (named_1 c.args.words.now (capture_plan c.clock_in.result.now c.data_in.result.now) c.index-words-1-in-Some-Capture.result _
    (rw c.in-Some-Capture.field-0-is at c.in-Some-Capture.ensures.named) c.index-words-1-in-Some-Capture.is c.deref-in-Some-Capture.ensures
    ∙ (ap (λ name. capture_plan name c.data_in.result.now (name_in (map string_bytes c.args.words.now))) c.clock_in.ensures.name
    ∙ ap (λ name. capture_plan (clock_in (map string_bytes c.args.words.now)) name (name_in (map string_bytes c.args.words.now)))
    c.data_in.ensures.name))
    c.over_capture.result
    (g.K.Sink.shown c.args.out.now)
    (g.K.Sink.shown c.over_capture.new.out) (c.over_capture.ensures.ends _)

pub returns-in-Some-Typed-clause-ends : goal.returns-in-Some-Typed-clause-ends
returns-in-Some-Typed-clause-ends g c =
    let words = map string_bytes c.args.words.now in
    unsaid_as c.args.words.now (g.F.Shelf.in_memory c.args.shelf.now) _ Typed
    (typed_plan c.typed_clock_in.result.now c.typed_data_in.result.now c.deref-in-Some-Typed.result.now c.deref-in-Some-Typed-2.result.now) _ _
    (sym c.read_command.ensures.command ∙ (c.in-Some-Typed.is ∙ ap (λ f. Some f) c.in-Some-Typed.field-0-is))
    (named_after c.args.words.now (typed_plan c.typed_clock_in.result.now c.typed_data_in.result.now)
    c.index-words-2-in-Some-Typed.result c.index-words-3-in-Some-Typed.result _ _
    (rw c.in-Some-Typed.field-0-is at c.in-Some-Typed.ensures.named)
    c.index-words-2-in-Some-Typed.is c.index-words-3-in-Some-Typed.is c.deref-in-Some-Typed.ensures c.deref-in-Some-Typed-2.ensures
    ∙ (ap (λ name. typed_plan name c.typed_data_in.result.now (second_in words) (third_in words)) c.typed_clock_in.ensures.name
    ∙ ap (λ name. typed_plan (typed_clock_in words) name (second_in words) (third_in words)) c.typed_data_in.ensures.name))
    c.to_say-in-Some-Typed.result c.over_typed.result
    (g.K.Sink.shown c.args.out.now)
    c.to_say-in-Some-Typed.ensures (c.over_typed.ensures.ends _)
