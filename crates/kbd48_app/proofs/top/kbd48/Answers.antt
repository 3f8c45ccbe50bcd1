use Rattle.std.proofs.Common.{length, map, string_bytes}
use Rattle.std.proofs.lemmas.List.{length-map}
use Rattle.app_words.specs.declared.exit.Exit.TheVariants as exits
use Rattle.kbd48_app.proofs.AnswersEndCalls.{put_failed, wrote}
use Rattle.kbd48_app.proofs.ExitsHaveCauses.{cause, dump_caused, fault_caused, lacked, over, stuck_caused, too_long_caused, unserved_caused}
use Rattle.kbd48_app.proofs.FetchesAreMade.{made_over}
use Rattle.kbd48_app.proofs.FormlessWordsAreRefused.{words_only, words_refused}
use Rattle.kbd48_app.proofs.MemoryComesFirst.{lacks_first}
use Rattle.kbd48_app.proofs.ServedCallsSucceed.{left_reported, left_unfailed}
use Rattle.kbd48_app.proofs.top.kbd48.Goals as goal

pub returns-clause-complete : goal.returns-clause-complete
returns-clause-complete g c =
    λ faultless same below. left_unfailed _ (map string_bytes c.args.words.now) (g.F.Shelf.in_memory c.args.shelf.now) _ _ _ _ _ _ (length-map c.args.probes.now.items _) faultless same below
    c.answer_and_print.ensures.says

pub returns-clause-complete_in_memory : goal.returns-clause-complete_in_memory
returns-clause-complete_in_memory g c =
    left_reported _ (map string_bytes c.args.words.now) (g.F.Shelf.in_memory c.args.shelf.now) _ _ _ _ _ _
    (length-map c.args.probes.now.items _) c.answer_and_print.ensures.says

pub returns-clause-words : goal.returns-clause-words
returns-clause-words g c =
    words_refused (map string_bytes c.args.words.now) (g.F.Shelf.in_memory c.args.shelf.now) _ _ _ _ _ _ c.answer_and_print.ensures.says

pub returns-clause-words_only : goal.returns-clause-words_only
returns-clause-words_only g c =
    words_only (map string_bytes c.args.words.now) (g.F.Shelf.in_memory c.args.shelf.now) _ _ _ _ _ _ c.answer_and_print.ensures.says

pub returns-clause-unserved : goal.returns-clause-unserved
returns-clause-unserved g c =
    over _ (map string_bytes c.args.words.now) (g.F.Shelf.in_memory c.args.shelf.now) _ _ _ _ _ _
    (length-map c.args.probes.now.items _) c.answer_and_print.ensures.says _
    (λ shelf h. unserved_caused (map string_bytes c.args.words.now) (length c.args.probes.now.items)
    c.answer_and_print.result shelf h)

pub returns-clause-unserved_only : goal.returns-clause-unserved_only
returns-clause-unserved_only g c =
    over _ (map string_bytes c.args.words.now) (g.F.Shelf.in_memory c.args.shelf.now) _ _ _ _ _ _
    (length-map c.args.probes.now.items _) c.answer_and_print.ensures.says _
    (λ shelf h. cause (map string_bytes c.args.words.now) (length c.args.probes.now.items)
    c.answer_and_print.result shelf h exits.Read (λ e. cc) (λ e. cc))

pub returns-clause-too_long : goal.returns-clause-too_long
returns-clause-too_long g c =
    over _ (map string_bytes c.args.words.now) (g.F.Shelf.in_memory c.args.shelf.now) _ _ _ _ _ _
    (length-map c.args.probes.now.items _) c.answer_and_print.ensures.says _
    (λ shelf h. too_long_caused (map string_bytes c.args.words.now) (length c.args.probes.now.items)
    c.answer_and_print.result shelf h)

pub returns-clause-fault : goal.returns-clause-fault
returns-clause-fault g c =
    over _ (map string_bytes c.args.words.now) (g.F.Shelf.in_memory c.args.shelf.now) _ _ _ _ _ _
    (length-map c.args.probes.now.items _) c.answer_and_print.ensures.says _
    (λ shelf h. fault_caused (map string_bytes c.args.words.now) (length c.args.probes.now.items)
    c.answer_and_print.result shelf h)

pub returns-clause-dump_fault : goal.returns-clause-dump_fault
returns-clause-dump_fault g c =
    over _ (map string_bytes c.args.words.now) (g.F.Shelf.in_memory c.args.shelf.now) _ _ _ _ _ _
    (length-map c.args.probes.now.items _) c.answer_and_print.ensures.says _
    (λ shelf h. dump_caused (map string_bytes c.args.words.now) (length c.args.probes.now.items)
    c.answer_and_print.result shelf h)

pub returns-clause-input_only : goal.returns-clause-input_only
returns-clause-input_only g c =
    over _ (map string_bytes c.args.words.now) (g.F.Shelf.in_memory c.args.shelf.now) _ _ _ _ _ _
    (length-map c.args.probes.now.items _) c.answer_and_print.ensures.says _
    (λ shelf h. cause (map string_bytes c.args.words.now) (length c.args.probes.now.items)
    c.answer_and_print.result shelf h exits.Input (λ e. cc) (λ e. cc))

pub returns-clause-timing_only : goal.returns-clause-timing_only
returns-clause-timing_only g c =
    over _ (map string_bytes c.args.words.now) (g.F.Shelf.in_memory c.args.shelf.now) _ _ _ _ _ _
    (length-map c.args.probes.now.items _) c.answer_and_print.ensures.says _
    (λ shelf h. cause (map string_bytes c.args.words.now) (length c.args.probes.now.items)
    c.answer_and_print.result shelf h exits.Timing (λ e. cc) (λ e. cc))

pub returns-clause-stuck : goal.returns-clause-stuck
returns-clause-stuck g c =
    over _ (map string_bytes c.args.words.now) (g.F.Shelf.in_memory c.args.shelf.now) _ _ _ _ _ _
    (length-map c.args.probes.now.items _) c.answer_and_print.ensures.says _
    (λ shelf h. stuck_caused (map string_bytes c.args.words.now) (length c.args.probes.now.items)
    c.answer_and_print.result shelf h)

pub returns-clause-stuck_only : goal.returns-clause-stuck_only
returns-clause-stuck_only g c =
    over _ (map string_bytes c.args.words.now) (g.F.Shelf.in_memory c.args.shelf.now) _ _ _ _ _ _
    (length-map c.args.probes.now.items _) c.answer_and_print.ensures.says _
    (λ shelf h. cause (map string_bytes c.args.words.now) (length c.args.probes.now.items)
    c.answer_and_print.result shelf h exits.Stuck (λ e. cc) (λ e. cc))

pub returns-clause-memory : goal.returns-clause-memory
returns-clause-memory g c =
    over _ (map string_bytes c.args.words.now) (g.F.Shelf.in_memory c.args.shelf.now) _ _ _ _ _ _
    (length-map c.args.probes.now.items _) c.answer_and_print.ensures.says _
    (λ shelf h. lacked (map string_bytes c.args.words.now) (length c.args.probes.now.items)
    c.answer_and_print.result shelf h)

pub returns-clause-fetches : goal.returns-clause-fetches
returns-clause-fetches g c =
    made_over (map string_bytes c.args.words.now) (g.F.Shelf.in_memory c.args.shelf.now) _ _ _ _ _ _
    c.answer_and_print.ensures.says

pub returns-clause-memory_first : goal.returns-clause-memory_first
returns-clause-memory_first g c =
    lacks_first (map string_bytes c.args.words.now) (g.F.Shelf.in_memory c.args.shelf.now) _ _ _ _ _ _ c.answer_and_print.ensures.says

pub returns-clause-write : goal.returns-clause-write
returns-clause-write g c =
    λ is. wrote _ _ _ _ _ c.answer_and_print.ensures.says.3 is

pub returns-clause-put_failed : goal.returns-clause-put_failed
returns-clause-put_failed g c =
    λ more. put_failed _ _ _ _ _ c.answer_and_print.ensures.says.3 more
