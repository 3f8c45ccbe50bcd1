use Rattle.std.proofs.Common.{◌≤◌, ap, sym, subst, ◌∙◌}
use Rattle.capture_keys.specs.Keys.{Keys}
use Rattle.capture_keys.specs.KeyTexts.{history_of_keys, key_text}
use Rattle.capture_keys.specs.Laws.{Plays}
use Rattle.capture_keys.specs.Typed.{keys_of}
use Rattle.capture_keys.proofs.Playing.{keys_play, keys_sound}
use Rattle.capture_keys.proofs.typing.typed_keys.Goals as goal

pub key_text-requires : goal.key_text-requires
key_text-requires c = record {
  early = subst (λ (k : Keys). k.queue.ready ≤ 239979520) (sym c.in_ok-keys.ensures.keys)
      (keys_sound c.args.layout.now c.args.clk.now c.args.dat.now c.args.dump.now c.is_layout.ensures).soon;
}

pub returns-clause-plays : goal.returns-clause-plays
returns-clause-plays c =
    let layout = c.args.layout.now in
    let keys = keys_of layout c.args.clk.now c.args.dat.now c.args.dump.now in
    subst (Plays layout (history_of_keys keys)) (sym (c.in_ok-text.ensures ∙ ap key_text c.in_ok-keys.ensures.keys))
    (keys_play layout c.args.clk.now c.args.dat.now c.args.dump.now c.is_layout.ensures)
