-- The edges that a tick takes are at places of the layout, and after it what its columns showed is what was read.
use Rattle.std.proofs.Common.{◌≡◌, ◌<◌, ℕ, ◌+◌, ◌*◌, ◌/◌, ◌%◌, Bool, List, All, length}
use Rattle.std.proofs.Common.{refl, ap, sym, ◌∙◌, subst, arith}
use Rattle.law_agreement.proofs.Columns.{edges_taken}
use Rattle.law_agreement.proofs.Placed.{IsOfLayout}
use Rattle.law_agreement.proofs.Taking.{flags_are, is_debounced, takes_placed}
use Rattle.bits.specs.Bits.{bit}
use Rattle.fw_compile.specs.Image.{image_of}
use Rattle.law_fw_keys.specs.Frameless.{edges_now, read_by, shown_by}
use Rattle.law_fw_keys.specs.State.{down_at, held_by}
use Rattle.law_fw_logic.specs.Ticks.{column_read}
use Rattle.joint_run.specs.Run.{Board, World}
use Rattle.model_keyboard.specs.Keyboard.{Keyboard}
use Rattle.layout_reader.specs.Layouts.{HasEntry, IsKeyLayout, KeyLayout}
use Rattle.model_link.proofs.Taken.{AreWide, shown_known, switched_known, turned_long, turned_shown}
use Rattle.model_link.specs.Debounce.{AreKnown, is_down_at, switched, taken, turned_all}
use Rattle.model_link.specs.Machine.{LayeredKeyboard}
use Rattle.model_link.specs.TickEdges.{shown}
use Rattle.law_any_host.specs.AnyPins.{ShowsOwnKeys, is_shown}

shown_read : (d : Board) (w : World d.State) (c r : ℕ) → c < 12 → r < 8
    → bit r (column_read d w c) ≡ is_shown d w (8 * c + r)
shown_read d w c r lc lr =
    let row : (8 * c + r) % 8 ≡ r = omega (arith, lr) in
    let column : (8 * c + r) / 8 ≡ c = omega (arith, lr) in
    ap (λ n. bit n (column_read d w c)) (sym row) ∙ ap (λ n. bit ((8 * c + r) % 8) (column_read d w n)) (sym column)

module _ (layout : KeyLayout) (fine : IsKeyLayout layout) (d : Board) (w : World d.State) (k : LayeredKeyboard)
    (keyboard : shown_by w.cpu.ram ≡ k.keyboard) (read : read_by (image_of layout) w.cpu.ram ≡ k.switches.read)
    (settled : k.keyboard.held ≡ k.switches.settled) where
  abbrev pub seen : List (ℕ × Bool)
  seen = shown (is_down_at k.switches.read) (is_shown d w)

  wide : AreWide k.switches
  wide = record {
    read = subst (λ h. length h ≡ 96) read refl;
    settled = subst (λ h. length h ≡ 96) settled (subst (λ (k : Keyboard). length k.held ≡ 96) keyboard refl);
  }

  -- of the edges that the columns show it takes those that settle
  pub edges_by : edges_now (image_of layout) d w ≡ taken layout.debounce seen k.switches
  edges_by =
      edges_taken d w (is_shown d w) (shown_read d w) k.switches (ap (λ (k : Keyboard). k.held) keyboard ∙ settled)
      (image_of layout) layout.debounce (is_debounced layout) read wide.read

  -- and what they show is what was read then
  pub next_read : held_by (column_read d w) ≡ turned_all seen k.switches.read
  next_read =
      flags_are (down_at (column_read d w)) 96 (turned_all seen k.switches.read)
      (turned_long seen k.switches.read ∙ wide.read)
      (λ p l. sym (turned_shown k.switches.read (is_shown d w) p wide.read l))

  module _ (own : ShowsOwnKeys layout d w) (known : AreKnown layout k.switches) where
    -- the edges that a tick takes are at places at which the layout's Fn key alone sends nothing
    pub edges_placed : All (IsOfLayout layout) (taken layout.debounce seen k.switches)
    edges_placed = takes_placed layout fine layout.debounce (is_shown d w) k.switches wide known own.placed

    -- after the tick no key is down that the layout doesn't have
    pub next_known : AreKnown layout (switched layout.debounce seen k.switches)
    next_known =
        switched_known layout layout.debounce seen k.switches
        (shown_known (HasEntry layout) (is_down_at k.switches.read) (is_shown d w) (λ p l. (known p l).0) own.placed) known
