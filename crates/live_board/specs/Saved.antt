-- What is saved of a keyboard: all but what its last step did.
use Rattle.joint_saved.specs.Saved.{Kept}
use Rattle.live_board.specs.declared.parts.Parts.{Parts as Keyboard}

abbrev pub kept : Keyboard → Kept
kept k = record {
  joint = k.joint;
  edges = k.due.edges.items;
  items = k.heard.items.items;
  lost = k.heard.lost;
  rises = k.rises;
}
