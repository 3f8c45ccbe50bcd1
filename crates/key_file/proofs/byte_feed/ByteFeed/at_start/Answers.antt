use Rattle.std.proofs.Common.{sym}
use Rattle.key_file.proofs.Cursors.{events_given}
use Rattle.key_file.proofs.byte_feed.ByteFeed.at_start.Goals as goal

pub invariant_of-result : goal.invariant_of-result
invariant_of-result c =
    let given = events_given c.args.layout.now c.args.bytes.now _ c.requires.history in
    record {
      file = c.requires.history;
      accepted = c.requires.accepted;
      end = c.requires.end;
      edges = sym given.edges;
      host = sym given.host;
    }
