use Rattle.std.proofs.Common.{rules, refl, arith}
use Rattle.board_terms.specs.Matrix.{all_up}
use Rattle.queue_bytes.proofs.Matrices.{all_made, key_made}
use Rattle.queue_bytes.proofs.keys.matrix.Goals as goal

pub places-preserved : goal.places-preserved
places-preserved c =
    let below = c.places-test.true in
    record {
      most = omega (arith, below);
      so_far = key_made c.args.queue.now.down all_up c.places.matrix c.edge.new.self c.places.number c.place_of.result _
          (search rules) (omega (arith, below)) c.places.invariant.so_far c.place_of.ensures (search rules) c.edge.ensures.keys;
    }

pub returns : goal.returns
returns c =
    let most = c.places.invariant.most in
    let past = c.places-test.false in
    record {
      keys = all_made c.args.queue.now.down all_up c.places.matrix c.places.number (omega (arith, most, past)) (search rules) refl
          c.places.invariant.so_far;
    }
