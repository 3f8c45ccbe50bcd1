use Rattle.std.proofs.Common.{◌<◌, ◌∷◌, [], length, Some, refl, ◌∙◌, arith}
use Rattle.std.proofs.lemmas.List.{length-append, length-set}
use Rattle.key_file.proofs.Briefly.{latest_shifted}
use Rattle.key_file.proofs.LastEdges.{last-push, places-push}
use Rattle.key_file.proofs.brief.Brief.push_edge.Goals as goal

pub returns : goal.returns
returns c = record {
  brief = λ before h.
      let e = c.args.edge in
      let place = c.from.ensures ∙ c.number.ensures.number in
      let small : e.place < 96 = omega (arith, c.number.ensures.range, c.number.ensures.number) in
      let inside : c.from.result < length c.args.self.now.last = omega (arith, c.from.ensures, c.number.ensures.range, h.size) in
      record {
        size = length-set c.args.self.now.last c.from.result (Some e) ∙ h.size;
        last = λ p. last-push c.args.self.now.last before.edges e c.from.result p (h.last p) place inside;
        latest = c.followed-self.ensures ∙ latest_shifted before.edges c.args.self.now.latest e h.latest;
        count = let l = length-append before.edges (e ∷ []) in let n = h.count in omega (arith, l, n);
        stamp = refl;
        end = h.end;
        in_matrix = places-push before.edges e h.in_matrix small;
      };
}
