use Rattle.std.proofs.Common.{◌≡◌, ◌≤◌, ◌+◌, ◌-◌, [], refl, ap, sym, ◌∙◌, arith}
use Rattle.std.specs.Prelude.{slice_get}
use Rattle.board_terms.specs.declared.lines.Lines.{Lines}
use Rattle.joint_run.specs.Due.{beside, outside_of}
use Rattle.joint_run.specs.Joint.{Beside, latch_of}
use Rattle.ctl_wire.specs.Wires.{wires}
use Rattle.joint_run.proofs.Quiet.{IsQuiet, noted, quiet_parts, quiet_before, link_free, quiet_one, quiet_step, wires_free}
use Rattle.joint_run.proofs.outside.Outside.pass_in_frame.Goals as goal

pub returns-then-is_quiet : goal.returns-then-is_quiet
returns-then-is_quiet c =
    let o = c.args.self.now in
    let p2 = c.args.p2 in
    let now = c.args.now in
    let events = c.args.host.now in
    let last = now + c.args.cycles - 1 in
    let q : IsQuiet last p2 (slice_get events 0) o =
    quiet_parts last p2 (slice_get events 0) o
    (sym c.is_quiet.ensures ∙ c.if-is_quiet.true) in
    let before : now ≤ last = let some = c.requires.some in omega (arith, some) in
    let all = quiet_step events p2 c.args.cycles now last o c.requires.some c.requires.few refl q in
    let one = quiet_one events p2 now o (quiet_before now last p2 (slice_get events 0) o before q) in
    let line : c.latch-line.result ≡ wires (latch_of p2) (beside (noted p2 o) 0 []).pc =
    c.latch-line.ensures ∙ sym (wires_free (latch_of p2) o.desk.port.link (link_free last p2 (slice_get events 0) o q)) in
    record {
      passed = record {
        outside = ap (λ (l : Lines). record o { clock = l.clk }) c.latch-line.ensures ∙ ap outside_of (sym all);
        items = c.requires.none ∙ ap (λ (s : Beside). s.pc.side.log) (sym all);
        done = ap (λ (s : Beside). s.pc.side.done) (sym all);
        first = line ∙ ap (λ (s : Beside). wires (latch_of p2) s.pc) (sym one);
        last = line ∙ ap (λ (s : Beside). wires (latch_of p2) s.pc) (sym all);
      };
      empty = c.requires.empty;
    }
