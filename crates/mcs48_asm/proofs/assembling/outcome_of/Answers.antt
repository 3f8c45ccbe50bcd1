use Rattle.std.proofs.Common.{◌+◌, ◌∙◌, Err, ◌∷◌, ◌++◌, refl, [], ℕ, false, map, ap, sym, subst, arith, rules}
use Rattle.std.proofs.lemmas.List.{get_or-replicate, length-replicate}
use Rattle.std.specs.Str.Lines.{lines}
use Rattle.mcs48_asm.specs.Capped.{kept_places}
use Rattle.mcs48_asm.specs.Kept.{kept_line, kept_value, line_seen}
use Rattle.mcs48_asm.proofs.Passes.{IsPassed, begun, next, faulty, ended, placed-turn}
use Rattle.mcs48_asm.proofs.assembling.outcome_of.Goals as goal

pub loop-line-init : goal.loop-line-init
loop-line-init c =
    record {
      memory = length-replicate {A = ℕ} 2048 0;
      lines_left = omega arith;
      pass = (
        [],
        begun _ _ _ _ _ (λ q. ap (λ entries. kept_value entries q) c.with_hasher-seen.ensures.empty)
            (λ k l. get_or-replicate 2048 k false false l) (λ k l. get_or-replicate 2048 k 0 0 l),
      );
    }

pub returns-in-Some-fault_of : goal.returns-in-Some-fault_of
returns-in-Some-fault_of c =
    let names = kept_value c.args.names.now.entries in
    let all = kept_places 0 (map kept_line (lines c.args.text.now)) in
    let turn = placed-turn c.loop-line.place c.start_of-start.result _ c.loop-line.rest.now c.in-Some.more.now
    c.in-Some.line.now (line_seen c.line_of-line.result) c.in-Some.ensures.lines c.line_of-line.ensures c.start_of-start.ensures refl in
    let held = c.loop-line.invariant.pass in
    faulty names all _ _ (kept_value c.loop-line.seen.entries) c.loop-line.filled c.loop-line.bytes c.loop-line.number
    held.0 c.in-Some-fault_of.flaw
    (subst (λ rest. IsPassed names all rest
    (kept_value c.loop-line.seen.entries) c.loop-line.filled c.loop-line.bytes c.loop-line.number held.0) turn held.1)
    (sym c.in-Some-fault_of.ensures)
    ∙ ap (λ number. Err (c.loop-line.number + 1, number)) (sym c.number.ensures)

pub loop-line-preserved : goal.loop-line-preserved
loop-line-preserved c =
    let names = kept_value c.args.names.now.entries in
    let all = kept_places 0 (map kept_line (lines c.args.text.now)) in
    let turn = placed-turn c.loop-line.place c.start_of-start.result c.place_after-place.result c.loop-line.rest.now
    c.in-Some.more.now c.in-Some.line.now
    (line_seen c.line_of-line.result) c.in-Some.ensures.lines c.line_of-line.ensures c.start_of-start.ensures
    c.place_after-place.ensures in
    let held = c.loop-line.invariant.pass in
    record {
      memory = search rules;
      lines_left = omega (arith, c.loop-line.invariant.lines_left, c.in-Some.ensures.shorter);
      pass = (
        held.0 ++ record { start = c.start_of-start.result; line = line_seen c.line_of-line.result } ∷ [],
        next names all _ _ (kept_value c.loop-line.seen.entries)
            (kept_value c.define_names.new.names.entries) c.loop-line.filled c.fill.new.filled c.loop-line.bytes
            c.fill.new.bytes c.loop-line.number held.0
            (subst (λ rest. IsPassed names all rest
            (kept_value c.loop-line.seen.entries) c.loop-line.filled c.loop-line.bytes c.loop-line.number held.0) turn held.1)
            (sym c.in_default-fault_of.ensures) c.in_ok-define_names.ensures c.in_ok-fill.ensures.bytes c.in_ok-fill.ensures.marks,
      );
    }

pub returns : goal.returns
returns c =
    let names = kept_value c.args.names.now.entries in
    let all = kept_places 0 (map kept_line (lines c.args.text.now)) in
    let held = c.loop-line.invariant.pass in
    ended names all (kept_value c.loop-line.seen.entries) c.loop-line.filled c.loop-line.bytes c.loop-line.number held.0
    (subst (λ rest. IsPassed names all rest
    (kept_value c.loop-line.seen.entries) c.loop-line.filled c.loop-line.bytes c.loop-line.number held.0)
    (ap (λ ls. kept_places c.loop-line.place (map kept_line ls)) c.in_default.ensures.lines) held.1)
    c.loop-line.invariant.memory
