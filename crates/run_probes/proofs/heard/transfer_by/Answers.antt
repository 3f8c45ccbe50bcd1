use Rattle.std.proofs.Common.{◌≡◌, true, None, sym, ◌∙◌, arith}
use Rattle.run_probes.specs.Transfers.{are_spaced}
use Rattle.run_probes.proofs.Reading.{hosts, keyboards}
use Rattle.run_probes.proofs.heard.transfer_by.Goals as goal

pub returns-in-Some : goal.returns-in-Some
returns-in-Some c =
    let least = c.in-len11.len_at_least in
    let below = c.in-len11.len_below in
    let spaced : are_spaced c.args.falls.now ≡ true = cc (c.are_spaced.ensures, c.if-not-are_spaced.false) in
    sym (keyboards c.args.falls.now c.in-Some.byte (omega (arith, least, below)) spaced (sym c.byte_of.ensures.byte ∙ c.in-Some.is))

pub returns : goal.returns
returns c =
    let least = c.in-len11.len_at_least in
    let below = c.in-len11.len_below in
    let spaced : are_spaced c.args.falls.now ≡ true = cc (c.are_spaced.ensures, c.if-not-are_spaced.false) in
    let none : c.byte_of.result ≡ None = cc in
    sym (hosts c.args.falls.now c.in_ok-byte.byte (omega (arith, least, below)) spaced (sym c.byte_of.ensures.byte ∙ none) c.if-f10.false
    (sym c.byte_of-2.ensures.byte ∙ c.in_ok-byte.was))
