use Rattle.std.proofs.Common.{sym, ◌∙◌}
use Rattle.queue_bytes.proofs.Checked.{no_fault, no_place, no_way}
use Rattle.queue_bytes.proofs.loading.check.Goals as goal

pub returns-then-not-edges_have_places-clause-checked : goal.returns-then-not-edges_have_places-clause-checked
returns-then-not-edges_have_places-clause-checked c =
    no_place c.args.bytes.now (sym c.is_whole.ensures.whole ∙ c.if-not-is_whole.false) (sym c.has_name.ensures ∙ c.if-not-has_name.false)
    (sym c.is_version_1.ensures ∙ c.if-not-is_version_1.false) (sym c.count_fits.ensures.fits ∙ c.if-not-count_fits.false)
    (sym c.edges_have_places.ensures ∙ c.if-not-edges_have_places.true)

pub returns-then-not-edges_have_ways-clause-checked : goal.returns-then-not-edges_have_ways-clause-checked
returns-then-not-edges_have_ways-clause-checked c =
    no_way c.args.bytes.now (sym c.is_whole.ensures.whole ∙ c.if-not-is_whole.false) (sym c.has_name.ensures ∙ c.if-not-has_name.false)
    (sym c.is_version_1.ensures ∙ c.if-not-is_version_1.false) (sym c.count_fits.ensures.fits ∙ c.if-not-count_fits.false)
    (sym c.edges_have_places.ensures ∙ c.if-not-edges_have_places.false) (sym c.edges_have_ways.ensures ∙ c.if-not-edges_have_ways.true)

pub returns-clause-checked : goal.returns-clause-checked
returns-clause-checked c =
    no_fault c.args.bytes.now (sym c.is_whole.ensures.whole ∙ c.if-not-is_whole.false) (sym c.has_name.ensures ∙ c.if-not-has_name.false)
    (sym c.is_version_1.ensures ∙ c.if-not-is_version_1.false) (sym c.count_fits.ensures.fits ∙ c.if-not-count_fits.false)
    (sym c.edges_have_places.ensures ∙ c.if-not-edges_have_places.false) (sym c.edges_have_ways.ensures ∙ c.if-not-edges_have_ways.false)
