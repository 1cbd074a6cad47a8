use Rattle.cn_check.proofs.WitnessLemmas.{fits_for}
use Rattle.cn_reasons.proofs.reasons.way_of.Goals as goal

pub reason_among-requires-clause-fits : goal.reason_among-requires-clause-fits
reason_among-requires-clause-fits c = fits_for c.args.table.now c.args.n c.args.choice.now c.requires.some c.requires.few c.requires.fits

pub way_by-requires-clause-fits : goal.way_by-requires-clause-fits
way_by-requires-clause-fits c = fits_for c.args.table.now c.args.n c.args.choice.now c.requires.some c.requires.few c.requires.fits
