use Rattle.cn_check.proofs.EntryTextLemmas.{accepted_with}
use Rattle.cn_check.proofs.acceptance.accepts.Goals as goal

pub returns : goal.returns
returns c = λ yes.
    accepted_with c.args.table.now _ c.args.certificate.now c.args.entries.now c.certificate.view_is (c.is_of_type.ensures.0 c.if-not-is_of_type.false)
    (c.is_in_range.ensures.0 c.if-not-is_in_range.false)
    c.in-Ok.ensures.fits c.in-Ok.ensures.witness (c.are_evidence.ensures yes)
