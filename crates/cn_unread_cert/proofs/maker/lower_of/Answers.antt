use Rattle.cn_unread_cert.proofs.Claims.{claim_shown, reads_shown}
use Rattle.cn_unread_cert.specs.declared.certificate.LeastClaim.TheVariants.{Further, Visible}
use Rattle.cn_unread_cert.proofs.maker.lower_of.Goals as goal

pub claimed-requires : goal.claimed-requires
claimed-requires c =
    claim_shown c.args.table.now c.args.number c.args.evidence _ (Visible c.in-Visible.choice) (λ n h. h) c.in-Visible.is c.requires

pub claimed-requires-in-Further : goal.claimed-requires-in-Further
claimed-requires-in-Further c =
    claim_shown c.args.table.now c.args.number c.args.evidence _ (Further c.in-Further.further) (λ n h. h) c.in-Further.is c.requires

pub told-requires-clause-reads : goal.told-requires-clause-reads
told-requires-clause-reads c =
    reads_shown c.args.table.now c.args.number c.args.evidence c.in-Telling.field-0 c.in-Telling.is c.requires
