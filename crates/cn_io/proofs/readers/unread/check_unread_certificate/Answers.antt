use Rattle.std.proofs.Common.{inr, refl}
use Rattle.std.proofs.lemmas.Result.{err_from_is_err_and}
use Rattle.cn_io.proofs.readers.unread.check_unread_certificate.Goals as goal

pub returns-in_err-check_unread-clause-checked : goal.returns-in_err-check_unread-clause-checked
returns-in_err-check_unread-clause-checked g c =
    let p = err_from_is_err_and c.from_residual-in_err-check_unread.result c.from_residual-in_err-check_unread.ensures.1 in
    let fault = c.in_err-check_unread.field-0.0 in
    rw (p.1, p.2) (inr (c.in_ok-certificate.certificate, c.in_ok-certificate.ensures.certificate, (fault, c.in_err-check_unread.ensures.refused, refl)))
