use Rattle.std.proofs.Common.{inl, inr, refl}
use Rattle.std.proofs.lemmas.Result.{err_from_is_err_and}
use Rattle.cn_io.proofs.readers.opening.read_opening.Goals as goal

pub returns-in_err-object-clause-opening : goal.returns-in_err-object-clause-opening
returns-in_err-object-clause-opening g c =
    let p = err_from_is_err_and c.from_residual-in_err-object.result c.from_residual-in_err-object.ensures.1 in
    rw (p.1, p.2)
    (inr (
      c.in_ok-table.table,
      c.in_ok-table.ensures.table,
      inr (
        c.in_ok-certificate.certificate,
        c.in_ok-certificate.ensures.certificate,
        inl (c.in_err-object.field-0.0, c.in_err-object.ensures.object, refl),
      ),
    ))

pub returns-clause-opening : goal.returns-clause-opening
returns-clause-opening g c =
    inr (
      c.in_ok-table.table,
      c.in_ok-table.ensures.table,
      inr (
        c.in_ok-certificate.certificate,
        c.in_ok-certificate.ensures.certificate,
        inr (c.in_ok-object.object, c.in_ok-object.ensures.object, c.open_with.ensures),
      ),
    )
