use Rattle.std.proofs.Common.{inl, inr, refl}
use Rattle.std.proofs.lemmas.Result.{err_from_is_err_and}
use Rattle.cn_io.proofs.readers.served_object.read_served_plan.Goals as goal

pub returns-in_err-object-clause-served : goal.returns-in_err-object-clause-served
returns-in_err-object-clause-served g c =
    let p = err_from_is_err_and c.from_residual-in_err-object.result c.from_residual-in_err-object.ensures.1 in
    rw (p.1, p.2)
    (inr (
      c.in_ok-table.table,
      c.in_ok-table.ensures.table,
      inr (
        c.in_ok-certificate.certificate,
        c.in_ok-certificate.ensures.certificate,
        inl (c.in_err-object.field-0.0, c.in_err-object.ensures.object, refl),
      ),
    ))

pub returns-clause-served : goal.returns-clause-served
returns-clause-served g c =
    inr (
      c.in_ok-table.table,
      c.in_ok-table.ensures.table,
      inr (
        c.in_ok-certificate.certificate,
        c.in_ok-certificate.ensures.certificate,
        inr (c.in_ok-object.object, c.in_ok-object.ensures.object, c.serve_with.ensures),
      ),
    )
