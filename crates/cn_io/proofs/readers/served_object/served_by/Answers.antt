use Rattle.std.proofs.Common.{inl, inr, refl}
use Rattle.std.proofs.lemmas.Result.{err_from_is_err_and}
use Rattle.cn_io.proofs.readers.served_object.served_by.Goals as goal

pub returns-in_err-object : goal.returns-in_err-object
returns-in_err-object c =
    let p = err_from_is_err_and c.from_residual.result c.from_residual.ensures.1 in
    rw (p.1, p.2) (inl (c.in_err-object.field-0.0, c.in_err-object.ensures, refl))

pub returns : goal.returns
returns c = inr (c.in_ok-object.object, c.in_ok-object.ensures, refl)
