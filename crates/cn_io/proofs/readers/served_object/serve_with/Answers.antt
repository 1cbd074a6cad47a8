use Rattle.std.proofs.Common.{inl, inr, refl}
use Rattle.std.proofs.lemmas.Result.{err_from_is_err_and}
use Rattle.cn_io.proofs.readers.served_object.serve_with.Goals as goal

pub returns-in_err-checked : goal.returns-in_err-checked
returns-in_err-checked c =
    let p = err_from_is_err_and c.from_residual.result c.from_residual.ensures.1 in
    rw (p.1, p.2) (inl (c.in_err-checked.field-0.0, c.in_err-checked.ensures, refl))

pub returns-in_err-plan : goal.returns-in_err-plan
returns-in_err-plan c =
    let p = err_from_is_err_and c.from_residual-in_err-plan.result c.from_residual-in_err-plan.ensures.1 in
    rw (p.1, p.2) (inr (c.in_ok-checked.checked, c.in_ok-checked.ensures, inl (c.in_err-plan.field-0.0, c.in_err-plan.ensures, refl)))

pub returns : goal.returns
returns c = inr (c.in_ok-checked.checked, c.in_ok-checked.ensures, inr (c.in_ok-plan.plan, c.in_ok-plan.ensures, c.served_by.ensures))
