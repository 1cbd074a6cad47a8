use Rattle.std.proofs.Common.{◌≡◌, inl, inr, ℕ, List, Ok, refl, subst}
use Rattle.std.proofs.lemmas.Result.{err_from_is_err_and}
use Rattle.cn_cert.specs.Reading.{reading}
use Rattle.cn_io.specs.declared.fault.AppFault.TheVariants as fault
use Rattle.cn_io.specs.declared.fault.Source.TheVariants as source
use Rattle.cn_io.proofs.StreamLemmas.Texts.{not_read, value_read}
use Rattle.cn_io.proofs.readers.accepted.check_certificate.Goals as goal

pub returns-in_err-fill-clause-checked : goal.returns-in_err-fill-clause-checked
returns-in_err-fill-clause-checked g c =
    let p = err_from_is_err_and c.from_residual.result c.from_residual.ensures.1 in
    rw (p.1, p.2) (inl (c.in_err-fill.field-0.0, not_read source.Certificate fault.Certificate reading c.fill.new.self c.in_err-fill.field-0.0 c.in_err-fill.ensures.ended, refl))

pub returns-then-is_accepted-clause-checked : goal.returns-then-is_accepted-clause-checked
returns-then-is_accepted-clause-checked g c =
    let spelled = c.is_accepted.ensures c.if-is_accepted.true in
    let read = subst (λ (bytes : List ℕ). reading bytes ≡ Ok spelled.0) c.deref.ensures.value spelled.1 in
    (spelled.0, value_read source.Certificate fault.Certificate reading c.fill.new.self spelled.0 c.in_ok-fill.ensures.ended read, spelled.2)

pub returns-in_err-certificate-clause-checked : goal.returns-in_err-certificate-clause-checked
returns-in_err-certificate-clause-checked g c =
    let p = err_from_is_err_and c.from_residual-in_err-certificate.result c.from_residual-in_err-certificate.ensures.1 in
    rw (p.1, p.2) (inl (c.in_err-certificate.field-0.0, c.in_err-certificate.ensures, refl))

pub returns-in_err-check-clause-checked : goal.returns-in_err-check-clause-checked
returns-in_err-check-clause-checked g c =
    let p = err_from_is_err_and c.from_residual-in_err-check.result c.from_residual-in_err-check.ensures.1 in
    rw (p.1, p.2)
    (inr (c.in_ok-certificate.certificate, c.in_ok-certificate.ensures, (c.in_err-check.field-0.0, c.in_err-check.ensures.refused, refl)))

pub returns-clause-checked : goal.returns-clause-checked
returns-clause-checked g c = (c.in_ok-certificate.certificate, c.in_ok-certificate.ensures, c.in_ok-check.ensures.accepted)
