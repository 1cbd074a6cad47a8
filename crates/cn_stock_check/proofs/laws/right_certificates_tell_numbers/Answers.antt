use Rattle.std.proofs.Common.{subst, ℕ, Option, Some}
use Rattle.cn_stock_cert.specs.Right.{AreBounds}
use Rattle.cn_stock_cert.specs.Right.{IsAtLeast}
use Rattle.cn_stock_check.proofs.laws.right_certificates_tell_numbers.Goals as goal

pub returns-clause-number : goal.returns-clause-number
returns-clause-number c = λ t certificate n right two least most.
    c.bounds_tell_numbers.ensures.number t n two (subst (λ (b : Option ℕ). AreBounds t (Some n) b) most
    (subst (λ (a : Option ℕ). AreBounds t a certificate.at_most) least (c.right_bounds_hold.ensures t certificate right)))

pub returns-clause-no_number : goal.returns-clause-no_number
returns-clause-no_number c = λ t certificate right most.
    c.bounds_tell_numbers.ensures.no_number t certificate.at_least (subst (λ (b : Option ℕ). AreBounds t certificate.at_least b) most (c.right_bounds_hold.ensures t certificate right))

pub returns-clause-always : goal.returns-clause-always
returns-clause-always c = λ t certificate right least. subst (IsAtLeast t) least (c.right_bounds_hold.ensures t certificate right).least
