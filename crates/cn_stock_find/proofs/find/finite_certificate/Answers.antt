use Rattle.std.proofs.Common.{ℕ, ◌≤◌, Option, subst, sym}
use Rattle.cn_choice.specs.Discerning.{IsNumberUpTo}
use Rattle.cn_stock_find.specs.Found.{IsCertificateOf, lower_bound}
use Rattle.cn_stocks.specs.declared.limits.TheConstants.{MOST_SIZE}
use Rattle.cn_stock_find.proofs.FindLemmas.{found_exactly, lower_within, number_within}
use Rattle.cn_stock_find.proofs.find.finite_certificate.Goals as goal

pub certificate_of-requires-clause-number : goal.certificate_of-requires-clause-number
certificate_of-requires-clause-number g c κs lives =
    subst (IsNumberUpTo c.args.table.now MOST_SIZE) (sym c.from_two-number.ensures) (number_within c.args.table.now c.args.n c.tables_are_valid.ensures.states.1 c.requires.number)

pub certificate_of-requires-clause-small : goal.certificate_of-requires-clause-small
certificate_of-requires-clause-small g c κs lives =
    subst (λ (number : Option ℕ). lower_bound number ≤ 16) (sym c.from_two-number.ensures) (lower_within c.args.table.now c.args.n c.tables_are_valid.ensures.states.1 c.requires.number)

pub returns : goal.returns
returns g c =
    let t = c.args.table.now in
    found_exactly t c.args.n c.tables_are_valid.ensures.states.1 c.requires.number _ (subst (λ number. IsCertificateOf t MOST_SIZE number c.in_ok-certificate.certificate) c.from_two-number.ensures c.in_ok-certificate.ensures)
