use Rattle.std.proofs.Common.{rules, ◌≡◌, ◌≢◌, ◌⊎◌, inl, inr}
use Rattle.std.specs.Prelude.{IfErr, OnOk}
use Rattle.std.proofs.lemmas.Result.{IfErr-weaker, IfOk-weaker}
use Rattle.cn_stock_cert.specs.Right.{AreBounds, AreInRange, ShowsAtLeast, ShowsAtMost}
use Rattle.cn_stock_check.proofs.Firsts.{first_range, first_type, most_right}
use Rattle.cn_stock_check.specs.MostFaults.{IsFirstMostFault}
use Rattle.cn_stock_check.specs.declared.fault.StockCheckFault.TheVariants.{OutOfMemory}
use Rattle.cn_stock_check.proofs.verdict.check_stocks.Goals as goal

pub returns-then-not-is_of_type-clause-refused : goal.returns-then-not-is_of_type-clause-refused
returns-then-not-is_of_type-clause-refused c =
    let named : c.args.certificate.now.type_name ≢ c.args.table.now.name = search rules in
    inr (first_type c.args.table.now c.args.certificate.now named)

pub returns-then-not-is_of_type-clause-passes : goal.returns-then-not-is_of_type-clause-passes
returns-then-not-is_of_type-clause-passes c =
    let named : c.args.certificate.now.type_name ≢ c.args.table.now.name = search rules in
    λ right. absurd (named right.type_name)

pub returns-then-not-are_in_range-clause-refused : goal.returns-then-not-are_in_range-clause-refused
returns-then-not-are_in_range-clause-refused c =
    let range : ¬ AreInRange c.args.certificate.now.at_least c.args.certificate.now.at_most = search rules in
    inr (first_range c.args.table.now c.args.certificate.now (c.is_of_type.ensures.0 c.if-not-is_of_type.false) range)

pub returns-then-not-are_in_range-clause-passes : goal.returns-then-not-are_in_range-clause-passes
returns-then-not-are_in_range-clause-passes c =
    let range : ¬ AreInRange c.args.certificate.now.at_least c.args.certificate.now.at_most = search rules in
    λ right. absurd (range right.in_range)

pub returns-clause-bounds : goal.returns-clause-bounds
returns-clause-bounds c =
    let named : c.args.certificate.now.type_name ≡ c.args.table.now.name = search rules in
    let range : AreInRange c.args.certificate.now.at_least c.args.certificate.now.at_most = search rules in
    let least : ShowsAtLeast c.args.table.now c.args.certificate.now.least c.args.certificate.now.at_least = search rules in
    let most : OnOk c.check_most.result (ShowsAtMost c.args.table.now c.args.certificate.now.most c.args.certificate.now.at_most) = search rules in
    IfOk-weaker c.check_most.result (λ _. ShowsAtMost c.args.table.now c.args.certificate.now.most c.args.certificate.now.at_most)
    (λ _. AreBounds c.args.table.now c.args.certificate.now.at_least c.args.certificate.now.at_most)
    (λ x s. c.right_bounds_hold.ensures c.args.table.now c.args.certificate.now (record { type_name = named; in_range = range; least = least; most = s })) most

pub returns-clause-passes : goal.returns-clause-passes
returns-clause-passes c = λ right.
    let fault : IfErr c.check_most.result (λ e. (e ≡ OutOfMemory) ⊎ IsFirstMostFault c.args.table.now c.args.certificate.now.most c.args.certificate.now.at_most e) = search rules in
    IfErr-weaker c.check_most.result (λ e. (e ≡ OutOfMemory) ⊎ IsFirstMostFault c.args.table.now c.args.certificate.now.most c.args.certificate.now.at_most e) (λ e. e ≡ OutOfMemory)
    (λ e h. elim h [ inl o ↦ o | inr m ↦ absurd (most_right c.args.table.now c.args.certificate.now.most c.args.certificate.now.at_most right.most e m.holds) ]) fault
