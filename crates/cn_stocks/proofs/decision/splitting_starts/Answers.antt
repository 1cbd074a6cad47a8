use Rattle.std.proofs.Common.{ℕ, ◌≡◌, arith, subst}
use Rattle.cn_stocks.specs.declared.question.Question.TheVariants.{Splitting}
use Rattle.cn_stocks.specs.Splits.{AreSplittingStarts}
use Rattle.cn_stocks.proofs.Decisions.{starts_by}
use Rattle.cn_stocks.proofs.decision.splitting_starts.Goals as goal

pub returns : goal.returns
returns g c =
    let t = c.args.table.now in
    let set = c.starts_of_some.result in
    let all : c.loop-size.size ≡ c.args.n = omega (arith, c.loop-size-test.false, c.loop-size.auto.size-end) in
    subst (λ (n : ℕ). AreSplittingStarts t n set) all (starts_by Splitting t c.loop-size.size set c.loop-size.search c.loop-size.invariant c.starts_of_some.ensures)
