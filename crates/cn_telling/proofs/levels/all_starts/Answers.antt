use Rattle.std.proofs.Common.{ℕ, ap, ◌∙◌}
use Rattle.rayon.proofs.ListFacts.{IfOk-then}
use Rattle.rayon.proofs.ToStd.{slice-AllZip}
use Rattle.cn_stocks.specs.declared.stocks.Stock.{Stock}
use Rattle.cn_telling.specs.Levels.{AreStarts}
use Rattle.cn_telling.proofs.levels.all_starts.Goals as goal

pub returns : goal.returns
returns g c =
    let slice = ap (λ it. it.slice.now) c.with_min_len.ensures.base ∙ c.par_iter.ensures in
    IfOk-then c.collect.result _ _ c.collect.ensures (λ v h.
    let chain = rw (c.map.ensures.base, c.map.ensures.f) at h.1 in
    let rel : Stock → ℕ → Type 0 = λ stock x. AreStarts c.args.table.now stock.operations.items x in
    rw h.2 (slice-AllZip chain.0 c.args.stocks.now (chain.1 ∙ slice) rel h.0 chain.2))
