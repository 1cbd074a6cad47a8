use Rattle.std.proofs.Common.{ap, length, ◌∙◌}
use Rattle.rayon.proofs.ListFacts.{IfOk-then}
use Rattle.rayon.proofs.ToStd.{slice-AllZip}
use Rattle.cn_stocks.specs.declared.stocks.Stock.{Stock}
use Rattle.cn_telling.specs.declared.ends.Ends.{Ends}
use Rattle.cn_stocks.specs.Reach.{AreEnds}
use Rattle.cn_telling.proofs.levels.all_ends.Goals as goal

pub returns : goal.returns
returns g c =
    let slice = ap (λ it. it.slice.now) c.with_min_len.ensures.base ∙ c.par_iter.ensures in
    IfOk-then c.collect.result _ _ c.collect.ensures (λ v h.
    let chain = rw (c.map.ensures.base, c.map.ensures.f) at h.1 in
    let rel : Stock → Ends → Type 0 = λ stock x. AreEnds c.args.table.now stock.operations.items (length c.args.table.now.states) x.states in
    rw h.2 (slice-AllZip chain.0 c.args.stocks.now (chain.1 ∙ slice) rel h.0 chain.2))
