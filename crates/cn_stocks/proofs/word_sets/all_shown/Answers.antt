use Rattle.std.proofs.Common.{ap, ◌∙◌, Global, IfOk, List, Result}
use Rattle.std.specs.declared.alloc.AllocError.{AllocError}
use Rattle.std.specs.declared.vec.Vec.{Vec as VecOf}
use Rattle.rayon.proofs.ToStd.{slice-AllZip}
use Rattle.cn_stocks.specs.declared.stocks.Stock.{Stock}
use Rattle.cn_stocks.specs.declared.word_sets.Shown.{Shown}
use Rattle.cn_stocks.specs.Reach.{AreShown}
use Rattle.cn_stocks.proofs.Decisions.{collected}
use Rattle.cn_stocks.proofs.word_sets.all_shown.Goals as goal

pub returns : goal.returns
returns g c =
    let slice = ap (λ it. it.slice.now) c.with_min_len.ensures.base ∙ c.par_iter.ensures in
    let h = c.in_ok-collect.ensures in
    let chain = rw (c.map.ensures.base, c.map.ensures.f) at h.1 in
    let rel : Stock → Shown → Type 0 = λ stock shown. AreShown c.args.table.now stock.operations.items shown.pairs.items in
    let items : VecOf Shown Global → List Shown = λ v. v.items in
    let whole : Stock → Result Shown AllocError → Type 0 = λ stock r. IfOk r (rel stock) in
    collected AllocError rel items c.args.stocks.now h.0 c.in_ok-collect.field-0 (slice-AllZip chain.0 c.args.stocks.now (chain.1 ∙ slice) whole h.0 chain.2) h.2
