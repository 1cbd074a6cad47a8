use Rattle.std.proofs.Common.{◌≡◌, ◌∙◌, Bor, Global, List, ap}
use Rattle.std.specs.declared.alloc.AllocError.{AllocError}
use Rattle.std.specs.declared.vec.Vec.{Vec as VecOf}
use Rattle.rayon.proofs.ListFacts.{IfOk-then}
use Rattle.rayon.proofs.ToStd.{slice-AllZip}
use Rattle.cn_stocks.proofs.Decisions.{collected}
use Rattle.cn_changes.specs.Kinds.{HasNumberOf}
use Rattle.cn_changes.specs.Pairs.{with_both}
use Rattle.cn_changes.specs.declared.pairs.ChangePair.{ChangePair}
use Rattle.cn_changes.specs.declared.pairs.PairNumber.{PairNumber}
use Rattle.cn_changes.proofs.pairs.numbers_in.Goals as goal

pub returns : goal.returns
returns g c =
    let slice = ap (λ it. it.slice.now) c.with_min_len.ensures.base ∙ c.par_iter.ensures in
    let h = c.in_ok-collect.ensures in
    let chain = rw (c.map.ensures.base, c.map.ensures.f) at h.1 in
    let rel : ChangePair → PairNumber → Type 0 = λ pair one. (one.pair ≡ pair) × HasNumberOf c.args.kind (with_both c.args.table.now one.pair) one.number in
    let items : VecOf PairNumber Global → List PairNumber = λ v. v.items in
    IfOk-then c.in_ok-collect.field-0 _ _ (collected AllocError (λ (z : Bor ChangePair) told. rel z.now told) items chain.0 h.0 c.in_ok-collect.field-0 chain.2 h.2)
    (λ v all. slice-AllZip chain.0 c.args.pairs.now (chain.1 ∙ slice) rel (items v) all)
